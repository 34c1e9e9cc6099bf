-- What a lender did with a message, and the slots of a set.
use Rattle.std.specs.Prelude.{ℕ, ◌+◌, ◌^◌, ◌&&◌, ◌==◌, nat_lt, nat_le, if◌then◌else◌, [], ◌∷◌, Option, None, Some, codes, bit_or}
use Rattle.swap_base.specs.Sizes.{Sizes}
use Rattle.swap_script.specs.Forms.{◌>>=◌, small_number, no_word}
use Rattle.swap_script.specs.Lines.{is_word}
use Rattle.swap_wire.specs.declared.Msg.{Msg}
use Rattle.swap_wire.specs.declared.Seen.{Seen}
use Rattle.swap_wire.specs.declared.Seen.TheVariants as seen
use Rattle.swap_transcript.specs.Readers.{Words}
use Rattle.swap_transcript.specs.Messages.{msg_at}

-- the slots of a set, ascending, behind those below `least`
abbrev pub slots_from : ℕ → ℕ → Words → Option ℕ
slots_from least set [] = Some set
slots_from least set (word ∷ words) =
    small_number word >>= λ slot. if nat_le least slot && nat_lt slot 64
    then slots_from (slot + 1) (bit_or set (2 ^ slot)) words else None

-- one slot or more
abbrev pub slots_of : Words → Option ℕ
slots_of words = slots_from 0 0 words >>= λ set. if set == 0 then None else Some set

-- the slots that were told to go, if some were
abbrev pub evicted_of : Msg → Option Msg → Words → Option Seen
evicted_of m reply [] = Some (seen.Gave m reply 0)
evicted_of m reply (word ∷ words) =
    if is_word (codes "evict") word then (slots_of words >>= λ set. Some (seen.Gave m reply set)) else None

-- behind the message that a lender took: its reply, the slots, or that it ended the link
abbrev pub reply_of : Sizes → Msg → Words → Option Seen
reply_of s m words = msg_at s words >>= λ reply. evicted_of m (Some reply.0) reply.1

abbrev pub ended_of : Msg → Words → Option Seen
ended_of m words = no_word words >>= λ _. Some (seen.GaveEnded m)

abbrev pub gave_behind : Sizes → Msg → Words → Option Seen
gave_behind s m [] = Some (seen.Gave m None 0)
gave_behind s m (word ∷ words) =
    if is_word (codes ">") word then reply_of s m words else
    (if is_word (codes "ended") word then ended_of m words else evicted_of m None (word ∷ words))
