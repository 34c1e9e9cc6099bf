-- The results that each kind of event may have, by their first word.
use Rattle.std.specs.Prelude.{ℕ, Bool, true, false, ◌&&◌, ◌==◌, if◌then◌else◌, List, [], ◌∷◌, Option, None, Some, option_map, codes}
use Rattle.swap_base.specs.Sizes.{Sizes}
use Rattle.swap_base.specs.declared.Via.{Via}
use Rattle.swap_base.specs.declared.Via.TheVariants as via
use Rattle.swap_base.specs.declared.DiskWhich.{DiskWhich}
use Rattle.swap_base.specs.declared.DiskWhich.TheVariants as which
use Rattle.swap_io.specs.Words.{number}
use Rattle.swap_record.specs.declared.Op.{Op}
use Rattle.swap_record.specs.declared.Op.TheVariants as op
use Rattle.swap_record.specs.History.{is_page_out}
use Rattle.swap_script.specs.Forms.{◌>>=◌, small_number, no_word}
use Rattle.swap_script.specs.Lines.{is_word}
use Rattle.swap_wire.specs.declared.Event.{Event}
use Rattle.swap_wire.specs.declared.Event.TheVariants as event
use Rattle.swap_wire.specs.declared.Seen.{Seen}
use Rattle.swap_wire.specs.declared.Seen.TheVariants as seen
use Rattle.swap_transcript.specs.Readers.{Words, word_at, small_at, one_of, two_of, Row, row, by_row, by_row_or, by_rows, whole}
use Rattle.swap_transcript.specs.Messages.{msg_rows}
use Rattle.swap_transcript.specs.Told.{Told, Saw, Entered, Shown, entry_of}
use Rattle.swap_transcript.specs.Gave.{slots_of, gave_behind}

-- a result of one word, and one of numbers
abbrev pub bare_result : Seen → Words → Option Seen
bare_result seen words = no_word words >>= λ _. Some seen

abbrev pub last_number : Words → Option ℕ
last_number words = small_at words >>= whole

abbrev pub one_number : (ℕ → Seen) → Words → Option Seen
one_number f words = last_number words >>= λ n. Some (f n)

abbrev pub two_numbers : (ℕ → ℕ → Seen) → Words → Option Seen
two_numbers f words = two_of f words >>= whole

-- what a call waits for
abbrev pub by_disk : Words → Option (Via × Words)
by_disk words = Some (via.Disk, words)

abbrev pub via_rows : List (Row (Via × Words))
via_rows = row (codes "disk") by_disk ∷ row (codes "lender") (one_of (λ l. via.Lender (record { 0 = l }))) ∷ []

abbrev pub via_of : Words → Option Via
via_of words = by_rows via_rows words >>= whole

abbrev pub wait_of : Words → Option Seen
wait_of words = via_of words >>= λ v. Some (seen.Wait v)

abbrev pub again_of : Words → Option Seen
again_of words = via_of words >>= λ v. Some (seen.Again v)

-- one lender or two that were asked
abbrev pub second_of : ℕ → ℕ → Words → Option Seen
second_of s first [] = Some (seen.Asked (record { 0 = s }) (record { 0 = first }) None)
second_of s first (word ∷ words) =
    one_number (λ second. seen.Asked (record { 0 = s }) (record { 0 = first }) (Some (record { 0 = second })))
    (word ∷ words)

abbrev pub asked_of : Words → Option Seen
asked_of words = small_at words >>= λ s. (small_at s.1 >>= λ first. second_of s.0 first.0 first.1)

-- the mean of what a host uses, and the slots that were asked
abbrev pub hosted_behind : ℕ → Words → Option Seen
hosted_behind mean [] = Some (seen.Hosted mean 0)
hosted_behind mean (word ∷ words) =
    if is_word (codes "ask") word then (slots_of words >>= λ set. Some (seen.Hosted mean set)) else None

abbrev pub hosted_of : List ℕ → Words → Option Seen
hosted_of word words = number word >>= λ mean. hosted_behind mean words

abbrev pub rounded_of : List ℕ → Words → Option Seen
rounded_of word words = do
  effects ← small_number word
  behind ← word_at (codes "mapped") words
  one_number (λ mapped. seen.Rounded effects mapped) behind

abbrev pub took_of : Sizes → List ℕ → Words → Option Seen
took_of s word words = by_row (msg_rows s) word words >>= λ m. (whole m >>= λ msg. Some (seen.Took msg))

abbrev pub gave_of : Sizes → List ℕ → Words → Option Seen
gave_of s word words = by_row (msg_rows s) word words >>= λ m. gave_behind s m.0 m.1

-- the result that is printed as a dash
abbrev pub nothing_row : Row Seen
nothing_row = row (codes "-") (bare_result seen.Nothing)

-- what each kind of event may have besides an entry, by the first word
abbrev pub out_rows : List (Row Seen)
out_rows = row (codes "room") (bare_result seen.Room) ∷ row (codes "busy") (bare_result seen.Busy) ∷ []

abbrev pub in_rows : List (Row Seen)
in_rows = row (codes "wait") wait_of ∷ row (codes "busy") (bare_result seen.Busy) ∷ []

abbrev pub finish_rows : List (Row Seen)
finish_rows =
    row (codes "idle") (bare_result seen.Idle)
    ∷ row (codes "wait") wait_of
    ∷ row (codes "room") (bare_result seen.Room)
    ∷ row (codes "again") again_of
    ∷ []

abbrev pub start_rows : List (Row Seen)
start_rows =
    row (codes "write") (two_numbers (λ p e. seen.Started (record { 0 = p }) (record { 0 = e }))) ∷ nothing_row ∷ []

abbrev pub disk_rows : DiskWhich → Bool → List (Row Seen)
disk_rows (which.Write p) true =
    row (codes "written") (one_number (λ e. seen.Written (record { 0 = e }))) ∷ nothing_row ∷ []
disk_rows (which.Write p) false =
    row (codes "kept") (one_number (λ e. seen.WriteKept (record { 0 = e })))
    ∷ row (codes "dropped") (one_number (λ e. seen.WriteDropped (record { 0 = e })))
    ∷ nothing_row
    ∷ []
disk_rows (which.Read c) true =
    row (codes "came") (one_number (λ p. seen.ReadCame (record { 0 = p }))) ∷ nothing_row ∷ []
disk_rows (which.Read c) false =
    row (codes "failed") (one_number (λ p. seen.ReadFailed (record { 0 = p }))) ∷ nothing_row ∷ []

abbrev pub tick_rows : List (Row Seen)
tick_rows = row (codes "none") (bare_result seen.Ticked) ∷ row (codes "ask") asked_of ∷ []

abbrev pub map_rows : List (Row Seen)
map_rows = row (codes "borrow") (bare_result seen.Borrowing) ∷ nothing_row ∷ []

abbrev pub connect_rows : List (Row Seen)
connect_rows = row (codes "link") (one_number (λ n. seen.Linked (record { 0 = n }))) ∷ nothing_row ∷ []

abbrev pub give_rows : List (Row Seen)
give_rows = row (codes "end") (bare_result seen.GaveEnd) ∷ nothing_row ∷ []

abbrev pub take_rows : List (Row Seen)
take_rows = row (codes "lost") (bare_result seen.Lost) ∷ row (codes "lied") (bare_result seen.Lied) ∷ nothing_row ∷ []

abbrev pub cut_rows : List (Row Seen)
cut_rows = row (codes "cut") (bare_result seen.Cut) ∷ nothing_row ∷ []

abbrev pub crash_rows : List (Row Seen)
crash_rows = row (codes "crashed") (bare_result seen.Crashed) ∷ nothing_row ∷ []

abbrev pub nothing_rows : List (Row Seen)
nothing_rows = nothing_row ∷ []

abbrev pub seen_of : Sizes → Event → List ℕ → Words → Option Seen
seen_of s (event.PageOut c p) word words = by_row out_rows word words
seen_of s (event.PageIn c p) word words = by_row in_rows word words
seen_of s (event.Finish c) word words = by_row finish_rows word words
seen_of s event.Start word words = by_row start_rows word words
seen_of s (event.Disk which ok) word words = by_row (disk_rows which ok) word words
seen_of s (event.Tick w) word words = by_row tick_rows word words
seen_of s (event.Map slab l) word words = by_row map_rows word words
seen_of s (event.Connect l) word words = by_row connect_rows word words
seen_of s (event.Give l) word words = by_row_or give_rows (gave_of s) word words
seen_of s (event.Take l) word words = by_row_or take_rows (took_of s) word words
seen_of s (event.Cut l a b) word words = by_row cut_rows word words
seen_of s (event.Crash l) word words = by_row crash_rows word words
seen_of s (event.Host l u w) word words = by_row_or nothing_rows hosted_of word words
seen_of s (event.Round w) word words = rounded_of word words

-- An entry answers a call that begins, of its kind and its page, or one that is finished.
abbrev pub is_page_in : Op → Bool
is_page_in (op.PageIn named from) = true
is_page_in _ = false

abbrev pub agrees : Event → Shown → Bool
agrees (event.PageOut c p) shown = is_page_out shown.op && (shown.page.0 == p.0)
agrees (event.PageIn c p) shown = is_page_in shown.op && (shown.page.0 == p.0)
agrees (event.Finish c) shown = true
agrees _ shown = false

abbrev pub entered_at : ℕ → Event → Words → Option Told
entered_at size e words = entry_of size words >>= λ shown. if agrees e shown then Some (Entered shown) else None

-- what a line tells of an event, by the words behind the `=`
abbrev pub told_of : Sizes → Event → Words → Option Told
told_of s e [] = None
told_of s e (word ∷ words) =
    if is_word (codes "entry") word then entered_at s.page_bytes e words else option_map Saw (seen_of s e word words)
