-- What a script's text gives.
use Rattle.std.specs.Prelude.{◌≡◌, ◌<◌, ℕ, Bool, true, false, List, [], take, Result, Ok, flat_map}
use Rattle.std.specs.List.{list_any}
use Rattle.swap_base.specs.declared.Caller.{Caller}
use Rattle.swap_base.specs.Sizes.{zeros}
use Rattle.swap_wire.specs.declared.Event.{Event}
use Rattle.swap_wire.specs.declared.Seen.{Seen}
use Rattle.swap_record.specs.declared.Op.{Op}
use Rattle.swap_record.specs.declared.Op.TheVariants.{PageOut, PageIn, Failed}
use Rattle.swap_record.specs.History.{History, Row, IsLegal}
use Rattle.swap_joint.specs.Owned.{IsLent}
use Rattle.swap_world.specs.World.{World, start, reach, seens, history, made_by}
use Rattle.swap_world.specs.Answered.{AreAnsweredOnce}
use Rattle.swap_world.specs.Failures.{HoldsEntriesSeen, failed_writes_in, failed_reads_in}
use Rattle.swap_wire.specs.Input.{Input}
use Rattle.swap_script.specs.declared.ScriptRefused.{ScriptRefused}
use Rattle.swap_script.specs.Reading.{Script, script, ◌>>=◌}
use Rattle.swap_script.specs.Transcript.{transcript, line}

-- the world after a script's events, their history, and their transcript
abbrev pub world_of : Script → World
world_of s = reach (start s.sizes s.lenders) s.inputs

abbrev pub history_of : Script → History
history_of s = history (world_of s)

abbrev pub transcript_of : Script → List ℕ
transcript_of s = transcript s.sizes s.lenders (seens (start s.sizes s.lenders) s.inputs) (history_of s)

abbrev pub output_of : List ℕ → Result (List ℕ) ScriptRefused
output_of text = script text >>= λ s. Ok (transcript_of s)

-- the lines of events with what was seen of each
abbrev pub lines_of : History → List (Event × Seen) → List ℕ
lines_of H pairs = flat_map (line H) pairs

-- some call failed
abbrev pub is_failed : Op → Bool
is_failed PageOut = false
is_failed (PageIn named from) = false
is_failed (Failed kind since at) = true

abbrev pub is_failed_row : Row → Bool
is_failed_row row = is_failed row.entry.op

abbrev pub has_failed : History → Bool
has_failed H = list_any is_failed_row H

-- what was seen of each event of a script, the newest first
abbrev pub made_of : Script → List (Input × Seen)
made_of s = made_by [] (start s.sizes s.lenders) s.inputs

-- The history that a script prints is one of an array of pages that starts as zeros, and holds each caller's answered
-- calls once, in its order. It is exactly the entries that were seen, and a failure has its cause: the counts of its
-- own call, and for a page-in its own failed read. After each front of its events a set bit means that the remote copy
-- is the newest, and a lent slab has one owner.
pub record IsHeadline (s : Script) : Type 0 where
  pub legal : IsLegal (zeros s.sizes) (history_of s)
  pub once : (c : Caller) → c.0 < s.sizes.callers → AreAnsweredOnce c (made_of s) (world_of s).device
  pub entries : HoldsEntriesSeen (made_of s) (history_of s)
  pub lent : (n : ℕ) → let w : World = reach (start s.sizes s.lenders) (take n s.inputs) in IsLent w.device w.harbor

-- so has each text that is a script
abbrev pub ScriptsKeepTheHeadline : Type 0
ScriptsKeepTheHeadline = (text : List ℕ) (s : Script) → script text ≡ Ok s → IsHeadline s

-- no call of a script fails where no disk operation was seen to fail
abbrev pub FailsWithTheDisk : Type 0
FailsWithTheDisk =
    (text : List ℕ) (s : Script) → script text ≡ Ok s → failed_writes_in (made_of s) ≡ 0
    → failed_reads_in (made_of s) ≡ 0
    → has_failed (history_of s) ≡ false
