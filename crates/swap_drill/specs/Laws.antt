-- What holds of every drill.
use Rattle.std.specs.Prelude.{◌≡◌, ℕ, ◌<◌, List, [], take}
use Rattle.swap_base.specs.declared.Caller.{Caller}
use Rattle.swap_base.specs.Sizes.{zeros}
use Rattle.swap_wire.specs.Input.{Input}
use Rattle.swap_wire.specs.declared.Seen.{Seen}
use Rattle.swap_record.specs.History.{IsLegal}
use Rattle.swap_joint.specs.Owned.{IsLent}
use Rattle.swap_world.specs.World.{World, start, reach, history, made_by}
use Rattle.swap_world.specs.Answered.{AreAnsweredOnce}
use Rattle.swap_world.specs.Failures.{HoldsEntriesSeen}
use Rattle.swap_world.specs.Laws.{AreInputs, Agrees}
use Rattle.swap_drill.specs.Drill.{drill_sizes, drill_lenders, drill_events, drill_world}

-- what was seen of each event of a drill, the newest first
abbrev pub drill_made : ℕ → ℕ → List (Input × Seen)
drill_made number calls = made_by [] (start drill_sizes drill_lenders) (drill_events number calls)

-- A drill's world is one of `reach`, by events that name what there is and hand in whole pages. So its history is one
-- of
-- an array of pages that starts as zeros, and holds each caller's answered calls once, in its order; it is exactly the
-- entries that were seen; the device, its disk and its links agree; and after each front of its events a set bit means
-- that the remote copy is the newest, and a lent slab has one owner.
pub record KeepsHeadline (number calls : ℕ) : Type 0 where
  pub reached : drill_world number calls ≡ reach (start drill_sizes drill_lenders) (drill_events number calls)
  pub inputs : AreInputs drill_sizes drill_lenders (drill_events number calls)
  pub legal : IsLegal (zeros drill_sizes) (history (drill_world number calls))
  pub once : (c : Caller) → c.0 < 4 → AreAnsweredOnce c (drill_made number calls) (drill_world number calls).device
  pub entries : HoldsEntriesSeen (drill_made number calls) (history (drill_world number calls))
  pub agrees : Agrees (drill_world number calls)
  pub lent : (n : ℕ) → let w : World = reach (start drill_sizes drill_lenders) (take n (drill_events number calls)) in
      IsLent w.device w.harbor

-- so does each drill
abbrev pub DrillsKeepTheHeadline : Type 0
DrillsKeepTheHeadline = (number calls : ℕ) → KeepsHeadline number calls
