-- What it means that a trace was played.
use Rattle.std.specs.Prelude.{◌≡◌, ◌<◌, ℕ, true, List, [], length, Option, Ok}
use Rattle.std.specs.List.{AllByRecursion}
use Rattle.swap_base.specs.declared.Caller.{Caller}
use Rattle.swap_calls.specs.Calls.{state_of, is_idle}
use Rattle.swap_disk.specs.Port.{DiskCall, DiskAnswer}
use Rattle.swap_wire.specs.Input.{Input}
use Rattle.swap_wire.specs.Fabric.{FabricCall, FabricAnswer}
use Rattle.swap_script.specs.Reading as reading
use Rattle.swap_script.specs.Reading.{Script}
use Rattle.swap_table.specs.Device.{device_at_start}
use Rattle.swap_trace.specs.Traces.{trace, calls_in, operators_in}
use Rattle.swap_turn.specs.Turns.{entries_of}
use Rattle.swap_world.specs.Runs.{WorldView}
use Rattle.swap_board.specs.Acts.{Act, AreMade, Makes, operator_events}
use Rattle.swap_board.specs.Boards.{Named, BoardView, WasPlayed, seed_of}
use Rattle.swap_play.specs.Callers.{Plays, HavePlayed, events_of, calls_logged}
use Rattle.swap_play.specs.Connects.{Connects}
use Rattle.swap_play.specs.Settles.{Settles}

-- a text was read as this trace
pub record IsTrace (t : Script) : Type 0 where
  pub tcp : Option ℕ
  pub text : List ℕ
  pub is : trace tcp text ≡ Ok t

-- a world that nothing happened in, of a trace's sizes and number of lenders
pub record IsNew {D F : Type 0} (t : Script) (w : WorldView D F) : Type 0 where
  pub device : w.core.device ≡ device_at_start t.sizes (length t.lenders)
  pub log : w.log ≡ []

abbrev pub AreIdle : {D F : Type 0} → WorldView D F → Type 0
AreIdle w = (c : Caller) → c.0 < w.core.device.sizes.callers → is_idle (state_of w.core.device.calls c) ≡ true

-- in a world whose log has an idle caller's calls, they are those that its entries answer
abbrev pub LogTells : {D F : Type 0} → WorldView D F → Type 0
LogTells w =
    (c : Caller) (is : List Input) → c.0 < w.core.device.sizes.callers → is_idle (state_of w.core.device.calls c) ≡ true
    → AllByRecursion (λ (i : Input). reading.is_call_of c i.event ≡ true) is
    → Plays is [] (entries_of c.0 w.core.device.history) → calls_logged c w.log ≡ events_of is

-- a board's world at the end: all of the operator's events were made, every caller is idle, and all is settled
pub record IsEnded {D F : Type 0} (disk_moves : D → (c : DiskCall) → DiskAnswer c → D → Type 0)
    (moves : F → (c : FabricCall) → FabricAnswer c → F → Type 0) (n : Named D F) (w : WorldView D F) : Type 0 where
  pub board : BoardView D F
  pub world : w ≡ board.world
  pub played : WasPlayed disk_moves moves n board
  pub made : board.made ≡ length n.operator
  pub idle : AreIdle w
  pub settles : Settles disk_moves moves n.lenders w

-- Acts of callers, pumps, calls that pace themselves and the operator led from one world to another. The operator's are
-- those of the trace, in order, and a Round with the next word of the number's generator stands between any 257 calls.
pub record IsActedOut {D F : Type 0} (disk_moves : D → (c : DiskCall) → DiskAnswer c → D → Type 0)
    (moves : F → (c : FabricCall) → FabricAnswer c → F → Type 0) (t : Script) (number : ℕ)
    (connected w : WorldView D F) : Type 0 where
  pub acts : List Act
  pub makes : Makes disk_moves moves acts connected w
  pub made : AreMade (seed_of number) acts
  pub operated : operator_events acts ≡ events_of (operators_in t).inputs

-- Each caller's calls stand in the log and have their entries, one by one and in order, and nothing else of its does.
-- At the
-- end every caller is idle, and all is settled.
pub record IsCarriedOut {D F : Type 0} (disk_moves : D → (c : DiskCall) → DiskAnswer c → D → Type 0)
    (moves : F → (c : FabricCall) → FabricAnswer c → F → Type 0) (t : Script) (number : ℕ)
    (connected w : WorldView D F) : Type 0 where
  pub acted : IsActedOut disk_moves moves t number connected w
  pub answered : HavePlayed t w.core.device.history
  pub called : (c : Caller) → c.0 < t.sizes.callers → calls_logged c w.log ≡ events_of (calls_in c t).inputs
  pub idle : (c : Caller) → c.0 < t.sizes.callers → is_idle (state_of w.core.device.calls c) ≡ true
  pub settles : Settles disk_moves moves (length t.lenders) w

-- A trace was played from one world to another: each lender was connected, and then the trace was carried out.
pub record IsPlayedOut {D F : Type 0} (disk_moves : D → (c : DiskCall) → DiskAnswer c → D → Type 0)
    (moves : F → (c : FabricCall) → FabricAnswer c → F → Type 0) (t : Script) (number : ℕ)
    (first w : WorldView D F) : Type 0 where
  pub connected : WorldView D F
  pub connects : Connects disk_moves moves (length t.lenders) first connected
  pub carried : IsCarriedOut disk_moves moves t number connected w
