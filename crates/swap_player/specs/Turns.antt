-- What a call over the lock does to its pass.
use Rattle.std.specs.Prelude.{◌≡◌, ◌⊎◌, ◌+◌, ◌<◌, ℕ, Bool, true, false, List, [], ◌∷◌, length, MatchOption, Option, None, Some, Result, Ok, Err}
use Rattle.swap_base.specs.declared.EntryNo.{EntryNo}
use Rattle.swap_base.specs.declared.Caller.{Caller}
use Rattle.swap_wire.specs.declared.Event.{Event}
use Rattle.swap_wire.specs.declared.Event.TheVariants as event
use Rattle.swap_wire.specs.declared.Seen.{Seen}
use Rattle.swap_record.specs.declared.Entry.{Entry}
use Rattle.swap_record.specs.declared.Op.{Op}
use Rattle.swap_record.specs.declared.Op.TheVariants as op
use Rattle.swap_record.specs.History.{History, Row, next_name, row_named}
use Rattle.swap_calls.specs.Calls.{Call}
use Rattle.swap_calls.specs.declared.CallState.TheVariants.{Room, Reading}
use Rattle.swap_calls.specs.declared.Arrived.{Arrived}
use Rattle.swap_base.specs.declared.Via.{Via}
use Rattle.swap_device.specs.State.{GivesLast}
use Rattle.swap_turn.specs.Turns.{IsEarlier}
use Rattle.swap_turn.specs.PassView.{PassView}
use Rattle.swap_world.specs.Runs.{WorldView, entry_seen}
use Rattle.swap_wire.specs.Fabric.{FabricCall, FabricAnswer}
use Rattle.swap_disk.specs.Port.{DiskCall, DiskAnswer}
use Rattle.swap_board.specs.Boards.{Named, BoardView, WasPlayed, IsAnswered}
use Rattle.swap_player.specs.declared.paging.SwapFault.{SwapFault}
use Rattle.swap_player.specs.declared.paging.SwapFault.TheVariants as fault
use Rattle.swap_player.specs.declared.paging.Ended.{Ended}

-- how a call ended, by the entry that the history got of it
abbrev pub answer_of : EntryNo → Op → Result EntryNo SwapFault
answer_of k op.PageOut = Ok k
answer_of k (op.PageIn named from) = Ok k
answer_of k (op.Failed kind since at) = Err (fault.Disk k since at)

abbrev pub ended_of : EntryNo → Entry → Ended
ended_of k entry = record { answer = answer_of k entry.op; number = entry.number }

-- a call that ended without an entry
abbrev pub ended_without : SwapFault → Ended
ended_without why = record { answer = Err why; number = 0 }

-- how a call ended, by what was seen of its step
abbrev pub IsEnded : History → Seen → Option Ended → Type 0
IsEnded H s ended =
    MatchOption (entry_seen s) (ended ≡ None)
    (λ (k : EntryNo). (row : Row) × (row_named H k.0 ≡ Some row) × (ended ≡ Some (ended_of k row.entry)))

-- the caller of a call
abbrev pub caller_of : Event → Caller
caller_of (event.PageOut c p) = c
caller_of (event.PageIn c p) = c
caller_of _ = record { 0 = 0 }

-- a call that waits is this one: a page-out of this page with these bytes, or a page-in of this page
abbrev pub IsOpen : Event → List ℕ → Call → Type 0
IsOpen (event.PageOut c p) page call = (since : ℕ) × (call.state ≡ Room p since) × (call.bytes ≡ page)
IsOpen (event.PageIn c p) page call =
    (newest : EntryNo)
    × ((via : Via)
    × ((how : Arrived) × ((newer : Bool) × ((since : ℕ) × (call.state ≡ Reading p newest via how newer since)))))
IsOpen _ page call = ⊥

-- the history has this call's entry more, which the answer names
pub record AddsOne (e : Event) (page : List ℕ) (ended : Ended) (before now : History) : Type 0 where
  pub row : Row
  pub grown : now ≡ row ∷ before
  pub answers : IsAnswered e page row
  pub tells : ended ≡ ended_of (next_name before) row.entry

-- so many calls were begun, of which each but those under way has its entry
abbrev pub IsSpent : ℕ → ℕ → History → Type 0
IsSpent calls callers H = calls < length H + callers

abbrev pub IsSpentAs : ℕ → ℕ → History → Ended → Type 0
IsSpentAs calls callers H ended =
    (ended ≡ ended_without fault.NoMemory) ⊎ ((ended ≡ ended_without fault.Spent) × IsSpent calls callers H)

-- what a turn of a call does to the history
abbrev pub EndsBy : ℕ → ℕ → Event → List ℕ → Ended → Result EntryNo SwapFault → History → History → Type 0
EndsBy calls callers e page ended (Ok k) before now = AddsOne e page ended before now
EndsBy calls callers e page ended (Err (fault.Disk k since at)) before now = AddsOne e page ended before now
EndsBy calls callers e page ended (Err fault.Spent) before now = (now ≡ before) × IsSpent calls callers now
EndsBy calls callers e page ended (Err fault.NoMemory) before now = now ≡ before

abbrev pub Ends : ℕ → ℕ → Event → List ℕ → Option Ended → History → History → Type 0
Ends calls callers e page None before now = now ≡ before
Ends calls callers e page (Some ended) before now = EndsBy calls callers e page ended ended.answer before now

-- the pass has this call's entry more, which is the last that it has seen
pub record Answered (e : Event) (page : List ℕ) (ended : Ended) (p q : PassView) : Type 0 where
  pub row : Row
  pub earlier : History
  pub seen : q.seen ≡ row ∷ earlier
  pub since : IsEarlier p.seen earlier
  pub answers : IsAnswered e page row
  pub tells : ended ≡ ended_of (next_name earlier) row.entry
  pub mine : q.mine ≡ row ∷ p.mine

-- the pass has no entry more, and has seen no less
abbrev pub Looked : PassView → PassView → Type 0
Looked p q = IsEarlier p.seen q.seen × (q.mine ≡ p.mine)

-- what a call does to its pass
abbrev pub PagesBy : ℕ → ℕ → Event → List ℕ → Ended → Result EntryNo SwapFault → PassView → PassView → Type 0
PagesBy calls callers e page ended (Ok k) p q = Answered e page ended p q
PagesBy calls callers e page ended (Err (fault.Disk k since at)) p q = Answered e page ended p q
PagesBy calls callers e page ended (Err fault.Spent) p q = Looked p q × IsSpent calls callers q.seen
PagesBy calls callers e page ended (Err fault.NoMemory) p q = Looked p q

abbrev pub Pages : ℕ → ℕ → Event → List ℕ → Ended → PassView → PassView → Type 0
Pages calls callers e page ended p q = PagesBy calls callers e page ended ended.answer p q

-- so of its answer alone
pub record PagesAs (calls callers : ℕ) (e : Event) (page : List ℕ) (answer : Result EntryNo SwapFault)
    (p q : PassView) : Type 0 where
  pub ended : Ended
  pub is : answer ≡ ended.answer
  pub pages : Pages calls callers e page ended p q

-- and what a turn of it does
abbrev pub Turns : ℕ → ℕ → Event → List ℕ → Option Ended → PassView → PassView → Type 0
Turns calls callers e page None p q = Looked p q
Turns calls callers e page (Some ended) p q = Pages calls callers e page ended p q

-- a page-in that was answered gives its page; else the buffer is as it was
abbrev pub GivesBy : Result EntryNo SwapFault → History → List ℕ → List ℕ → Type 0
GivesBy (Ok k) H before given = GivesLast H before given
GivesBy (Err why) H before given = given ≡ before

abbrev pub Gives : Option Ended → History → List ℕ → List ℕ → Type 0
Gives None H before given = given ≡ before
Gives (Some ended) H before given = GivesBy ended.answer H before given

-- a world that was under the lock: acts led to it from the one that was handed in
pub record IsPlayed {D F : Type 0} (disk_moves : D → (c : DiskCall) → DiskAnswer c → D → Type 0)
    (moves : F → (c : FabricCall) → FabricAnswer c → F → Type 0) (n : Named D F) (w : WorldView D F) : Type 0 where
  pub board : BoardView D F
  pub world : w ≡ board.world
  pub played : WasPlayed disk_moves moves n board
