-- How a caller's entries answer its calls, and what a thread leaves of its pass.
use Rattle.std.specs.Prelude.{◌≡◌, ◌<◌, ◌+◌, ℕ, All, Bool, true, false, if◌then◌else◌, List, [], ◌∷◌, length, map, Result, Ok, Err}
use Rattle.std.specs.List.{AllByRecursion}
use Rattle.swap_base.specs.declared.EntryNo.{EntryNo}
use Rattle.swap_base.specs.declared.Caller.{Caller}
use Rattle.swap_base.specs.Sizes.{Sizes}
use Rattle.swap_wire.specs.Input.{Input}
use Rattle.swap_wire.specs.declared.Event.{Event}
use Rattle.swap_wire.specs.declared.Seen.{Seen}
use Rattle.swap_record.specs.History.{History, Row}
use Rattle.swap_script.specs.Reading as reading
use Rattle.swap_script.specs.Reading.{Script}
use Rattle.swap_trace.specs.Traces.{calls_in}
use Rattle.swap_world.specs.Answered.{is_call_of}
use Rattle.swap_turn.specs.PassView.{LockId, PassView, IsFreeOf, pass_at_start}
use Rattle.swap_turn.specs.Turns.{entries_of, numbers_from}
use Rattle.swap_board.specs.Boards.{IsAnswered}
use Rattle.swap_player.specs.declared.paging.SwapFault.{SwapFault}
use Rattle.swap_player.specs.declared.paging.SwapFault.TheVariants as fault

-- an entry more, which answers this call
abbrev pub PlaysOne : Event → List ℕ → History → History → Type 0
PlaysOne e page before now = (row : Row) × IsAnswered e page row × (now ≡ row ∷ before)

-- an entry more for each of these calls, in order, which answers it
abbrev pub Plays : List Input → History → History → Type 0
Plays [] before now = now ≡ before
Plays (i ∷ is) before now = (row : Row) × IsAnswered i.event i.page row × Plays is (row ∷ before) now

-- a call that was answered: its entry tells the page, or that the disk failed
abbrev pub is_answer : Result EntryNo SwapFault → Bool
is_answer (Ok k) = true
is_answer (Err (fault.Disk k since at)) = true
is_answer (Err fault.Spent) = false
is_answer (Err fault.NoMemory) = false

-- what is left of a caller's calls in a text of these sizes and so many lenders
pub record AreCallsOf (s : Sizes) (lenders : ℕ) (c : Caller) (left : Script) : Type 0 where
  pub sizes : left.sizes ≡ s
  pub has : length left.lenders ≡ lenders
  pub own : AllByRecursion (λ (i : Input). reading.is_call_of c i.event ≡ true) left.inputs

abbrev pub caller : ℕ → Caller
caller n = record { 0 = n }

-- What a thread leaves: its pass, without a turn; and where it is a caller's and says so, each of its calls has its
-- entry.
pub record IsOver (lock : LockId) (t : Script) (p : PassView) (over : PassView × Bool) : Type 0 where
  pub free : IsFreeOf lock over.0
  pub number : over.0.number ≡ p.number
  pub plays :
      over.1 ≡ true → p.number < t.sizes.callers → Plays (calls_in (caller p.number) t).inputs p.mine over.0.mine

-- the events of a list, and of a log those that are a caller's calls
abbrev pub events_of : List Input → List Event
events_of is = map (λ (i : Input). i.event) is

abbrev pub calls_logged : Caller → List (Event × Seen) → List Event
calls_logged c [] = []
calls_logged c ((e, s) ∷ log) = if is_call_of c e then e ∷ calls_logged c log else calls_logged c log

-- the passes of all seats, as they are given over an empty history: of the callers, the operator, the disk and each
-- lender
pub record AreSeats (lock : LockId) (s : Sizes) (lenders : ℕ) (ps : List PassView) : Type 0 where
  pub free : All (IsFreeOf lock) ps
  pub newcomers : ps ≡ map (pass_at_start lock []) (numbers_from 0 (s.callers + lenders + 2))

-- each caller's calls have their entries in a history, one by one and in order, and it has no others
abbrev pub HavePlayed : Script → History → Type 0
HavePlayed t H = (c : Caller) → c.0 < t.sizes.callers → Plays (calls_in c t).inputs [] (entries_of c.0 H)
