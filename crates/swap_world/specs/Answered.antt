-- Each caller's answered calls stand in the history once, in the caller's order.
use Rattle.std.specs.Prelude.{◌≡◌, ℕ, Bool, true, false, ◌&&◌, ◌==◌, not, if◌then◌else◌, List, [], ◌∷◌}
use Rattle.swap_base.specs.declared.Caller.{Caller}
use Rattle.swap_base.specs.declared.CallKind.TheVariants as kind
use Rattle.swap_wire.specs.declared.Event.{Event}
use Rattle.swap_wire.specs.declared.Event.TheVariants as event
use Rattle.swap_wire.specs.declared.Seen.{Seen}
use Rattle.swap_wire.specs.declared.Seen.TheVariants as seen
use Rattle.swap_wire.specs.Input.{Input}
use Rattle.swap_calls.specs.Calls.{state_of, is_idle}
use Rattle.swap_record.specs.declared.Op.{Op}
use Rattle.swap_record.specs.declared.Op.TheVariants as op
use Rattle.swap_record.specs.History.{Row, entries_of}
use Rattle.swap_table.specs.Device.{Device}

abbrev pub is_call_of : Caller → Event → Bool
is_call_of c (event.PageOut d p) = d.0 == c.0
is_call_of c (event.PageIn d p) = d.0 == c.0
is_call_of c _ = false

abbrev pub is_busy : Seen → Bool
is_busy seen.Busy = true
is_busy _ = false

-- the calls of a caller that weren't made while it was busy, the newest first
abbrev pub with_call : Caller → Input → Seen → List Input → List Input
with_call c i s calls = if is_call_of c i.event && not (is_busy s) then i ∷ calls else calls

abbrev pub calls_of : Caller → List (Input × Seen) → List Input
calls_of c [] = []
calls_of c ((i, s) ∷ made) = with_call c i s (calls_of c made)

abbrev pub IsOutOrFault : Op → Type 0
IsOutOrFault op.PageOut = Unit {0}
IsOutOrFault (op.PageIn named from) = ⊥
IsOutOrFault (op.Failed kind.PageOut since at) = Unit {0}
IsOutOrFault (op.Failed kind.PageIn since at) = ⊥

abbrev pub IsInOrFault : Op → Type 0
IsInOrFault op.PageOut = ⊥
IsInOrFault (op.PageIn named from) = Unit {0}
IsInOrFault (op.Failed kind.PageOut since at) = ⊥
IsInOrFault (op.Failed kind.PageIn since at) = Unit {0}

-- an entry answers a call: it has its page and kind, and a page-out's bytes
abbrev pub Answers : List ℕ → Event → Row → Type 0
Answers page (event.PageOut c p) row = (row.entry.page ≡ p) × IsOutOrFault row.entry.op × (row.bytes ≡ page)
Answers page (event.PageIn c p) row = (row.entry.page ≡ p) × IsInOrFault row.entry.op
Answers page _ row = ⊥

abbrev pub AnswersEach : List Input → List Row → Type 0
AnswersEach [] [] = Unit {0}
AnswersEach (i ∷ is) (row ∷ rows) = Answers i.page i.event row × AnswersEach is rows
AnswersEach [] (row ∷ rows) = ⊥
AnswersEach (i ∷ is) [] = ⊥

-- the newest call has no entry yet exactly where the caller isn't idle
abbrev pub AnswersAll : Bool → List Input → List Row → Type 0
AnswersAll true is rows = AnswersEach is rows
AnswersAll false [] rows = ⊥
AnswersAll false (open_ ∷ is) rows = AnswersEach is rows

-- after these events each call of this caller was answered once
abbrev pub AreAnsweredOnce : Caller → List (Input × Seen) → Device → Type 0
AreAnsweredOnce c made d = AnswersAll (is_idle (state_of d.calls c)) (calls_of c made) (entries_of c d.history)
