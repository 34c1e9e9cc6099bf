-- The operator's events of a trace are an operator's.
use Rattle.std.proofs.Common.{◌≡◌, ℕ, Bool, true, false, List, [], ◌∷◌, ◌++◌, cond, length, refl, sym, ◌∙◌, subst, Option, None, Some}
use Rattle.std.proofs.lemmas.List.{append-nil}
use Rattle.std.specs.List.{AllByRecursion, filter}
use Rattle.swap_base.specs.Sizes.{Sizes}
use Rattle.swap_wire.specs.Input.{Input, IsInRange}
use Rattle.swap_wire.specs.declared.Event.{Event}
use Rattle.swap_wire.specs.declared.Event.TheVariants as event
use Rattle.swap_script.specs.Laws.{IsOfTrace}
use Rattle.swap_script.specs.Reading.{Script, first_event, is_operators}
use Rattle.swap_trace.specs.Laws.{AreInRange, HoldTraceEvents}
use Rattle.swap_trace.specs.Traces.{operators_in}
use Rattle.swap_board.specs.Acts.{IsOperators}
use Rattle.swap_board.specs.Boards.{AreOperators}
use Rattle.swap_play.specs.Callers.{events_of}
use Rattle.swap_play.specs.Playing.{IsTrace}

is_theirs : (tcp : Option ℕ) (e : Event) → IsOfTrace tcp e → is_operators e ≡ true → IsOperators e
is_theirs tcp (event.PageOut c p) of is = cc
is_theirs tcp (event.PageIn c p) of is = cc
is_theirs tcp (event.Map slab l) of is = tt
is_theirs tcp (event.Connect l) of is = tt
is_theirs tcp (event.Cut l a b) of is = tt
is_theirs tcp (event.Crash l) of is = tt
is_theirs tcp (event.Host l used word) of is = tt
is_theirs tcp (event.Round word) of is = tt
is_theirs None (event.Finish c) of is = absurd of
is_theirs None event.Start of is = absurd of
is_theirs None (event.Disk which ok) of is = absurd of
is_theirs None (event.Tick word) of is = absurd of
is_theirs None (event.Give l) of is = absurd of
is_theirs None (event.Take l) of is = absurd of
is_theirs (Some n) (event.Finish c) of is = absurd of
is_theirs (Some n) event.Start of is = absurd of
is_theirs (Some n) (event.Disk which ok) of is = absurd of
is_theirs (Some n) (event.Tick word) of is = absurd of
is_theirs (Some n) (event.Give l) of is = absurd of
is_theirs (Some n) (event.Take l) of is = absurd of

one_more :
    (tcp : Option ℕ) (s : Sizes) (lenders : ℕ) (i : Input) (rest : List Input) (b : Bool) → is_operators i.event ≡ b → IsInRange s lenders i.event
    → IsOfTrace tcp i.event → AreOperators s lenders (events_of rest) → AreOperators s lenders (events_of (cond b (i ∷ rest) rest))
one_more tcp s lenders i rest true is range of all = ((is_theirs tcp i.event of is, range), all)
one_more tcp s lenders i rest false is range of all = all

each_theirs :
    (tcp : Option ℕ) (s : Sizes) (lenders : ℕ) (is : List Input) → AllByRecursion (λ (i : Input). IsInRange s lenders i.event) is
    → AllByRecursion (λ (i : Input). IsOfTrace tcp i.event) is → AreOperators s lenders (events_of (filter (λ (i : Input). is_operators i.event) is))
each_theirs tcp s lenders [] range of = tt
each_theirs tcp s lenders (i ∷ is) range of =
    one_more tcp s lenders i (filter (λ (x : Input). is_operators x.event) is) (is_operators i.event) refl range.0 of.0
    (each_theirs tcp s lenders is range.1 of.1)

-- what is left of a walk at its end
pub taken_all : (items whole : List Event) (is : List Input) → first_event is ≡ None → items ++ events_of is ≡ whole → items ≡ whole
taken_all items whole [] none all = sym (append-nil items) ∙ all
taken_all items whole (i ∷ is) none all = cc

pub all_theirs :
    (t : Script) (es : List Event) → IsTrace t → AreInRange → HoldTraceEvents → es ≡ events_of (operators_in t).inputs
    → AreOperators t.sizes (length t.lenders) es
all_theirs t es of range kinds is =
    subst (AreOperators t.sizes (length t.lenders)) (sym is)
    (each_theirs of.tcp t.sizes (length t.lenders) t.inputs (range of.tcp of.text t of.is) (kinds of.tcp of.text t of.is))
