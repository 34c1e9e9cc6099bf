-- Where a caller's entries are those of its calls, so are its events.
use Rattle.std.proofs.Common.{◌≡◌, ◌==◌, ℕ, true, List, [], ◌∷◌, refl, sym, ap, ◌∙◌, subst, arith}
use Rattle.std.specs.List.{AllByRecursion}
use mathlib.Core.List.{reverse_aux}
use Rattle.std.proofs.lemmas.Bool.Decides.{nat_tests}
use Rattle.swap_base.specs.declared.Caller.{Caller}
use Rattle.swap_base.specs.declared.Page.{Page}
use Rattle.swap_base.specs.declared.CallKind.TheVariants as kind
use Rattle.swap_wire.specs.Input.{Input}
use Rattle.swap_wire.specs.declared.Event.{Event}
use Rattle.swap_wire.specs.declared.Event.TheVariants as event
use Rattle.swap_record.specs.History.{History, Row}
use Rattle.swap_record.specs.declared.Op.{Op}
use Rattle.swap_record.specs.declared.Op.TheVariants as op
use Rattle.swap_script.specs.Reading as reading
use Rattle.swap_world.specs.Answered.{is_call_of, Answers, AnswersEach, IsOutOrFault, IsInOrFault}
use Rattle.swap_board.specs.Boards.{IsAnswered}
use Rattle.swap_play.specs.Callers.{Plays, events_of}

abbrev pub AreOf : Caller → List Input → Type 0
AreOf c is = AllByRecursion (λ (i : Input). is_call_of c i.event ≡ true) is

abbrev pub AreIn : Caller → List Input → Type 0
AreIn c is = AllByRecursion (λ (i : Input). reading.is_call_of c i.event ≡ true) is

out_not_in : (o : Op) → IsOutOrFault o → IsInOrFault o → ⊥
out_not_in op.PageOut a b = b
out_not_in (op.PageIn named from) a b = a
out_not_in (op.Failed kind.PageOut since at) a b = b
out_not_in (op.Failed kind.PageIn since at) a b = a

same_caller : (d c : Caller) → (d.0 == c.0) ≡ true → d ≡ c
same_caller d c is = let e : d.0 ≡ c.0 = grind (arith, nat_tests, is) in ap (λ (n : ℕ). let x : Caller = record { 0 = n } in x) e

same_out : (c d d' : Caller) (p p' : Page) → (d.0 == c.0) ≡ true → (d'.0 == c.0) ≡ true → p ≡ p' → event.PageOut d p ≡ event.PageOut d' p'
same_out c d d' p p' own own' same =
    ap (λ (x : Caller). event.PageOut x p) (same_caller d c own ∙ sym (same_caller d' c own')) ∙ ap (λ (x : Page). event.PageOut d' x) same

same_in : (c d d' : Caller) (p p' : Page) → (d.0 == c.0) ≡ true → (d'.0 == c.0) ≡ true → p ≡ p' → event.PageIn d p ≡ event.PageIn d' p'
same_in c d d' p p' own own' same =
    ap (λ (x : Caller). event.PageIn x p) (same_caller d c own ∙ sym (same_caller d' c own')) ∙ ap (λ (x : Page). event.PageIn d' x) same

-- two calls of one caller that one entry answers are of one kind and page
by_out :
    (c d : Caller) (p : Page) (page page' : List ℕ) (e' : Event) (row : Row) → (d.0 == c.0) ≡ true → Answers page (event.PageOut d p) row
    → reading.is_call_of c e' ≡ true → IsAnswered e' page' row → event.PageOut d p ≡ e'
by_out c d p page page' (event.PageOut d' p') row own a own' b = same_out c d d' p p' own own' (sym a.0 ∙ b.1.0)
by_out c d p page page' (event.PageIn d' p') row own a own' b = absurd (out_not_in row.entry.op a.1 b.1.1)
by_out c d p page page' e' row own a own' b = absurd b

by_in :
    (c d : Caller) (p : Page) (page page' : List ℕ) (e' : Event) (row : Row) → (d.0 == c.0) ≡ true → Answers page (event.PageIn d p) row
    → reading.is_call_of c e' ≡ true → IsAnswered e' page' row → event.PageIn d p ≡ e'
by_in c d p page page' (event.PageOut d' p') row own a own' b = absurd (out_not_in row.entry.op b.1.1 a.1)
by_in c d p page page' (event.PageIn d' p') row own a own' b = same_in c d d' p p' own own' (sym a.0 ∙ b.1.0)
by_in c d p page page' e' row own a own' b = absurd b

one_event :
    (c : Caller) (e e' : Event) (page page' : List ℕ) (row : Row) → is_call_of c e ≡ true → Answers page e row → reading.is_call_of c e' ≡ true
    → IsAnswered e' page' row → e ≡ e'
one_event c (event.PageOut d p) e' page page' row own a own' b = by_out c d p page page' e' row own a own' b
one_event c (event.PageIn d p) e' page page' row own a own' b = by_in c d p page page' e' row own a own' b
one_event c e e' page page' row own a own' b = absurd a

-- the events that answer the earlier entries, and what was called since
pub record CalledSince (c : Caller) (is : List Input) (before : History) (made : List Input) : Type 0 where
  pub earlier : List Input
  pub own : AreOf c earlier
  pub answered : AnswersEach earlier before
  pub called : events_of made ≡ reverse_aux (events_of is) (events_of earlier)

peel :
    (c : Caller) (i : Input) (is : List Input) (row : Row) (before : History) (made later : List Input) → reading.is_call_of c i.event ≡ true
    → IsAnswered i.event i.page row → AreOf c later → AnswersEach later (row ∷ before) → events_of made ≡ reverse_aux (events_of is) (events_of later)
    → CalledSince c (i ∷ is) before made
peel c i is row before made [] own ans of each called = absurd each
peel c i is row before made (j ∷ earlier) own ans of each called = record {
  earlier = earlier;
  own = of.1;
  answered = each.1;
  called =
      let e : j.event ≡ i.event = one_event c j.event i.event j.page i.page row of.0 each.0 own ans in
      called ∙ ap (λ x. reverse_aux (events_of is) (x ∷ events_of earlier)) e;
}

pub called_since :
    (c : Caller) (is : List Input) (before now : History) (made : List Input) → AreIn c is → AreOf c made → AnswersEach made now → Plays is before now
    → CalledSince c is before made
called_since c [] before now made own of each plays = record { earlier = made; own = of; answered = subst (AnswersEach made) plays each; called = refl }
called_since c (i ∷ is) before now made own of each (row, ans, more) =
    let later = called_since c is (row ∷ before) now made own.1 of each more in
    peel c i is row before made later.earlier own.0 ans later.own later.answered later.called

none_before : (earlier : List Input) → AnswersEach earlier [] → earlier ≡ []
none_before [] each = refl
none_before (i ∷ is) each = absurd each

-- so of all of a caller's calls
pub called_all :
    (c : Caller) (is : List Input) (now : History) (made : List Input) → AreIn c is → AreOf c made → AnswersEach made now → Plays is [] now
    → events_of made ≡ reverse_aux (events_of is) []
called_all c is now made own of each plays =
    let all = called_since c is [] now made own of each plays in
    all.called ∙ ap (λ l. reverse_aux (events_of is) (events_of l)) (none_before all.earlier all.answered)
