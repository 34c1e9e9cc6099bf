-- A caller's walk, call by call.
use Rattle.std.proofs.Common.{◌≡◌, ◌<◌, ℕ, true, List, [], ◌∷◌, cond, drop, length, refl, subst, arith, None, Some}
use Rattle.std.specs.List.{AllByRecursion}
use Rattle.swap_base.specs.declared.Caller.{Caller}
use Rattle.swap_base.specs.Sizes.{Sizes}
use Rattle.swap_wire.specs.Input.{Input}
use Rattle.swap_wire.specs.declared.Event.{Event}
use Rattle.swap_wire.specs.declared.Event.TheVariants as event
use Rattle.swap_record.specs.History.{History, Row}
use Rattle.swap_script.specs.Reading as reading
use Rattle.swap_script.specs.Reading.{Script, first_event, page_after, without_first, is_out}
use Rattle.swap_board.specs.Boards.{IsAnswered}
use Rattle.swap_play.specs.Callers.{AreCallsOf, PlaysOne, Plays}

-- a page-in's bytes don't count
answered_page : (e : Event) (page before : List ℕ) (row : Row) → IsAnswered e (cond (is_out e) page before) row → IsAnswered e page row
answered_page (event.PageOut c p) page before row a = a
answered_page (event.PageIn c p) page before row a = a
answered_page e page before row a = absurd a

abbrev Own : Caller → List Input → Type 0
Own c is = AllByRecursion (λ (i : Input). reading.is_call_of c i.event ≡ true) is

pub next_left : (s : Sizes) (lenders : ℕ) (c : Caller) (left : Script) → AreCallsOf s lenders c left → AreCallsOf s lenders c (without_first left)
next_left s lenders c left are = record { sizes = are.sizes; has = are.has; own = go left.inputs are.own }
  where
    go : (is : List Input) → Own c is → Own c (drop 1 is)
    go [] own = own
    go (i ∷ is) own = own.1

-- a call that was answered stands in front of those that are left
pub next_plays :
    (left : Script) (e : Event) (page page' : List ℕ) (before now end : History) → first_event left.inputs ≡ Some e → page' ≡ page_after left.inputs page
    → PlaysOne e page' before now → Plays (without_first left).inputs now end → Plays left.inputs before end
next_plays left e page page' before now end is handed one more = go left.inputs is handed more
  where
    go : (is : List Input) → first_event is ≡ Some e → page' ≡ page_after is page → Plays (drop 1 is) now end → Plays is before end
    go [] none handed more = cc
    go (i ∷ is) same handed more =
        let at : e ≡ i.event = cc in
        let P : Event → Type 0 = λ x. IsAnswered x page' one.0 in
        let Q : List ℕ → Type 0 = λ x. IsAnswered i.event x one.0 in
        let R : History → Type 0 = λ x. Plays is x end in
        (one.0, answered_page i.event i.page page one.0 (subst Q handed (subst P at one.1)), subst R one.2 more)

pub none_left : (left : Script) (before : History) → first_event left.inputs ≡ None → Plays left.inputs before before
none_left left before none = go left.inputs none
  where
    go : (is : List Input) → first_event is ≡ None → Plays is before before
    go [] none = refl
    go (i ∷ is) some = cc
