-- A call that was answered has its entry.
use Rattle.std.proofs.Common.{◌≡◌, ◌==◌, ℕ, Bool, true, false, List, [], ◌∷◌, cond, refl, sym, ap, ◌∙◌, subst, arith, Result, Ok, Err}
use Rattle.std.specs.List.{AllByRecursion, filter}
use Rattle.std.proofs.lemmas.Bool.Decides.{nat_tests}
use Rattle.swap_base.specs.declared.EntryNo.{EntryNo}
use Rattle.swap_base.specs.declared.Caller.{Caller}
use Rattle.swap_base.specs.declared.Page.{Page}
use Rattle.swap_wire.specs.Input.{Input}
use Rattle.swap_wire.specs.declared.Event.{Event}
use Rattle.swap_wire.specs.declared.Event.TheVariants as event
use Rattle.swap_script.specs.Reading as reading
use Rattle.swap_turn.specs.PassView.{PassView}
use Rattle.swap_player.specs.declared.paging.SwapFault.{SwapFault}
use Rattle.swap_player.specs.declared.paging.SwapFault.TheVariants as fault
use Rattle.swap_player.specs.declared.paging.Ended.{Ended}
use Rattle.swap_player.specs.Turns.{Answered, PagesBy, PagesAs}
use Rattle.swap_play.specs.Callers.{PlaysOne, is_answer, caller}

one_of : (e : Event) (page : List ℕ) (ended : Ended) (p q : PassView) → Answered e page ended p q → PlaysOne e page p.mine q.mine
one_of e page ended p q a = (a.row, a.answers, a.mine)

paged_by :
    (calls callers : ℕ) (e : Event) (page : List ℕ) (ended : Ended) (answer : Result EntryNo SwapFault) (p q : PassView)
    → PagesBy calls callers e page ended answer p q → is_answer answer ≡ true → PlaysOne e page p.mine q.mine
paged_by calls callers e page ended (Ok k) p q pages is = one_of e page ended p q pages
paged_by calls callers e page ended (Err (fault.Disk k since at)) p q pages is = one_of e page ended p q pages
paged_by calls callers e page ended (Err fault.Spent) p q pages is = cc
paged_by calls callers e page ended (Err fault.NoMemory) p q pages is = cc

same_caller : (n : ℕ) (c : Caller) → (c.0 == n) ≡ true → caller n ≡ c
same_caller n c is = let e : n ≡ c.0 = grind (arith, nat_tests, is) in ap caller e

paged :
    (calls callers : ℕ) (e : Event) (page : List ℕ) (answer : Result EntryNo SwapFault) (p q : PassView) → PagesAs calls callers e page answer p q
    → is_answer answer ≡ true → PlaysOne e page p.mine q.mine
paged calls callers e page answer p q pages is = paged_by calls callers e page pages.ended pages.ended.answer p q pages.pages (ap is_answer (sym pages.is) ∙ is)

pub paged_out :
    (calls callers : ℕ) (c : Caller) (of : Page) (page : List ℕ) (answer : Result EntryNo SwapFault) (p q : PassView) → (c.0 == p.number) ≡ true
    → PagesAs calls callers (event.PageOut (caller p.number) of) page answer p q → is_answer answer ≡ true → PlaysOne (event.PageOut c of) page p.mine q.mine
paged_out calls callers c of page answer p q own pages is =
    let P : Caller → Type 0 = λ x. PlaysOne (event.PageOut x of) page p.mine q.mine in
    subst P (same_caller p.number c own) (paged calls callers (event.PageOut (caller p.number) of) page answer p q pages is)

own_more :
    (c : Caller) (i : Input) (rest : List Input) (b : Bool) → reading.is_call_of c i.event ≡ b
    → AllByRecursion (λ (x : Input). reading.is_call_of c x.event ≡ true) rest
    → AllByRecursion (λ (x : Input). reading.is_call_of c x.event ≡ true) (cond b (i ∷ rest) rest)
own_more c i rest true own all = (own, all)
own_more c i rest false own all = all

-- a caller's calls are its own
pub own_calls :
    (c : Caller) (is : List Input)
    → AllByRecursion (λ (i : Input). reading.is_call_of c i.event ≡ true) (filter (λ (i : Input). reading.is_call_of c i.event) is)
own_calls c [] = tt
own_calls c (i ∷ is) = own_more c i (filter (λ (x : Input). reading.is_call_of c x.event) is) (reading.is_call_of c i.event) refl (own_calls c is)
