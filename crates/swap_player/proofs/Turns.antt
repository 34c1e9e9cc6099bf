-- What a turn of a call does to the pass that took it.
use Rattle.std.proofs.Common.{◌≡◌, ◌+◌, ◌-◌, ◌<◌, ◌≤◌, ℕ, suc, zero, Bool, true, false, List, [], ◌∷◌, ◌++◌, length, take, refl, sym, ap, ◌∙◌, subst, arith, append_assoc, Option, None, Some, Result, Ok, Err}
use Rattle.std.proofs.lemmas.List.Elements.{All-nil, All-cons}
use Rattle.swap_base.specs.declared.EntryNo.{EntryNo}
use Rattle.swap_base.specs.declared.Caller.{Caller}
use Rattle.swap_wire.specs.declared.Event.{Event}
use Rattle.swap_wire.specs.declared.Event.TheVariants as event
use Rattle.swap_record.specs.History.{History, Row}
use Rattle.swap_turn.specs.Turns.{IsEarlier, Extends, added_since}
use Rattle.swap_turn.specs.PassView.{PassView, after_turn}
use Rattle.swap_board.specs.Boards.{IsAnswered}
use Rattle.swap_player.specs.declared.paging.SwapFault.{SwapFault}
use Rattle.swap_player.specs.declared.paging.SwapFault.TheVariants as fault
use Rattle.swap_player.specs.declared.paging.Ended.{Ended}
use Rattle.swap_player.specs.Turns.{caller_of, AddsOne, IsSpent, EndsBy, Ends, Answered, Looked, PagesBy, Turns}

pub none_extends : (c : ℕ) (H now : History) → now ≡ H → Extends c H now
none_extends c H now same = record { added = []; whole = sym same; own = All-nil _ }

answers_own : (e : Event) (page : List ℕ) (row : Row) → IsAnswered e page row → row.entry.caller ≡ caller_of e
answers_own (event.PageOut c p) page row a = a.0
answers_own (event.PageIn c p) page row a = a.0
answers_own e page row a = absurd a

one_extends : (e : Event) (page : List ℕ) (ended : Ended) (H now : History) → AddsOne e page ended H now → Extends (caller_of e).0 H now
one_extends e page ended H now a =
    record {
      added = a.row ∷ [];
      whole = sym a.grown;
      own = All-cons (λ (row : Row). row.entry.caller.0 ≡ (caller_of e).0) a.row [] (ap (λ (x : Caller). x.0) (answers_own e page a.row a.answers)) (All-nil _);
    }

by_extends :
    (calls callers : ℕ) (e : Event) (page : List ℕ) (ended : Ended) (answer : Result EntryNo SwapFault) (H now : History)
    → EndsBy calls callers e page ended answer H now → Extends (caller_of e).0 H now
by_extends calls callers e page ended (Ok k) H now a = one_extends e page ended H now a
by_extends calls callers e page ended (Err (fault.Disk k since at)) H now a = one_extends e page ended H now a
by_extends calls callers e page ended (Err fault.Spent) H now a = none_extends (caller_of e).0 H now a.0
by_extends calls callers e page ended (Err fault.NoMemory) H now a = none_extends (caller_of e).0 H now a

pub ends_extends :
    (calls callers : ℕ) (e : Event) (page : List ℕ) (ended : Option Ended) (H now : History) → Ends calls callers e page ended H now
    → Extends (caller_of e).0 H now
ends_extends calls callers e page None H now same = none_extends (caller_of e).0 H now same
ends_extends calls callers e page (Some ended) H now ends = by_extends calls callers e page ended ended.answer H now ends

added_one : (n : ℕ) (row : Row) (H : History) → take (suc n - n) (row ∷ H) ≡ row ∷ []
added_one n row H = let one : suc n - n ≡ 1 = omega arith in ap (λ m. take m (row ∷ H)) one

added_none : (n : ℕ) (H : History) → take (n - n) H ≡ []
added_none n H = let none : n - n ≡ 0 = omega arith in ap (λ m. take m H) none

one_turned :
    (e : Event) (page : List ℕ) (ended : Ended) (p h q : PassView) (now : History) → IsEarlier p.seen h.seen → h.mine ≡ p.mine → q ≡ after_turn h now
    → AddsOne e page ended h.seen now → Answered e page ended p q
one_turned e page ended p h q now earlier mine is a = record {
  row = a.row;
  earlier = h.seen;
  seen = ap (λ (x : PassView). x.seen) is ∙ a.grown;
  since = earlier;
  answers = a.answers;
  tells = a.tells;
  mine =
      let added : added_since h.seen now ≡ a.row ∷ [] = ap (λ l. added_since h.seen l) a.grown ∙ added_one (length h.seen) a.row h.seen in
      ap (λ (x : PassView). x.mine) is ∙ ap (λ l. l ++ h.mine) added ∙ ap (λ l. a.row ∷ l) mine;
}

pub none_turned : (p h q : PassView) (now : History) → IsEarlier p.seen h.seen → h.mine ≡ p.mine → q ≡ after_turn h now → now ≡ h.seen → Looked p q
none_turned p h q now earlier mine is same =
    let added : added_since h.seen now ≡ [] = ap (λ l. added_since h.seen l) same ∙ added_none (length h.seen) h.seen in
    let now_seen : q.seen ≡ h.seen = ap (λ (x : PassView). x.seen) is ∙ same in (
      subst (IsEarlier p.seen) (sym now_seen) earlier,
      ap (λ (x : PassView). x.mine) is ∙ ap (λ l. l ++ h.mine) added ∙ mine,
    )

by_turned :
    (calls callers : ℕ) (e : Event) (page : List ℕ) (ended : Ended) (answer : Result EntryNo SwapFault) (p h q : PassView) (now : History)
    → IsEarlier p.seen h.seen → h.mine ≡ p.mine → q ≡ after_turn h now → EndsBy calls callers e page ended answer h.seen now
    → PagesBy calls callers e page ended answer p q
by_turned calls callers e page ended (Ok k) p h q now earlier mine is a = one_turned e page ended p h q now earlier mine is a
by_turned calls callers e page ended (Err (fault.Disk k since at)) p h q now earlier mine is a = one_turned e page ended p h q now earlier mine is a
by_turned calls callers e page ended (Err fault.Spent) p h q now earlier mine is a =
    (none_turned p h q now earlier mine is a.0, subst (IsSpent calls callers) (sym (ap (λ (x : PassView). x.seen) is)) a.1)
by_turned calls callers e page ended (Err fault.NoMemory) p h q now earlier mine is a = none_turned p h q now earlier mine is a

pub turns :
    (calls callers : ℕ) (e : Event) (page : List ℕ) (ended : Option Ended) (p h q : PassView) (now : History) → IsEarlier p.seen h.seen → h.mine ≡ p.mine
    → q ≡ after_turn h now → Ends calls callers e page ended h.seen now → Turns calls callers e page ended p q
turns calls callers e page None p h q now earlier mine is same = none_turned p h q now earlier mine is same
turns calls callers e page (Some ended) p h q now earlier mine is ends = by_turned calls callers e page ended ended.answer p h q now earlier mine is ends

earlier_still : (before now later : History) → IsEarlier before now → IsEarlier now later → IsEarlier before later
earlier_still before now later a b =
    record { later = b.later ++ a.later; whole = append_assoc b.later a.later before ∙ ap (λ l. b.later ++ l) a.whole ∙ b.whole }

pub looked_still : (p q r : PassView) → Looked p q → Looked q r → Looked p r
looked_still p q r first later = (earlier_still p.seen q.seen r.seen first.0 later.0, later.1 ∙ first.1)

pub looked_self : (p : PassView) → Looked p p
looked_self p = (record { later = []; whole = refl }, refl)

answered_after : (e : Event) (page : List ℕ) (ended : Ended) (p q r : PassView) → Looked p q → Answered e page ended q r → Answered e page ended p r
answered_after e page ended p q r first a = record {
  row = a.row;
  earlier = a.earlier;
  seen = a.seen;
  since = earlier_still p.seen q.seen a.earlier first.0 a.since;
  answers = a.answers;
  tells = a.tells;
  mine = a.mine ∙ ap (λ l. a.row ∷ l) first.1;
}

pages_after :
    (calls callers : ℕ) (e : Event) (page : List ℕ) (ended : Ended) (answer : Result EntryNo SwapFault) (p q r : PassView) → Looked p q
    → PagesBy calls callers e page ended answer q r → PagesBy calls callers e page ended answer p r
pages_after calls callers e page ended (Ok k) p q r first a = answered_after e page ended p q r first a
pages_after calls callers e page ended (Err (fault.Disk k since at)) p q r first a = answered_after e page ended p q r first a
pages_after calls callers e page ended (Err fault.Spent) p q r first a = (looked_still p q r first a.0, a.1)
pages_after calls callers e page ended (Err fault.NoMemory) p q r first a = looked_still p q r first a

pub turns_after :
    (calls callers : ℕ) (e : Event) (page : List ℕ) (ended : Option Ended) (p q r : PassView) → Looked p q → Turns calls callers e page ended q r
    → Turns calls callers e page ended p r
turns_after calls callers e page None p q r first a = looked_still p q r first a
turns_after calls callers e page (Some ended) p q r first a = pages_after calls callers e page ended ended.answer p q r first a
