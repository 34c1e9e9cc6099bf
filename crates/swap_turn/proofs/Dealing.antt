-- The first seat while `make` gives its numbers away.
use Rattle.std.proofs.Common.{◌≡◌, ℕ, true, zero, suc, ◌+◌, ◌-◌, ◌<◌, List, [], ◌∷◌, ◌++◌, map, refl, sym, ap, ◌∙◌, subst, arith}
use Rattle.std.specs.Prelude.{All}
use Rattle.std.proofs.lemmas.List.{map-append}
use Rattle.std.proofs.lemmas.List.Elements.{All-nil, All-cons}
use Rattle.atomic_table.specs.Seated.{TableId}
use Rattle.swap_record.specs.History.{History}
use Rattle.swap_turn.specs.declared.view.View.{View}
use Rattle.swap_turn.specs.Turns.{entries_of, first_view, numbers_from, fewer_left, next_given, resting_seat}
use Rattle.swap_turn.specs.PassView.{LockId, PassView, pass_at_start, IsFreeOf, standing_of, IsSeated}

-- the first seat after it gave away the numbers below i
abbrev pub dealt : ℕ → History → ℕ → View
dealt seats log i = record (first_view seats log) { left = numbers_from i ((seats - 1) - i) }

pub numbers_from-next : (i m : ℕ) → i < m → numbers_from i (m - i) ≡ i ∷ numbers_from (i + 1) (m - (i + 1))
numbers_from-next i m lt = let a : m - i ≡ suc (m - (i + 1)) = omega arith in let b : suc i ≡ i + 1 = omega arith in
    ap (numbers_from i) a ∙ ap (λ (k : ℕ). i ∷ numbers_from k (m - (i + 1))) b

pub numbers_from-snoc : (a n : ℕ) → numbers_from a (n + 1) ≡ numbers_from a n ++ (a + n) ∷ []
numbers_from-snoc a zero = let e : zero + 1 ≡ suc zero = omega arith in let f : a ≡ a + zero = omega arith in ap (numbers_from a) e ∙ ap (λ (k : ℕ). k ∷ []) f
numbers_from-snoc a (suc n) = let e : suc n + 1 ≡ suc (n + 1) = omega arith in let f : suc a + n ≡ a + suc n = omega arith in
    ap (numbers_from a) e ∙ ap (λ (l : List ℕ). a ∷ l) (numbers_from-snoc (suc a) n ∙ ap (λ (k : ℕ). numbers_from (suc a) n ++ k ∷ []) f)

pub dealt-left : (seats : ℕ) (log : History) (i : ℕ) → i < seats - 1 → (dealt seats log i).left ≡ i ∷ numbers_from (i + 1) ((seats - 1) - (i + 1))
dealt-left seats log i lt = numbers_from-next i (seats - 1) lt

pub dealt-fewer : (seats : ℕ) (log : History) (i : ℕ) → i < seats - 1 → fewer_left (dealt seats log i) ≡ dealt seats log (i + 1)
dealt-fewer seats log i lt = ap (λ (l : List ℕ). fewer_left (let v : View = record (first_view seats log) { left = l } in v)) (dealt-left seats log i lt)

pub dealt-given : (seats : ℕ) (log : History) (i : ℕ) → i < seats - 1 → next_given (dealt seats log i) ≡ resting_seat i seats log (entries_of i log)
dealt-given seats log i lt = ap (λ (l : List ℕ). next_given (let v : View = record (first_view seats log) { left = l } in v)) (dealt-left seats log i lt)

-- it has given all but its own
pub dealt-last : (seats : ℕ) (log : History) (i : ℕ) → i ≡ seats - 1 → dealt seats log i ≡ resting_seat (seats - 1) seats log (entries_of (seats - 1) log)
dealt-last seats log i is =
    let e : (seats - 1) - i ≡ 0 = omega arith in ap (λ (k : ℕ). let v : View = record (first_view seats log) { left = numbers_from i k } in v) e

pub seated_is : (i k : ℕ) (log mine : History) (v : View) (vs : List View) → vs ≡ v ∷ [] → v ≡ resting_seat i k log mine → IsSeated i vs
seated_is i k log mine v vs one is =
    let both : vs ≡ resting_seat i k log mine ∷ [] = one ∙ ap (λ (u : View). u ∷ []) is in subst (IsSeated i) (sym both) (refl, refl)

pub standing_is : (z : TableId) (i k : ℕ) (log mine : History) (v : View) (vs : List View) → vs ≡ v ∷ [] → v ≡ resting_seat i k log mine
    → standing_of z i vs ≡ record { lock = record { table = z; seats = k }; number = i; free = true; seen = log; mine = mine }
standing_is z i k log mine v vs one is = ap (standing_of z i) (one ∙ ap (λ (u : View). u ∷ []) is)

pub pushed :
    (z : LockId) (log : History) (i : ℕ) (items : List PassView) (p : PassView) → items ≡ map (pass_at_start z log) (numbers_from 0 i)
    → p ≡ pass_at_start z log i
    → items ++ p ∷ [] ≡ map (pass_at_start z log) (numbers_from 0 (i + 1))
pushed z log i items p so_far is =
    let f : ℕ → PassView = pass_at_start z log in
    let e : i ≡ 0 + i = omega arith in
    (λ j. so_far j ++ (is ∙ ap f e) j ∷ []) ∙ (sym (map-append f (numbers_from 0 i) ((0 + i) ∷ [])) ∙ ap (map f) (sym (numbers_from-snoc 0 i)))

pub newcomers_free : (z : LockId) (log : History) (ns : List ℕ) (items : List PassView) → items ≡ map (pass_at_start z log) ns → All (IsFreeOf z) items
newcomers_free z log ns items is = subst (All (IsFreeOf z)) (sym is) (each ns)
  where
    each : (ns : List ℕ) → All (IsFreeOf z) (map (pass_at_start z log) ns)
    each [] = All-nil (IsFreeOf z)
    each (n ∷ ns) = All-cons (IsFreeOf z) (pass_at_start z log n) (map (pass_at_start z log) ns) (refl, refl) (each ns)
