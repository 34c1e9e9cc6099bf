-- What a page's copies are after one cell is changed.
use Rattle.std.proofs.Common.{◌≡◌, ◌≢◌, ℕ, zero, suc, ◌+◌, ◌<◌, ◌≤◌, Bool, true, false, cond, ◌==◌, if◌then◌else◌, List, [], ◌∷◌, length, get_or, set, refl, sym, ap, ◌∙◌, arith, Option, None, Some, count_by, ⊎_elim, get_or-set_same, ne_eqb, eqb-true, length-set, not, is_some}
use Rattle.std.proofs.lemmas.Bool.{cases_Bool, false≢true, cond-true, cond-false, and_left, and_right, and_parts, and_from}
use Rattle.std.proofs.lemmas.List.Sums.{sum_by-set, sum_by-cons, get_or-le-sum_by}
use Rattle.swap_queue.specs.declared.cell.Held.{Held}
use Rattle.swap_queue.specs.Cells.{Kept, free_cell, same, is_held_for, is_for, copy_with, copy_of, with_flying, copy_in}

abbrev pub one : Bool → ℕ
one b = cond b 1 0

abbrev pub cell_at : List Kept → ℕ → Kept
cell_at cells i = get_or cells i free_cell

abbrev pub count_for : Bool → ℕ → List Kept → ℕ
count_for k p cells = count_by (is_for k p) cells

count_for-cons : (k : Bool) (p : ℕ) (x : Kept) (xs : List Kept) (b : Bool) → is_for k p x ≡ b → count_for k p (x ∷ xs) ≡ one b + count_for k p xs
count_for-cons k p x xs b e = sum_by-cons (λ (c : Kept). one (is_for k p c)) x xs ∙ ap (λ t. one t + count_for k p xs) e

one_at : (k : Bool) (p : ℕ) (xs : List Kept) (i : ℕ) → i < length xs → is_for k p (cell_at xs i) ≡ true → 1 ≤ count_for k p xs
one_at k p xs i lt e = omega (arith, get_or-le-sum_by (λ (c : Kept). one (is_for k p c)) xs i free_cell lt, ap one e)

pub copy_in-same :
    (k : Bool) (p : ℕ) (xs : List Kept) (i : ℕ) (c : Kept) → is_for k p (cell_at xs i) ≡ false → is_for k p c ≡ false
    → copy_in k p (set xs i c) ≡ copy_in k p xs
copy_in-same k p [] i c e f = refl
copy_in-same k p (x ∷ xs) zero c e f = cond-false (is_for k p c) (copy_of c) (copy_in k p xs) f ∙ sym (cond-false (is_for k p x) (copy_of x) (copy_in k p xs) e)
copy_in-same k p (x ∷ xs) (suc i) c e f = ap (λ r. if is_for k p x then copy_of x else r) (copy_in-same k p xs i c e f)

-- the only copy of its kind is found wherever it is
pub copy_in-here :
    (k : Bool) (p : ℕ) (xs : List Kept) (i : ℕ) → count_for k p xs ≤ 1 → i < length xs → is_for k p (cell_at xs i) ≡ true
    → copy_in k p xs ≡ copy_of (cell_at xs i)
copy_in-here k p [] i le lt e = absurd (omega arith)
copy_in-here k p (x ∷ xs) zero le lt e = cond-true (is_for k p x) (copy_of x) (copy_in k p xs) e
copy_in-here k p (x ∷ xs) (suc i) le lt e =
    let within : i < length xs = omega arith in
    ⊎_elim
    (λ (t : is_for k p x ≡ true). absurd (omega (arith, count_for-cons k p x xs true t, one_at k p xs i within e)))
    (λ (t : is_for k p x ≡ false). cond-false (is_for k p x) (copy_of x) (copy_in k p xs) t
    ∙ copy_in-here k p xs i (omega (arith, count_for-cons k p x xs false t)) within e)
    (cases_Bool (is_for k p x))

pub copy_in-none : (k : Bool) (p : ℕ) (xs : List Kept) → count_for k p xs ≡ 0 → copy_in k p xs ≡ None
copy_in-none k p [] none = refl
copy_in-none k p (x ∷ xs) none =
    ⊎_elim
    (λ (t : is_for k p x ≡ true). absurd (omega (arith, count_for-cons k p x xs true t)))
    (λ (t : is_for k p x ≡ false). cond-false (is_for k p x) (copy_of x) (copy_in k p xs) t
    ∙ copy_in-none k p xs (omega (arith, count_for-cons k p x xs false t)))
    (cases_Bool (is_for k p x))

-- a cell that is for a page has a copy
copy_some : (k : Bool) (p : ℕ) (bytes : List ℕ) (held : Option Held) → is_held_for k p held ≡ true → copy_with bytes held ≡ None → ⊥
copy_some k p bytes None e none = false≢true e
copy_some k p bytes (Some h) e none = cc

pub none_for : (k : Bool) (p : ℕ) (xs : List Kept) → copy_in k p xs ≡ None → count_for k p xs ≡ 0
none_for k p [] none = refl
none_for k p (x ∷ xs) none =
    ⊎_elim
    (λ (t : is_for k p x ≡ true). absurd (copy_some k p x.bytes x.held t (sym (cond-true (is_for k p x) (copy_of x) (copy_in k p xs) t) ∙ none)))
    (λ (t : is_for k p x ≡ false).
    omega (arith, count_for-cons k p x xs false t, none_for k p xs (sym (cond-false (is_for k p x) (copy_of x) (copy_in k p xs) t) ∙ none)))
    (cases_Bool (is_for k p x))

pub copy_in-gone :
    (k : Bool) (p : ℕ) (xs : List Kept) (i : ℕ) (c : Kept) → count_for k p xs ≤ 1 → i < length xs → is_for k p (cell_at xs i) ≡ true → is_for k p c ≡ false
    → copy_in k p (set xs i c) ≡ None
copy_in-gone k p xs i c le lt e f =
    copy_in-none k p (set xs i c) (omega (arith, sum_by-set (λ (c : Kept). one (is_for k p c)) xs i c free_cell lt, ap one e, ap one f))

pub count_after :
    (k : Bool) (p : ℕ) (xs : List Kept) (i : ℕ) (c : Kept) → i < length xs → is_for k p c ≡ true → count_for k p xs ≤ one (is_for k p (cell_at xs i))
    → count_for k p (set xs i c) ≤ 1
count_after k p xs i c lt e le = omega (arith, sum_by-set (λ (c : Kept). one (is_for k p c)) xs i c free_cell lt, ap one e, le)

pub copy_in-new :
    (k : Bool) (p : ℕ) (xs : List Kept) (i : ℕ) (c : Kept) → i < length xs → is_for k p c ≡ true → count_for k p xs ≤ one (is_for k p (cell_at xs i))
    → copy_in k p (set xs i c) ≡ copy_of c
copy_in-new k p xs i c lt e le =
    let there : cell_at (set xs i c) i ≡ c = get_or-set_same xs i c free_cell lt in
    copy_in-here k p (set xs i c) i (count_after k p xs i c lt e le) (omega (arith, length-set xs i c, lt)) (ap (λ x. is_for k p x) there ∙ e)
    ∙ ap copy_of there

-- no page has two copies of one kind, before and after
pub single_after :
    (xs : List Kept) (i : ℕ) (c : Kept) → i < length xs → ((k : Bool) (p : ℕ) → count_for k p xs ≤ 1)
    → ((k : Bool) (p : ℕ) → is_for k p c ≡ true → count_for k p xs ≤ one (is_for k p (cell_at xs i)))
    → (k : Bool) (p : ℕ) → count_for k p (set xs i c) ≤ 1
single_after xs i c lt single only k p =
    ⊎_elim
    (λ (t : is_for k p c ≡ true). count_after k p xs i c lt t (only k p t))
    (λ (t : is_for k p c ≡ false). omega (arith, sum_by-set (λ (c : Kept). one (is_for k p c)) xs i c free_cell lt, ap one t, single k p))
    (cases_Bool (is_for k p c))

-- a held copy is of one page and of one kind
pub of_one_page : (k j : Bool) (p q : ℕ) (held : Option Held) → is_held_for j q held ≡ true → p ≢ q → is_held_for k p held ≡ false
of_one_page k j p q None e ne = refl
of_one_page k j p q (Some h) e ne =
    and_right (same k h.flying) (h.page.0 == p) (ne_eqb h.page.0 p (λ f. ne (sym f ∙ eqb-true h.page.0 q (and_parts (same j h.flying) (h.page.0 == q) e).1)))

pub flying_page : (k j b : Bool) (p q : ℕ) (held : Option Held) → is_held_for j q held ≡ true → p ≢ q → is_held_for k p (with_flying b held) ≡ false
flying_page k j b p q None e ne = refl
flying_page k j b p q (Some h) e ne =
    and_right (same k b) (h.page.0 == p) (ne_eqb h.page.0 p (λ f. ne (sym f ∙ eqb-true h.page.0 q (and_parts (same j h.flying) (h.page.0 == q) e).1)))

other_kind_of : (k b : Bool) → same k b ≡ true → same (not k) b ≡ false
other_kind_of true true e = refl
other_kind_of true false e = absurd (false≢true e)
other_kind_of false true e = absurd (false≢true e)
other_kind_of false false e = refl

pub of_one_kind : (k : Bool) (p : ℕ) (held : Option Held) → is_held_for k p held ≡ true → is_held_for (not k) p held ≡ false
of_one_kind k p None e = refl
of_one_kind k p (Some h) e = and_left (same (not k) h.flying) (h.page.0 == p) (other_kind_of k h.flying (and_parts (same k h.flying) (h.page.0 == p) e).0)

same_same : (k : Bool) → same k k ≡ true
same_same true = refl
same_same false = refl

not_same : (k : Bool) → same (not k) k ≡ false
not_same true = refl
not_same false = refl

-- a copy that is turned to the other kind
pub turned : (k b : Bool) (p : ℕ) (held : Option Held) → is_held_for k p held ≡ true → is_held_for b p (with_flying b held) ≡ true
turned k b p None e = absurd (false≢true e)
turned k b p (Some h) e = and_from (same b b) (h.page.0 == p) (same_same b) (and_parts (same k h.flying) (h.page.0 == p) e).1

pub turned_away : (b : Bool) (p : ℕ) (held : Option Held) → is_held_for (not b) p (with_flying b held) ≡ false
turned_away b p None = refl
turned_away b p (Some h) = and_left (same (not b) b) (h.page.0 == p) (not_same b)

pub copy-turned : (b : Bool) (bytes : List ℕ) (held : Option Held) → copy_with bytes (with_flying b held) ≡ copy_with bytes held
copy-turned b bytes None = refl
copy-turned b bytes (Some h) = refl

pub used_turned : (b : Bool) (held : Option Held) → is_some (with_flying b held) ≡ is_some held
used_turned b None = refl
used_turned b (Some h) = refl

pub used_for : (k : Bool) (p : ℕ) (held : Option Held) → is_held_for k p held ≡ true → is_some held ≡ true
used_for k p None e = absurd (false≢true e)
used_for k p (Some h) e = refl

pub copy_used : (bytes : List ℕ) (held : Option Held) → is_some held ≡ true → is_some (copy_with bytes held) ≡ true
copy_used bytes None e = absurd (false≢true e)
copy_used bytes (Some h) e = refl
