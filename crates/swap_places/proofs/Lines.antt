-- Numbers that stand once in a list, and the list without one of them.
use Rattle.std.proofs.Common.{◌≡◌, ◌≢◌, ℕ, zero, suc, ◌+◌, ◌<◌, ◌≤◌, Bool, true, false, ◌||◌, ◌==◌, List, [], ◌∷◌, ◌++◌, length, sym, ap, refl, ◌∙◌, subst, arith, ⊎_elim, eq-eqb, ne_eqb, slice_get, Some, None}
use Rattle.std.proofs.lemmas.Bool.{cases_eq, cases_Bool, cond-true, cond-false, eqb-false}
use Rattle.swap_places.specs.Line.{EntersOne, LeavesOne, KeepsOnce, number_behind, stands, without_number, IsNoneOf, AreOnce, AreBelow}
use Rattle.swap_base.proofs.Bools.{or_true}

-- ---- a number stands in a list, or is none of it

pub none_of : (k : ℕ) (xs : List ℕ) → stands xs k ≡ false → IsNoneOf k xs
none_of k [] out = tt
none_of k (x ∷ xs) out =
    ⊎_elim
    (λ (e : x == k ≡ true). absurd (let h : true ≡ false = sym (ap (λ b. b || stands xs k) e) ∙ out in cc))
    (λ (e : x == k ≡ false). ((λ same. eqb-false x k e (sym same)), none_of k xs (sym (ap (λ b. b || stands xs k) e) ∙ out)))
    (cases_Bool (x == k))

pub out_of : (k : ℕ) (xs : List ℕ) → IsNoneOf k xs → stands xs k ≡ false
out_of k [] none = refl
out_of k (x ∷ xs) none = ap (λ b. b || stands xs k) (ne_eqb x k (λ e. none.0 (sym e))) ∙ out_of k xs none.1

pub none_append : (k : ℕ) (xs ys : List ℕ) → IsNoneOf k xs → IsNoneOf k ys → IsNoneOf k (xs ++ ys)
none_append k [] ys none none' = none'
none_append k (x ∷ xs) ys none none' = (none.0, none_append k xs ys none.1 none')

pub none_left : (k : ℕ) (xs ys : List ℕ) → IsNoneOf k (xs ++ ys) → IsNoneOf k xs
none_left k [] ys none = tt
none_left k (x ∷ xs) ys none = (none.0, none_left k xs ys none.1)

pub none_right : (k : ℕ) (xs ys : List ℕ) → IsNoneOf k (xs ++ ys) → IsNoneOf k ys
none_right k [] ys none = none
none_right k (x ∷ xs) ys none = none_right k xs ys none.1

-- what isn't below the bound is none of those that are
pub none_below : (k bound : ℕ) (xs : List ℕ) → AreBelow bound xs → bound ≤ k → IsNoneOf k xs
none_below k bound [] below le = tt
none_below k bound (x ∷ xs) below le = ((λ e. let lt : x < bound = below.0 in absurd (omega arith)), none_below k bound xs below.1 le)

-- ---- the parts of a list at one of its numbers

pub record Parts (xs : List ℕ) (k : ℕ) : Type 0 where
  pub front : List ℕ
  pub back : List ℕ
  pub whole : xs ≡ front ++ k ∷ back

pub parts_at : (xs : List ℕ) (k : ℕ) → stands xs k ≡ true → Parts xs k
parts_at [] k in' = absurd (let h : false ≡ true = in' in cc)
parts_at (x ∷ xs) k in' =
    ⊎_elim
    (λ (e : x ≡ k). record { front = []; back = xs; whole = ap (λ y. y ∷ xs) e })
    (λ (ne : x ≢ k).
    let rest : Parts xs k = parts_at xs k (sym (ap (λ b. b || stands xs k) (ne_eqb x k ne)) ∙ in') in
    record { front = x ∷ rest.front; back = rest.back; whole = ap (λ ys. x ∷ ys) rest.whole })
    (cases_eq x k)

pub once_append : (xs ys : List ℕ) → AreOnce (xs ++ ys) → AreOnce xs × AreOnce ys
once_append [] ys once = (tt, once)
once_append (x ∷ xs) ys once = let rest : AreOnce xs × AreOnce ys = once_append xs ys once.1 in ((none_left x xs ys once.0, rest.0), rest.1)

pub once_push : (xs : List ℕ) (k : ℕ) → AreOnce xs → IsNoneOf k xs → AreOnce (xs ++ k ∷ [])
once_push [] k once none = (tt, tt)
once_push (x ∷ xs) k once none = (none_append x xs (k ∷ []) once.0 ((λ e. none.0 (sym e)), tt), once_push xs k once.1 none.1)

pub below_push : (bound : ℕ) (xs : List ℕ) (k : ℕ) → AreBelow bound xs → k < bound → AreBelow bound (xs ++ k ∷ [])
below_push bound [] k below lt = (lt, tt)
below_push bound (x ∷ xs) k below lt = (below.0, below_push bound xs k below.1 lt)

-- ---- the list without a number

pub without_at : (xs ys : List ℕ) (k : ℕ) → IsNoneOf k xs → without_number k (xs ++ k ∷ ys) ≡ xs ++ ys
without_at [] ys k none = cond-true (k == k) ys (k ∷ without_number k ys) (eq-eqb k k refl)
without_at (x ∷ xs) ys k none =
    cond-false (x == k) (xs ++ k ∷ ys) (x ∷ without_number k (xs ++ k ∷ ys)) (ne_eqb x k (λ e. none.0 (sym e))) ∙ ap (λ zs. x ∷ zs) (without_at xs ys k none.1)

pub none_without : (j k : ℕ) (xs : List ℕ) → IsNoneOf j xs → IsNoneOf j (without_number k xs)
none_without j k [] none = tt
none_without j k (x ∷ xs) none =
    ⊎_elim
    (λ (e : x == k ≡ true). subst (λ ys. IsNoneOf j ys) (sym (cond-true (x == k) xs (x ∷ without_number k xs) e)) none.1)
    (λ (e : x == k ≡ false). subst (λ ys. IsNoneOf j ys) (sym (cond-false (x == k) xs (x ∷ without_number k xs) e)) (none.0, none_without j k xs none.1))
    (cases_Bool (x == k))

pub once_without : (k : ℕ) (xs : List ℕ) → AreOnce xs → AreOnce (without_number k xs)
once_without k [] once = tt
once_without k (x ∷ xs) once =
    ⊎_elim
    (λ (e : x == k ≡ true). subst (λ ys. AreOnce ys) (sym (cond-true (x == k) xs (x ∷ without_number k xs) e)) once.1)
    (λ (e : x == k ≡ false).
    subst (λ ys. AreOnce ys) (sym (cond-false (x == k) xs (x ∷ without_number k xs) e)) (none_without x k xs once.0, once_without k xs once.1))
    (cases_Bool (x == k))

pub below_without : (bound k : ℕ) (xs : List ℕ) → AreBelow bound xs → AreBelow bound (without_number k xs)
below_without bound k [] below = tt
below_without bound k (x ∷ xs) below =
    ⊎_elim
    (λ (e : x == k ≡ true). subst (λ ys. AreBelow bound ys) (sym (cond-true (x == k) xs (x ∷ without_number k xs) e)) below.1)
    (λ (e : x == k ≡ false). subst (λ ys. AreBelow bound ys) (sym (cond-false (x == k) xs (x ∷ without_number k xs) e))
    (below.0, below_without bound k xs below.1))
    (cases_Bool (x == k))

-- who left stands no more, and the others as before
pub left_out : (k : ℕ) (xs : List ℕ) → AreOnce xs → stands (without_number k xs) k ≡ false
left_out k [] once = refl
left_out k (x ∷ xs) once =
    ⊎_elim
    (λ (e : x ≡ k). ap (λ ys. stands ys k) (cond-true (x == k) xs (x ∷ without_number k xs) (eq-eqb x k e)) ∙ out_of k xs (subst (λ y. IsNoneOf y xs) e once.0))
    (λ (ne : x ≢ k).
    ap (λ ys. stands ys k) (cond-false (x == k) xs (x ∷ without_number k xs) (ne_eqb x k ne)) ∙ ap (λ b. b || stands (without_number k xs) k) (ne_eqb x k ne)
    ∙ left_out k xs once.1)
    (cases_eq x k)

pub others_stand : (j k : ℕ) (xs : List ℕ) → j ≢ k → stands (without_number k xs) j ≡ stands xs j
others_stand j k [] ne = refl
others_stand j k (x ∷ xs) ne =
    ⊎_elim
    (λ (e : x ≡ k).
    let apart : x ≢ j = λ same. ne (sym same ∙ e) in
    ap (λ ys. stands ys j) (cond-true (x == k) xs (x ∷ without_number k xs) (eq-eqb x k e)) ∙ sym (ap (λ b. b || stands xs j) (ne_eqb x j apart)))
    (λ (apart : x ≢ k).
    ap (λ ys. stands ys j) (cond-false (x == k) xs (x ∷ without_number k xs) (ne_eqb x k apart)) ∙ ap (λ b. x == j || b) (others_stand j k xs ne))
    (cases_eq x k)

pub length-without : (k : ℕ) (xs : List ℕ) → stands xs k ≡ true → length (without_number k xs) + 1 ≡ length xs
length-without k [] in' = absurd (let h : false ≡ true = in' in cc)
length-without k (x ∷ xs) in' =
    ⊎_elim
    (λ (e : x ≡ k). ap (λ ys. length ys + 1) (cond-true (x == k) xs (x ∷ without_number k xs) (eq-eqb x k e)) ∙ omega arith)
    (λ (ne : x ≢ k).
    let rest : length (without_number k xs) + 1 ≡ length xs = length-without k xs (sym (ap (λ b. b || stands xs k) (ne_eqb x k ne)) ∙ in') in
    ap (λ ys. length ys + 1) (cond-false (x == k) xs (x ∷ without_number k xs) (ne_eqb x k ne)) ∙ omega arith)
    (cases_eq x k)

-- a number pushed to a list
pub stands_push : (j k : ℕ) (xs : List ℕ) → stands (xs ++ k ∷ []) j ≡ false → (stands xs j ≡ false) × (j ≢ k)
stands_push j k xs out =
    let none : IsNoneOf j (xs ++ k ∷ []) = none_of j (xs ++ k ∷ []) out in
    (out_of j xs (none_left j xs (k ∷ []) none), (none_right j xs (k ∷ []) none).0)

-- numbers below a bound that are none of one more number below it
below_less : (bound : ℕ) (xs : List ℕ) → AreBelow (suc bound) xs → IsNoneOf bound xs → AreBelow bound xs
below_less bound [] below none = tt
below_less bound (x ∷ xs) below none = let apart : bound ≢ x = none.0 in let lt : x < suc bound = below.0 in (omega arith, below_less bound xs below.1 none.1)

-- there are no more numbers than the bound
pub no_more : (bound : ℕ) (xs : List ℕ) → AreOnce xs → AreBelow bound xs → length xs ≤ bound
no_more zero [] once below = omega arith
no_more zero (x ∷ xs) once below = absurd (let lt : x < zero = below.0 in omega arith)
no_more (suc bound) xs once below =
    ⊎_elim
    (λ (e : stands xs bound ≡ true).
    let rest : length (without_number bound xs) ≤ bound =
    no_more bound (without_number bound xs) (once_without bound xs once)
    (below_less bound (without_number bound xs) (below_without (suc bound) bound xs below)
    (none_of bound (without_number bound xs) (left_out bound xs once))) in
    omega (arith, length-without bound xs e))
    (λ (e : stands xs bound ≡ false). let rest : length xs ≤ bound = no_more bound xs once (below_less bound xs below (none_of bound xs e)) in omega arith)
    (cases_Bool (stands xs bound))

-- ---- who is read of the line stands in it

pub first_stands : (xs : List ℕ) (k : ℕ) → slice_get xs 0 ≡ Some k → stands xs k ≡ true
first_stands [] k read = absurd (let h : None ≡ Some k = read in cc)
first_stands (x ∷ xs) k read = let same : x ≡ k = cc in ap (λ b. b || stands xs k) (eq-eqb x k same)

also_stands : (x k : ℕ) (xs : List ℕ) → stands xs k ≡ true → stands (x ∷ xs) k ≡ true
also_stands x k xs in' = ap (λ b. x == k || b) in' ∙ or_true (x == k)

pub next_stands : (xs : List ℕ) (k j : ℕ) → number_behind k xs ≡ Some j → stands xs j ≡ true
next_stands [] k j read = absurd (let h : None ≡ Some j = read in cc)
next_stands (x ∷ xs) k j read =
    ⊎_elim
    (λ (e : x == k ≡ true). also_stands x j xs (first_stands xs j (sym (cond-true (x == k) (slice_get xs 0) (number_behind k xs) e) ∙ read)))
    (λ (e : x == k ≡ false). also_stands x j xs (next_stands xs k j (sym (cond-false (x == k) (slice_get xs 0) (number_behind k xs) e) ∙ read)))
    (cases_Bool (x == k))

-- ---- the line after each call

pub enters_one : EntersOne
enters_one [] k j =
    ⊎_elim (λ (e : k == j ≡ true). ap (λ b. b || false) e ∙ sym (cond-true (k == j) true false e))
    (λ (e : k == j ≡ false). ap (λ b. b || false) e ∙ sym (cond-false (k == j) true false e)) (cases_Bool (k == j))
enters_one (x ∷ xs) k j =
    ⊎_elim
    (λ (e : k == j ≡ true).
    ap (λ b. x == j || b) (enters_one xs k j ∙ cond-true (k == j) true (stands xs j) e) ∙ or_true (x == j)
    ∙ sym (cond-true (k == j) true (x == j || stands xs j) e))
    (λ (e : k == j ≡ false).
    ap (λ b. x == j || b) (enters_one xs k j ∙ cond-false (k == j) true (stands xs j) e) ∙ sym (cond-false (k == j) true (x == j || stands xs j) e))
    (cases_Bool (k == j))

pub leaves_one : LeavesOne
leaves_one xs k j once =
    ⊎_elim
    (λ (e : k ≡ j). ap (λ n. stands (without_number k xs) n) (sym e) ∙ left_out k xs once ∙ sym (cond-true (k == j) false (stands xs j) (eq-eqb k j e)))
    (λ (ne : k ≢ j). others_stand j k xs (λ e. ne (sym e)) ∙ sym (cond-false (k == j) false (stands xs j) (ne_eqb k j ne)))
    (cases_eq k j)

pub keeps_once : KeepsOnce
keeps_once xs k once = (once_without k xs once, λ out. once_push xs k once (none_of k xs out))
