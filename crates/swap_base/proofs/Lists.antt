-- Lists, choices and numbers.
use Rattle.std.proofs.Common.{◌≡◌, ℕ, ◌+◌, ◌<◌, Bool, true, false, cond, ◌||◌, ◌==◌, nat_eq, List, [], ◌∷◌, ◌++◌, map, get_or, set, length, replicate, zero, suc, refl, sym, subst, arith, ap, count_by}
use Rattle.std.proofs.lemmas.Bool.{eqb-true, eqb-false}
use Rattle.std.proofs.lemmas.List.Sums.{sum_by-set, sum_by-append}
use Rattle.std.specs.List.{AllByRecursion}
use Rattle.swap_base.specs.declared.Page.{Page}
use Rattle.swap_base.specs.declared.Caller.{Caller}

-- a choice has what both its sides have
pub chosen : {A : Type 0} (P : A → Type 0) (b : Bool) (x y : A) → (b ≡ true → P x) → (b ≡ false → P y) → P (cond b x y)
chosen P true x y f g = f refl
chosen P false x y f g = g refl

pub All-set : {X : Type 0} (P : X → Type 0) (xs : List X) (i : ℕ) (x : X) → AllByRecursion P xs → P x → AllByRecursion P (set xs i x)
All-set P [] i x all p = tt
All-set P (y ∷ ys) zero x all p = (p, all.1)
All-set P (y ∷ ys) (suc i) x all p = (all.0, All-set P ys i x all.1 p)

pub All-get_or : {X : Type 0} (P : X → Type 0) (xs : List X) (i : ℕ) (d : X) → AllByRecursion P xs → P d → P (get_or xs i d)
All-get_or P [] i d all p = p
All-get_or P (y ∷ ys) zero d all p = all.0
All-get_or P (y ∷ ys) (suc i) d all p = All-get_or P ys i d all.1 p

pub All-map :
    {X Y : Type 0} (P : X → Type 0) (Q : Y → Type 0) (f : X → Y) (xs : List X) → ((x : X) → P x → Q (f x)) → AllByRecursion P xs → AllByRecursion Q (map f xs)
All-map P Q f [] each all = tt
All-map P Q f (x ∷ xs) each all = (each x all.0, All-map P Q f xs each all.1)

pub All-implies : {X : Type 0} (P Q : X → Type 0) (xs : List X) → ((x : X) → P x → Q x) → AllByRecursion P xs → AllByRecursion Q xs
All-implies P Q [] each all = tt
All-implies P Q (x ∷ xs) each all = (each x all.0, All-implies P Q xs each all.1)

pub All-replicate : {X : Type 0} (P : X → Type 0) (n : ℕ) (x : X) → P x → AllByRecursion P (replicate n x)
All-replicate P zero x p = tt
All-replicate P (suc n) x p = (p, All-replicate P n x p)

pub All-append : {X : Type 0} (P : X → Type 0) (xs ys : List X) → AllByRecursion P xs → AllByRecursion P ys → AllByRecursion P (xs ++ ys)
All-append P [] ys all more = more
All-append P (x ∷ xs) ys all more = (all.0, All-append P xs ys all.1 more)

pub both : {X : Type 0} (P Q : X → Type 0) (xs : List X) → AllByRecursion P xs → AllByRecursion Q xs → AllByRecursion (λ x. P x × Q x) xs
both P Q [] p q = tt
both P Q (x ∷ xs) p q = ((p.0, q.0), both P Q xs p.1 q.1)

-- a fact of one number, and of each other
pub by_number : (P : ℕ → Type 0) (n m : ℕ) → P n → ((m ≡ n → ⊥) → P m) → P m
by_number P n m same other = go (nat_eq m n) refl
  where
    go : (b : Bool) → nat_eq m n ≡ b → P m
    go true e = subst P (sym (eqb-true m n e)) same
    go false e = other (eqb-false m n e)

pub by_page : (P : Page → Type 0) (p r : Page) → P p → ((r.0 ≡ p.0 → ⊥) → P r) → P r
by_page P p r same other = by_number (λ n. P (record { 0 = n })) p.0 r.0 same other

pub by_caller : (P : Caller → Type 0) (c e : Caller) → P c → ((e.0 ≡ c.0 → ⊥) → P e) → P e
by_caller P c e same other = by_number (λ n. P (record { 0 = n })) c.0 e.0 same other

-- equal numbers test as equal, and others as different
pub not_eqb : (a b : ℕ) → (a ≡ b → ⊥) → (a == b) ≡ false
not_eqb a b ne = go (nat_eq a b) refl
  where
    go : (t : Bool) → nat_eq a b ≡ t → nat_eq a b ≡ false
    go true e = absurd (ne (eqb-true a b e))
    go false e = e

-- 1 where a test holds, else 0
abbrev pub one_if : Bool → ℕ
one_if b = cond b 1 0

-- counting after one place was set
pub count_by-set_same :
    {X : Type 0} (p : X → Bool) (xs : List X) (i : ℕ) (y d : X) → i < length xs → p y ≡ p (get_or xs i d) → count_by p (set xs i y) ≡ count_by p xs
count_by-set_same p xs i y d h e =
    let s = sum_by-set (λ x. one_if (p x)) xs i y d h in
    let same : one_if (p y) ≡ one_if (p (get_or xs i d)) = ap one_if e in omega (arith, s, same)

pub count_by-set_more :
    {X : Type 0} (p : X → Bool) (xs : List X) (i : ℕ) (y d : X) → i < length xs → p y ≡ true → p (get_or xs i d) ≡ false
    → count_by p (set xs i y) ≡ count_by p xs + 1
count_by-set_more p xs i y d h now was =
    let s = sum_by-set (λ x. one_if (p x)) xs i y d h in
    let one : one_if (p y) ≡ one_if true = ap one_if now in
    let none : one_if (p (get_or xs i d)) ≡ one_if false = ap one_if was in omega (arith, s, one, none)

pub count_by-set_less :
    {X : Type 0} (p : X → Bool) (xs : List X) (i : ℕ) (y d : X) → i < length xs → p y ≡ false → p (get_or xs i d) ≡ true
    → count_by p (set xs i y) + 1 ≡ count_by p xs
count_by-set_less p xs i y d h now was =
    let s = sum_by-set (λ x. one_if (p x)) xs i y d h in
    let one : one_if (p (get_or xs i d)) ≡ one_if true = ap one_if was in
    let none : one_if (p y) ≡ one_if false = ap one_if now in omega (arith, s, one, none)

pub count_by-append_one : {X : Type 0} (p : X → Bool) (xs : List X) (x : X) → count_by p (xs ++ x ∷ []) ≡ count_by p xs + one_if (p x)
count_by-append_one p xs x = let s = sum_by-append (λ y. one_if (p y)) xs (x ∷ []) in omega (arith, s)

pub count_by-cons : {X : Type 0} (p : X → Bool) (x : X) (xs : List X) → count_by p (x ∷ xs) ≡ one_if (p x) + count_by p xs
count_by-cons p x xs = let s = sum_by-append (λ y. one_if (p y)) (x ∷ []) xs in omega (arith, s)
