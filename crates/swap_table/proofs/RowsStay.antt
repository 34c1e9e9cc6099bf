-- A row of a table after one row was set, and what a search finds afterwards.
use Rattle.std.proofs.Common.{◌≡◌, ℕ, Bool, true, false, cond, ◌==◌, List, [], ◌∷◌, ◌++◌, get_or, set, find, zero, suc, refl, sym, ap, ◌∙◌, None, Some}
use Rattle.std.specs.Option.{option_or}
use Rattle.std.proofs.lemmas.Bool.{eqb-true}
use Rattle.std.proofs.lemmas.List.Folds.{find-append}
use Rattle.std.specs.List.{AllByRecursion}
use Rattle.swap_base.specs.declared.Page.{Page}
use Rattle.swap_base.specs.declared.Caller.{Caller}
use Rattle.swap_base.specs.declared.DiskWhich.TheVariants as which
use Rattle.swap_disk.specs.Disk.{Flight, Write, Read, is_flight_of, without_flight}
use Rattle.swap_base.proofs.Lists.{not_eqb}

-- a row after a row was set: the new one in its place, and the old one elsewhere
pub set_either :
    {X : Type 0} (P : X → Type 0) (xs : List X) (i j : ℕ) (x d : X) → P d → ((j ≡ i → ⊥) → P (get_or xs j d)) → (j ≡ i → P x) → P (get_or (set xs i x) j d)
set_either P [] i j x d default old new = default
set_either P (y ∷ ys) zero zero x d default old new = new refl
set_either P (y ∷ ys) zero (suc j) x d default old new = old (λ e. cc)
set_either P (y ∷ ys) (suc i) zero x d default old new = old (λ e. cc)
set_either P (y ∷ ys) (suc i) (suc j) x d default old new = set_either P ys i j x d default (λ other. old (λ e. other (before e))) (λ e. new (ap suc e))
  where
    before : {a b : ℕ} → suc a ≡ suc b → a ≡ b
    before e = cc

-- what held of a row holds after a row was set, where it holds of the new one
pub set_keeps : {X : Type 0} (P : X → Type 0) (xs : List X) (i j : ℕ) (x d : X) → P (get_or xs j d) → (j ≡ i → P x) → P (get_or (set xs i x) j d)
set_keeps P [] i j x d old new = old
set_keeps P (y ∷ ys) zero zero x d old new = new refl
set_keeps P (y ∷ ys) zero (suc j) x d old new = old
set_keeps P (y ∷ ys) (suc i) zero x d old new = old
set_keeps P (y ∷ ys) (suc i) (suc j) x d old new = set_keeps P ys i j x d old (λ e. new (ap suc e))

-- what was found is found in a longer list
pub find_longer : {X : Type 0} (p : X → Bool) (xs ys : List X) (x : X) → find p xs ≡ Some x → find p (xs ++ ys) ≡ Some x
find_longer p xs ys x e = find-append p xs ys ∙ ap (λ o. option_or o (find p ys)) e

-- what wasn't found before stands at the end
pub find_last : {X : Type 0} (p : X → Bool) (xs : List X) (x : X) → AllByRecursion (λ y. p y ≡ false) xs → p x ≡ true → find p (xs ++ x ∷ []) ≡ Some x
find_last p [] x none is = ap (λ b. cond b (Some x) None) is
find_last p (y ∷ xs) x none is = ap (λ b. cond b (Some y) (find p (xs ++ x ∷ []))) none.0 ∙ find_last p xs x none.1 is

-- another caller's read is found in what is left
pub find-without_write :
    (c : Caller) (p : Page) (fs : List Flight) → find (is_flight_of (which.Read c)) (without_flight (which.Write p) fs) ≡ find (is_flight_of (which.Read c)) fs
find-without_write c p [] = refl
find-without_write c p (Read e q ∷ fs) = ap (λ o. cond (c.0 == e.0) (Some (Read e q)) o) (find-without_write c p fs)
find-without_write c p (Write q bytes ∷ fs) = go (p.0 == q.0) (find-without_write c p fs)
  where
    go :
        (b : Bool) → find (is_flight_of (which.Read c)) (without_flight (which.Write p) fs) ≡ find (is_flight_of (which.Read c)) fs
        → find (is_flight_of (which.Read c)) (cond b fs (Write q bytes ∷ without_flight (which.Write p) fs)) ≡ find (is_flight_of (which.Read c)) fs
    go true rest = refl
    go false rest = rest

pub find-without_read :
    (c e : Caller) (fs : List Flight) → (e.0 ≡ c.0 → ⊥) → find (is_flight_of (which.Read e)) (without_flight (which.Read c) fs)
    ≡ find (is_flight_of (which.Read e)) fs
find-without_read c e [] other = refl
find-without_read c e (Write q bytes ∷ fs) other = find-without_read c e fs other
find-without_read c e (Read x q ∷ fs) other = go (c.0 == x.0) refl (find-without_read c e fs other)
  where
    go : (b : Bool) → (c.0 == x.0) ≡ b → find (is_flight_of (which.Read e)) (without_flight (which.Read c) fs) ≡ find (is_flight_of (which.Read e)) fs
        → find (is_flight_of (which.Read e)) (cond b fs (Read x q ∷ without_flight (which.Read c) fs))
        ≡ cond (e.0 == x.0) (Some (Read x q)) (find (is_flight_of (which.Read e)) fs)
    go true is rest =
        sym (ap (λ b. cond b (Some (Read x q)) (find (is_flight_of (which.Read e)) fs)) (not_eqb e.0 x.0 (λ same. other (same ∙ sym (eqb-true c.0 x.0 is)))))
    go false is rest = ap (λ o. cond (e.0 == x.0) (Some (Read x q)) o) rest
