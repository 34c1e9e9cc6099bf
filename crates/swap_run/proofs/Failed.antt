-- A history is searched from its newest entry on.
use Rattle.std.proofs.Common.{◌≡◌, ℕ, ◌+◌, ◌<◌, Bool, true, false, cond, ◌==◌, ◌||◌, List, [], ◌∷◌, length, take, get_or, zero, suc, refl, sym, ap, ◌∙◌, arith, subst, option_map, Some}
use Rattle.std.proofs.lemmas.Bool.{eq-eqb}
use Rattle.std.proofs.Math.Seq.{take-length}
use Rattle.std.proofs.lemmas.List.Folds.{list_any_at}
use Rattle.std.specs.List.{list_any}
use Rattle.swap_record.specs.declared.Entry.{Entry}
use Rattle.swap_record.specs.History.{History, Row, row_named}
use Rattle.swap_run.specs.Run.{is_failed, is_failed_row, has_failed}
use Rattle.swap_base.proofs.Lists.{not_eqb}

-- the entry of a name is that many places from the oldest
named_at : (H : History) (i : ℕ) (n : ℕ) (row : Row) → n + 1 + i ≡ length H → row_named H n ≡ Some (get_or H i row)
named_at [] i n row e = absurd (omega (arith, e))
named_at (r ∷ H) zero n row e = let same : length H ≡ n = omega (arith, e) in ap (λ b. cond b (Some r) (row_named H n)) (eq-eqb (length H) n same)
named_at (r ∷ H) (suc i) n row e =
    let ne : (length H == n) ≡ false = not_eqb (length H) n (λ same. omega (arith, e, same)) in
    ap (λ b. cond b (Some r) (row_named H n)) ne ∙ named_at H i n row (omega (arith, e))

entry_at :
    (H : History) (i : ℕ) (n : ℕ) (row : Row) (entry : Entry) → n + 1 + i ≡ length H → option_map (λ (r : Row). r.entry) (row_named H n) ≡ Some entry
    → (get_or H i row).entry ≡ entry
entry_at H i n row entry e is = some_is (ap (λ o. option_map (λ (r : Row). r.entry) o) (sym (named_at H i n row e)) ∙ is)
  where
    some_is : {x y : Entry} → Some x ≡ Some y → x ≡ y
    some_is e = cc

any_more :
    (p : Row → Bool) (xs : List Row) (i : ℕ) (d : Row) → i < length xs → list_any p (take i xs) ≡ false → p (get_or xs i d) ≡ false
    → list_any p (take (suc i) xs) ≡ false
any_more p [] i d h none passed = absurd (omega (arith, h))
any_more p (x ∷ xs) zero d h none passed = ap (λ b. b || list_any p (take 0 xs)) passed ∙ nothing xs
  where
    nothing : (ys : List Row) → list_any p (take 0 ys) ≡ false
    nothing [] = refl
    nothing (y ∷ ys) = refl
any_more p (x ∷ xs) (suc i) d h none passed = by_first (p x) none (λ e. any_more p xs i d (omega (arith, h)) e passed)
  where
    by_first :
        (b : Bool) → (b || list_any p (take i xs)) ≡ false → (list_any p (take i xs) ≡ false → list_any p (take (suc i) xs) ≡ false)
        → (b || list_any p (take (suc i) xs)) ≡ false
    by_first true e more = cc
    by_first false e more = more e

some_row : Entry → Row
some_row entry = record { entry = entry; bytes = [] }

pub failed_here :
    (H : History) (i n : ℕ) (entry : Entry) → n + 1 + i ≡ length H → option_map (λ (r : Row). r.entry) (row_named H n) ≡ Some entry → is_failed entry.op ≡ true
    → has_failed H ≡ true
failed_here H i n entry e is failed =
    list_any_at is_failed_row H i (some_row entry) (omega (arith, e)) (ap (λ (x : Entry). is_failed x.op) (entry_at H i n (some_row entry) entry e is) ∙ failed)

pub none_here :
    (H : History) (i n : ℕ) (entry : Entry) → n + 1 + i ≡ length H → option_map (λ (r : Row). r.entry) (row_named H n) ≡ Some entry → is_failed entry.op ≡ false
    → list_any is_failed_row (take i H) ≡ false → list_any is_failed_row (take (i + 1) H) ≡ false
none_here H i n entry e is failed none =
    let more =
    any_more is_failed_row H i (some_row entry) (omega (arith, e)) none
    (ap (λ (x : Entry). is_failed x.op) (entry_at H i n (some_row entry) entry e is) ∙ failed) in
    let one : i + 1 ≡ suc i = omega arith in rw one more

-- a whole list was searched
pub none_at_all : (H : History) (n : ℕ) → n ≡ length H → list_any is_failed_row (take n H) ≡ false → has_failed H ≡ false
none_at_all H n e none =
    let P : ℕ → Type 0 = λ m. list_any is_failed_row (take m H) ≡ false in ap (λ l. list_any is_failed_row l) (sym (take-length H)) ∙ subst P e none
