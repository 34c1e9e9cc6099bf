-- A word is a number's exactly where it is the decimal digits of its value, without a leading zero.
use Rattle.std.proofs.Common.{◌≡◌, ◌≢◌, ℕ, ◌+◌, ◌-◌, ◌*◌, ◌^◌, ◌<◌, ◌≤◌, Bool, true, false, cond, List, length, get_or, None, Some, Result, Ok, Err, refl, sym, ap, subst, ◌∙◌, arith, rules, inl, inr}
use Rattle.std.specs.List.{fold}
use Rattle.std.specs.Str.{all_ascii_digits, IsUtf8}
use Rattle.std.specs.Str.Parse.{ParsesUnsigned}
use Rattle.std.specs.Result.{result_ok}
use Rattle.std.specs.Fmt.{decimal}
use Rattle.std.proofs.lemmas.Str.Parse.{IsNumeralModel, numerals_by_fold, parse_plain, not_in_digits}
use Rattle.std.proofs.lemmas.Fmt.{decimal_nonempty, first_decimal, length-decimal-le, digits_decimal, IsAscii-decimal, decimal-digits_value}
use Rattle.std.proofs.lemmas.Slice.Eq.{bytes_eq-Decides}
use Rattle.std.proofs.lemmas.Bool.{and_parts, and_from, ltb-true, lt-ltb, cases_eq}
use Rattle.std.proofs.lemmas.Str.{IsUtf8-from_ascii}
use Rattle.swap_io.specs.Words.{value, number}

pub cond_true : {X : Type 0} (b : Bool) (x y : X) → b ≡ true → cond b x y ≡ x
cond_true true x y h = refl
cond_true false x y h = cc

pub cond_false : {X : Type 0} (b : Bool) (x y : X) → (b ≡ true → ⊥) → cond b x y ≡ y
cond_false true x y h = absurd (h refl)
cond_false false x y h = refl

read_on : ℕ → List ℕ → ℕ
read_on n ds = fold (λ m digit. 10 * m + (digit - 48)) n ds

pub own : IsNumeralModel (λ ds. all_ascii_digits ds ≡ true) value
unfolding read_on
own = numerals_by_fold _ (search rules) read_on (search rules)

-- a word that is not the digits of its value
pub refused : (word : List ℕ) → (decimal (value word) ≡ word → value word < 2 ^ 64 → ⊥) → number word ≡ None
refused word not =
    cond_false _ _ _ (λ both. let parts = and_parts _ _ both in not ((bytes_eq-Decides _ _).0 parts.0) (ltb-true _ _ parts.1))

-- and one that is
pub accepted : (word : List ℕ) → decimal (value word) ≡ word → value word < 2 ^ 64 → number word ≡ Some (value word)
accepted word same small = cond_true _ _ _ (and_from _ _ ((bytes_eq-Decides _ _).1 same) (lt-ltb _ _ small))

pub refused_empty : (word : List ℕ) → length word ≡ 0 → number word ≡ None
refused_empty word empty =
    refused word (λ same small. omega (arith, decimal_nonempty (value word) small, ap length same))

pub refused_plus : (word : List ℕ) → get_or word 0 0 ≡ 43 → 0 < length word → number word ≡ None
refused_plus word plus some =
    refused word
    (λ same small.
    not_in_digits own word 43 (let P : List ℕ → Type 0 = λ ds. all_ascii_digits ds ≡ true in subst P same (digits_decimal own (value word) small))
    (λ range. omega arith) 0 some plus)

pub refused_zero : (word : List ℕ) → get_or word 0 0 ≡ 48 → 1 < length word → number word ≡ None
refused_zero word zero long =
    refused word (λ same small. elim (cases_eq (value word) 0) [
      | inl none ↦ let P : ℕ → Type 0 = λ n. length (decimal n) ≤ 1 in
          let short : length (decimal (value word)) ≤ 1 = subst P (sym none) (length-decimal-le 1 0 (omega arith) (omega arith) (omega arith)) in
          omega (arith, ap length same)
      | inr some ↦ omega (arith, first_decimal (value word) (omega arith) small, ap (λ ds. get_or ds 0 0) same)
    ])

pub refused_text : (word : List ℕ) → (IsUtf8 word → ⊥) → number word ≡ None
refused_text word not =
    refused word (λ same small. not (subst IsUtf8 same (IsUtf8-from_ascii _ (IsAscii-decimal (value word) small))))

-- what `parse` reads of a word without a sign and without a leading zero
pub parsed :
    {E : Type 0} (word : List ℕ) (r : Result ℕ E) → ParsesUnsigned 64 10 word r → get_or word 0 0 ≢ 43 → (get_or word 0 0 ≡ 48 → length word ≤ 1)
    → 0 < length word → result_ok r ≡ number word
parsed {E} word (Ok n) parses plain no_zero some =
    let read : ((all_ascii_digits word ≡ true) × (0 < length word) × (value word < 2 ^ 64)) × (n ≡ value word) =
    parse_plain own {E = E} 64 word (Ok n) parses plain in
    ap Some read.1 ∙ sym (accepted word (decimal-digits_value own word read.0.0 some (λ zero. omega (arith, no_zero zero)) read.0.2) read.0.2)
parsed {E} word (Err e) parses plain no_zero some =
    let read = parse_plain own {E = E} 64 word (Err e) parses plain in
    sym
    (refused word
    (λ same small. read (let P : List ℕ → Type 0 = λ ds. all_ascii_digits ds ≡ true in subst P same (digits_decimal own (value word) small), some, small)))
