-- What is printed of a number and of a page is read back.
use Rattle.std.proofs.Common.{◌≡◌, ℕ, zero, suc, ◌+◌, ◌*◌, ◌/◌, ◌%◌, ◌^◌, ◌<◌, ◌≤◌, Bool, true, false, cond, eqb, nat_lt, List, [], ◌∷◌, length, take, map, Option, None, Some, refl, sym, ap, ap₂, subst, ◌∙◌, arith, inl, inr}
use Rattle.std.specs.List.{list_any, list_all, find}
use Rattle.std.specs.Option.{unwrap_or}
use Rattle.std.specs.Fmt.{decimal, digit_glyph}
use Rattle.std.specs.Str.{bytes_eq}
use Rattle.std.proofs.lemmas.Fmt.{digits_value-decimal}
use Rattle.std.proofs.lemmas.Option.{cond_some}
use Rattle.std.proofs.lemmas.Bool.{and_parts, and_from, ltb-true, lt-ltb, le-leb, eq-eqb, cases_lt}
use Rattle.std.proofs.lemmas.Bool.Decides.{nat_tests}
use Rattle.std.proofs.lemmas.Slice.Eq.{bytes_eq-Decides}
use Rattle.std.proofs.lemmas.List.{length-take, length-take-le, take_all}
use Rattle.swap_base.specs.Sizes.{page_lengths}
use Rattle.swap_io.specs.Words.{value, number, hex, is_hex_digit, hex_value, pairs, piece_of, lengths, is_piece, repeat_piece, fill_page, pattern, shortest_piece, shortest}
use Rattle.swap_io.specs.ReadBack.{AreBytes}
use Rattle.swap_io.proofs.Numbers.{own, accepted, cond_true}
use Rattle.swap_io.proofs.Pieces.{list_all-at}
use Rattle.swap_io.proofs.Periods.{repeats_whole}
use Rattle.swap_io.proofs.Shortest.{length-hex}

pub number_again : (n : ℕ) → n < 2 ^ 64 → number (decimal n) ≡ Some n
number_again n small =
    let same : value (decimal n) ≡ n = digits_value-decimal own n small in
    accepted (decimal n) (ap decimal same) (omega (arith, same)) ∙ ap (λ m. Some m) same

pub number_one : (word : List ℕ) (n : ℕ) → number word ≡ Some n → (word ≡ decimal n) × (n < 2 ^ 64)
number_one word n read =
    let both = cond_some _ (value word) n read in
    let parts = and_parts _ _ both.0 in
    let word_is : decimal (value word) ≡ word = (bytes_eq-Decides _ _).0 parts.0 in
    (sym word_is ∙ ap decimal both.1, subst (λ (m : ℕ). m < 2 ^ 64) both.1 (ltb-true _ _ parts.1))

glyph_is_hex : (d : ℕ) → d < 16 → is_hex_digit (digit_glyph false d) ≡ true
glyph_is_hex d small = grind (arith, nat_tests)

glyph_value : (d : ℕ) → d < 16 → hex_value (digit_glyph false d) ≡ d
glyph_value d small = grind (arith, nat_tests)

tail_bytes : (b : ℕ) (bytes : List ℕ) → AreBytes (b ∷ bytes) → AreBytes bytes
tail_bytes b bytes are = λ i. are (suc i)

take_bytes : (n : ℕ) (bytes : List ℕ) → AreBytes bytes → AreBytes (take n bytes)
take_bytes zero bytes are i = omega arith
take_bytes (suc n) [] are i = omega arith
take_bytes (suc n) (b ∷ bytes) are zero = are 0
take_bytes (suc n) (b ∷ bytes) are (suc i) = take_bytes n bytes (tail_bytes b bytes are) i

high : (b : ℕ) → b < 256 → b / 16 < 16
high b small = omega arith

low : (b : ℕ) → b % 16 < 16
low b = omega arith

all_hex : (bytes : List ℕ) → AreBytes bytes → list_all is_hex_digit (hex bytes) ≡ true
all_hex [] are = refl
all_hex (b ∷ bytes) are =
    and_from _ _ (glyph_is_hex (b / 16) (high b (are 0))) (and_from _ _ (glyph_is_hex (b % 16) (low b)) (all_hex bytes (tail_bytes b bytes are)))

pairs_hex : (bytes : List ℕ) → AreBytes bytes → pairs (hex bytes) ≡ bytes
pairs_hex [] are = refl
pairs_hex (b ∷ bytes) are =
    let first : 16 * hex_value (digit_glyph false (b / 16)) + hex_value (digit_glyph false (b % 16)) ≡ b =
    omega (arith, glyph_value (b / 16) (high b (are 0)), glyph_value (b % 16) (low b)) in
    ap₂ (λ c rest. c ∷ rest) first (pairs_hex bytes (tail_bytes b bytes are))

-- the hex of a piece is read as that piece
piece_again : (piece : List ℕ) → AreBytes piece → 0 < length piece → piece_of (hex piece) ≡ Some piece
piece_again piece are some =
    let even : length (hex piece) % 2 ≡ 0 = omega (arith, length-hex piece) in
    let long : 0 < length (hex piece) = omega (arith, length-hex piece) in
    cond_true _ (Some (pairs (hex piece))) None (and_from _ _ (and_from _ _ (all_hex piece are) (eq-eqb _ _ even)) (lt-ltb _ _ long))
    ∙ ap (λ p. Some p) (pairs_hex piece are)

-- a page's length is one of a piece too, and a piece isn't empty
page_length : (n : ℕ) → list_any (λ m. eqb n m) page_lengths ≡ true → list_any (λ m. eqb n m) lengths ≡ true
page_length n is = list_all-at (λ s. list_any (λ m. eqb s m) lengths) page_lengths n is refl

positive_length : (n : ℕ) → list_any (λ m. eqb n m) lengths ≡ true → 0 < n
positive_length n is = ltb-true 0 n (list_all-at (λ m. nat_lt 0 m) lengths n is refl)

-- a piece that a page repeats
record Fills (page piece : List ℕ) : Type 0 where
  listed : list_any (λ m. eqb (length piece) m) lengths ≡ true
  short : length piece ≤ length page
  whole : repeat_piece (length page) piece ≡ page
  bytes : AreBytes piece

abbrev find_from : List ℕ → List ℕ → Option (List ℕ)
find_from page ns = find (λ piece. bytes_eq (repeat_piece (length page) piece) page) (map (λ n. take n page) ns)

taken_length :
    (page : List ℕ) (n : ℕ) → list_any (λ m. eqb (length page) m) lengths ≡ true → list_any (λ m. eqb n m) lengths ≡ true
    → list_any (λ m. eqb (length (take n page)) m) lengths ≡ true
taken_length page n whole listed =
    elim (cases_lt (length page) n) [
      | inl long ↦ ap (λ xs. list_any (λ m. eqb (length xs) m) lengths) (take_all n page (omega arith)) ∙ whole
      | inr short ↦ ap (λ k. list_any (λ m. eqb k m) lengths) (length-take-le n page (omega arith)) ∙ listed
    ]

fills_case :
    (page : List ℕ) (n : ℕ) (b : Bool) (later : Option (List ℕ)) → bytes_eq (repeat_piece (length page) (take n page)) page ≡ b
    → list_any (λ m. eqb (length page) m) lengths ≡ true → list_any (λ m. eqb n m) lengths ≡ true → AreBytes page → Fills page (unwrap_or later page)
    → Fills page (unwrap_or (cond b (Some (take n page)) later) page)
fills_case page n true later is whole listed are rest = record {
  listed = taken_length page n whole listed;
  short = omega (arith, length-take n page);
  whole = (bytes_eq-Decides _ _).0 is;
  bytes = take_bytes n page are;
}
fills_case page n false later is whole listed are rest = rest

fills_from :
    (page : List ℕ) (ns : List ℕ) → list_any (λ m. eqb (length page) m) lengths ≡ true → list_all (λ n. list_any (λ m. eqb n m) lengths) ns ≡ true
    → AreBytes page
    → Fills page (unwrap_or (find_from page ns) page)
fills_from page [] whole all are = record {
  listed = whole;
  short = omega arith;
  whole =
      ap (λ p. repeat_piece (length page) p) (sym (take_all (length page) page (omega arith)))
      ∙ (bytes_eq-Decides _ _).0 (sym (repeats_whole page (length page) (omega arith)));
  bytes = are;
}
fills_from page (n ∷ ns) whole all are =
    let parts = and_parts _ _ all in
    fills_case page n _ (find_from page ns) refl whole parts.0 are (fills_from page ns whole parts.1 are)

pub page_again : (page : List ℕ) → list_any (λ m. eqb (length page) m) page_lengths ≡ true → AreBytes page → pattern (length page) (shortest page) ≡ Some page
page_again page is_page are =
    let fills = fills_from page lengths (page_length (length page) is_page) refl are in
    let piece : List ℕ = shortest_piece page in
    let some : 0 < length piece = positive_length (length piece) fills.listed in
    ap (λ o. fill_page (length page) o) (piece_again piece fills.bytes some)
    ∙ cond_true (is_piece (length page) piece) (Some (repeat_piece (length page) piece)) None (and_from _ _ fills.listed (le-leb _ _ fills.short))
    ∙ ap (λ p. Some p) fills.whole
