-- The bytes of a piece by their places, and the page that repeats it.
use Rattle.std.proofs.Common.{◌≡◌, ℕ, zero, suc, ◌+◌, ◌-◌, ◌*◌, ◌/◌, ◌%◌, ◌<◌, ◌≤◌, Bool, true, false, cond, eqb, leb, nat_lt, List, [], ◌∷◌, ◌&&◌, ◌||◌, not, length, get_or, is_some, None, Some, refl, sym, ap, ap₂, ◌∙◌, arith, inl, inr}
use Rattle.std.specs.List.{list_any, list_all}
use Rattle.std.proofs.lemmas.Bool.{and_parts, and_from, cases_lt, or_cases, eqb-true, eq-eqb, lt-ltb, le-leb, leb-true, ltb-true, both_ways}
use Rattle.std.proofs.Math.Nat.{mod-eq_of_lt, mod-eq-sub-mod}
use Rattle.std.proofs.lemmas.List.{length-append, get_or_append_left, get_or-append_right, ext_get_or}
use Rattle.swap_base.specs.Sizes.{page_lengths}
use Rattle.swap_io.specs.Words.{is_hex_digit, hex_value, piece_of, pairs, times, lengths, is_piece, repeat_piece, fill_page, pattern}
use Rattle.swap_io.proofs.Numbers.{cond_true, cond_false}

pub is_some-cond : {X : Type 0} (b : Bool) (x : X) → is_some (cond b (Some x) None) ≡ b
is_some-cond true x = refl
is_some-cond false x = refl

pub length-pairs : (word : List ℕ) → length (pairs word) ≡ length word / 2
length-pairs [] = refl
length-pairs (a ∷ []) = refl
length-pairs (a ∷ b ∷ rest) = omega (arith, length-pairs rest)

pub get_or-pairs :
    (word : List ℕ) (i : ℕ) → 2 * i + 1 < length word → get_or (pairs word) i 0 ≡ 16 * hex_value (get_or word (2 * i) 0) + hex_value (get_or word (2 * i + 1) 0)
get_or-pairs [] i within = absurd (omega arith)
get_or-pairs (a ∷ []) i within = absurd (omega arith)
get_or-pairs (a ∷ b ∷ rest) zero within = refl
get_or-pairs (a ∷ b ∷ rest) (suc i) within =
    let even : 2 * suc i ≡ suc (suc (2 * i)) = omega arith in
    let odd : 2 * suc i + 1 ≡ suc (suc (2 * i + 1)) = omega arith in
    get_or-pairs rest i (omega arith) ∙ sym (ap₂ (λ j k. 16 * hex_value (get_or (a ∷ b ∷ rest) j 0) + hex_value (get_or (a ∷ b ∷ rest) k 0)) even odd)

pub length-times : (n : ℕ) (piece : List ℕ) → length (times n piece) ≡ n * length piece
length-times zero piece = omega arith
length-times (suc n) piece = omega (arith, length-append piece (times n piece), length-times n piece)

pub get_or-times : (n : ℕ) (piece : List ℕ) (i : ℕ) → i < n * length piece → get_or (times n piece) i 0 ≡ get_or piece (i % length piece) 0
get_or-times zero piece i within = absurd (omega arith)
get_or-times (suc n) piece i within =
    elim (cases_lt i (length piece)) [
      | inl below ↦ get_or_append_left piece (times n piece) 0 i below ∙ ap (λ k. get_or piece k 0) (sym (mod-eq_of_lt below))
      | inr above ↦
          get_or-append_right piece (times n piece) (length piece) i 0 refl above ∙ get_or-times n piece (i - length piece) (omega arith)
          ∙ ap (λ k. get_or piece k 0) (sym (mod-eq-sub-mod above))
    ]

-- what each listed number passes, a number passes that is in the list
pub list_all-at : (p : ℕ → Bool) (xs : List ℕ) (x : ℕ) → list_any (λ n. eqb x n) xs ≡ true → list_all p xs ≡ true → p x ≡ true
list_all-at p [] x any all = cc
list_all-at p (y ∷ ys) x any all =
    let parts = and_parts (p y) (list_all p ys) all in
    elim (or_cases (eqb x y) (list_any (λ n. eqb x n) ys) any) [
      | inl same ↦ ap p (eqb-true x y same) ∙ parts.0
      | inr later ↦ list_all-at p ys x later parts.1
    ]

list_all-divides : list_all (λ size. list_all (λ len. not (leb len size) || eqb (size / len * len) size) lengths) page_lengths ≡ true
list_all-divides = refl

implied : (a b : Bool) → (not a || b) ≡ true → a ≡ true → b ≡ true
implied true b h p = h
implied false b h p = cc

-- each length of a piece divides each length of a page that isn't smaller
pub divides : (size len : ℕ) → list_any (λ n. eqb size n) page_lengths ≡ true → list_any (λ n. eqb len n) lengths ≡ true → len ≤ size → size / len * len ≡ size
divides size len is_page is_len small =
    let at_size = list_all-at (λ s. list_all (λ m. not (leb m s) || eqb (s / m * m) s) lengths) page_lengths size is_page list_all-divides in
    let at_len = list_all-at (λ m. not (leb m size) || eqb (size / m * m) size) lengths len is_len at_size in
    eqb-true _ _ (implied (leb len size) (eqb (size / len * len) size) at_len (le-leb len size small))

pub eqb_comm : (x y : ℕ) → eqb x y ≡ eqb y x
eqb_comm x y = grind arith

pub list_any_comm : (x : ℕ) (xs : List ℕ) → list_any (λ n. eqb n x) xs ≡ list_any (λ n. eqb x n) xs
list_any_comm x [] = refl
list_any_comm x (y ∷ ys) = ap₂ (λ a b. a || b) (eqb_comm y x) (list_any_comm x ys)

both_hold : (a b c : Bool) → b ≡ true → c ≡ true → (a && b && c) ≡ a
both_hold true true true p q = refl
both_hold false true true p q = refl
both_hold a false c p q = cc
both_hold a true false p q = cc

-- a piece has a byte at least
pub positive : (len : ℕ) → list_any (λ n. eqb n len) lengths ≡ true → 0 < len
positive len listed =
    ltb-true 0 len (list_all-at (λ n. nat_lt 0 n) lengths len (sym (list_any_comm len lengths) ∙ listed) refl)

-- a word of whole bytes, at least one, is hex where all its digits are
pub is_some-piece_of : (word : List ℕ) (r : Bool) → r ≡ list_all is_hex_digit word → 0 < length word → length word % 2 ≡ 0 → r ≡ is_some (piece_of word)
is_some-piece_of word r all some even =
    all ∙ sym (both_hold (list_all is_hex_digit word) _ _ (eq-eqb _ _ even) (lt-ltb _ _ some)) ∙ sym (is_some-cond _ (pairs word))

filled_none : (size : ℕ) (b : Bool) (piece : List ℕ) → is_some (cond b (Some piece) None) ≡ false → fill_page size (cond b (Some piece) None) ≡ None
filled_none size true piece h = cc
filled_none size false piece h = refl

filled_some :
    (size : ℕ) (b : Bool) (piece : List ℕ) → is_some (cond b (Some piece) None) ≡ true
    → fill_page size (cond b (Some piece) None) ≡ cond (is_piece size piece) (Some (repeat_piece size piece)) None
filled_some size true piece h = refl
filled_some size false piece h = cc

-- a word that is no hex stands for no page
pub refused_word : (size : ℕ) (word : List ℕ) → is_some (piece_of word) ≡ false → pattern size word ≡ None
refused_word size word none = filled_none size _ (pairs word) none

-- what a word of hex stands for
pub pattern-hex :
    (size : ℕ) (word : List ℕ) → is_some (piece_of word) ≡ true
    → pattern size word ≡ cond (is_piece size (pairs word)) (Some (repeat_piece size (pairs word))) None
pattern-hex size word some = filled_some size _ (pairs word) some

-- a word whose piece has another length, or is longer than the page
pub refused_length :
    (size : ℕ) (word : List ℕ) → is_some (piece_of word) ≡ true → list_any (λ n. eqb n (length word / 2)) lengths ≡ false → pattern size word ≡ None
refused_length size word some other =
    pattern-hex size word some
    ∙ cond_false (is_piece size (pairs word)) (Some (repeat_piece size (pairs word))) None
    (λ piece. let listed = (and_parts (list_any (λ n. eqb (length (pairs word)) n) lengths) (leb (length (pairs word)) size) piece).0 in
    both_ways _ other (list_any_comm (length word / 2) lengths ∙ ap (λ k. list_any (λ n. eqb k n) lengths) (sym (length-pairs word)) ∙ listed))

pub refused_long : (size : ℕ) (word : List ℕ) → is_some (piece_of word) ≡ true → size < length word / 2 → pattern size word ≡ None
refused_long size word some long =
    pattern-hex size word some
    ∙ cond_false (is_piece size (pairs word)) (Some (repeat_piece size (pairs word))) None
    (λ piece. let short =
    leb-true (length (pairs word)) size (and_parts (list_any (λ n. eqb (length (pairs word)) n) lengths) (leb (length (pairs word)) size) piece).1 in
    omega (arith, length-pairs word))

-- a page that a piece fills, byte by byte
pub repeated_page :
    (piece page : List ℕ) → list_any (λ n. eqb (length page) n) page_lengths ≡ true → list_any (λ n. eqb (length piece) n) lengths ≡ true
    → length piece ≤ length page → ((k : ℕ) → k < length page → get_or page k 0 ≡ get_or piece (k % length piece) 0) → page ≡ repeat_piece (length page) piece
repeated_page piece page is_page is_len small bytes =
    let whole : length page / length piece * length piece ≡ length page = divides (length page) (length piece) is_page is_len small in
    ext_get_or 0 page (repeat_piece (length page) piece) (sym whole ∙ sym (length-times (length page / length piece) piece))
    (λ k within. bytes k within ∙ sym (get_or-times (length page / length piece) piece k (omega (arith, whole))))

-- the page that a word of hex fills
pub filled_page :
    (word page : List ℕ) → is_some (piece_of word) ≡ true → list_any (λ n. eqb (length page) n) page_lengths ≡ true
    → list_any (λ n. eqb n (length word / 2)) lengths ≡ true → length word / 2 ≤ length page
    → ((k : ℕ) → k < length page → get_or page k 0 ≡ get_or (pairs word) (k % (length word / 2)) 0) → Some page ≡ pattern (length page) word
filled_page word page some is_page listed small bytes =
    let len = length-pairs word in
    let is_len : list_any (λ n. eqb (length (pairs word)) n) lengths ≡ true =
    ap (λ k. list_any (λ n. eqb k n) lengths) len ∙ sym (list_any_comm (length word / 2) lengths) ∙ listed in
    let same : page ≡ repeat_piece (length page) (pairs word) =
    repeated_page (pairs word) page is_page is_len (omega arith) (λ k within. bytes k within ∙ ap (λ m. get_or (pairs word) (k % m) 0) (sym len)) in
    ap Some same
    ∙ sym (cond_true (is_piece (length page) (pairs word)) (Some (repeat_piece (length page) (pairs word))) None
    (and_from _ _ is_len (le-leb _ _ (omega arith))))
    ∙ sym (pattern-hex (length page) word some)

pub filled_page-sized :
    (size : ℕ) (word page : List ℕ) → length page ≡ size → is_some (piece_of word) ≡ true → list_any (λ n. eqb size n) page_lengths ≡ true
    → list_any (λ n. eqb n (length word / 2)) lengths ≡ true → length word / 2 ≤ size
    → ((k : ℕ) → k < size → get_or page k 0 ≡ get_or (pairs word) (k % (length word / 2)) 0) → Some page ≡ pattern size word
filled_page-sized size word page same some is_page listed small bytes =
    filled_page word page some (ap (λ k. list_any (λ n. eqb k n) page_lengths) same ∙ is_page) listed (omega arith) (λ k within. bytes k (omega arith))
    ∙ ap (λ k. pattern k word) same
