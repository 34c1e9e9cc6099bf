-- Words on a line, one after another.
use Rattle.std.proofs.Common.{◌≡◌, ℕ, ◌+◌, ◌<◌, List, [], ◌∷◌, ◌++◌, length, map, decimal, eqb, cond, Bool, true, false, refl, sym, ap, ◌∙◌, arith, append_assoc, append-nil, Some}
use Rattle.std.proofs.lemmas.Bool.Decides.{nat_tests}
use Rattle.std.proofs.lemmas.List.{map-append, map-id}
use Rattle.std.proofs.lemmas.List.FromFn.{filter_of_map_range_with_len_more}
use Rattle.std.specs.List.{range_with_len, filter}
use Rattle.swap_base.specs.declared.EntryNo.{EntryNo}
use Rattle.swap_record.specs.History.{History, Row, row_named}
use Rattle.swap_record.specs.Text.{entry_words, entry_text, row_words}
use Rattle.swap_script.specs.Lines.{with_spaces, words_behind}

spaced-led : (word : List ℕ) (words : List (List ℕ)) → with_spaces (word ∷ words) ≡ word ++ words_behind words
spaced-led word [] = sym (append-nil word)
spaced-led word (next ∷ words) = refl

pub led-append : (xs ys : List (List ℕ)) → words_behind (xs ++ ys) ≡ words_behind xs ++ words_behind ys
led-append [] ys = refl
led-append (x ∷ xs) ys =
    ap (λ l. 32 ∷ l) (spaced-led x (xs ++ ys)) ∙ ap (λ l. 32 ∷ (x ++ l)) (led-append xs ys)
    ∙ ap (λ l. 32 ∷ l) (sym (append_assoc x (words_behind xs) (words_behind ys)))
    ∙ ap (λ l. (32 ∷ l) ++ words_behind ys) (sym (spaced-led x xs))

-- a name below the length is an entry's
named-at :
    (row : Row) (H : History) (n : ℕ) (b : Bool) → eqb (length H) n ≡ b → (b ≡ false → (r : Row) × (row_named H n ≡ Some r))
    → (r : Row) × (row_named (row ∷ H) n ≡ Some r)
named-at row H n true e later = (row, ap (λ t. cond t (Some row) (row_named H n)) e)
named-at row H n false e later = let found = later refl in (found.0, ap (λ t. cond t (Some row) (row_named H n)) e ∙ found.1)

named-some : (H : History) (n : ℕ) → n < length H → (r : Row) × (row_named H n ≡ Some r)
named-some [] n l = absurd (omega arith)
named-some (row ∷ H) n l = named-at row H n (eqb (length H) n) refl (λ other. named-some H n (grind (arith, nat_tests)))

pub led-entry : (H : History) (e : EntryNo) → e.0 < length H → words_behind (entry_words H e) ≡ 32 ∷ entry_text H e
led-entry H e l = let some = named-some H e.0 l in ap (λ r. words_behind (row_words e.0 r)) some.1 ∙ sym (ap (λ r. 32 ∷ with_spaces (row_words e.0 r)) some.1)

-- numbers below another that pass a test, and one more
filter_more : (p : ℕ → Bool) (n : ℕ) → filter p (range_with_len 0 (n + 1)) ≡ filter p (range_with_len 0 n) ++ cond (p n) (n ∷ []) []
filter_more p n =
    ap (filter p) (sym (map-id (range_with_len 0 (n + 1)))) ∙ filter_of_map_range_with_len_more p (λ i. i) 0 n n (omega arith)
    ∙ ap (λ r. filter p r ++ cond (p n) (n ∷ []) []) (map-id (range_with_len 0 n))

map-one : (b : Bool) (n : ℕ) → map decimal (cond b (n ∷ []) []) ≡ cond b (decimal n ∷ []) []
map-one true n = refl
map-one false n = refl

pub led-numbers_more :
    (p : ℕ → Bool) (n : ℕ)
    → words_behind (map decimal (filter p (range_with_len 0 (n + 1))))
    ≡ words_behind (map decimal (filter p (range_with_len 0 n))) ++ words_behind (cond (p n) (decimal n ∷ []) [])
led-numbers_more p n =
    let below = filter p (range_with_len 0 n) in
    ap (λ l. words_behind (map decimal l)) (filter_more p n) ∙ ap words_behind (map-append decimal below (cond (p n) (n ∷ []) []))
    ∙ led-append (map decimal below) (map decimal (cond (p n) (n ∷ []) [])) ∙ ap (λ w. words_behind (map decimal below) ++ words_behind w) (map-one (p n) n)
