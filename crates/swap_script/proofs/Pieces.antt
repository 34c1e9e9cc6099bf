-- What the first cut of a text says of its lines and words.
use Rattle.std.proofs.Common.{◌≡◌, ℕ, ◌+◌, ◌<◌, ◌≤◌, Bool, true, false, not, eqb, cond, List, [], ◌∷◌, ◌++◌, length, refl, sym, ap, ◌∙◌, arith, length-append, Option, None, Some}
use Rattle.std.proofs.lemmas.List.Elements.{All-head, All-tail}
use Rattle.std.proofs.lemmas.Bool.{eq-eqb}
use Rattle.std.specs.List.{filter, enumerate_from}
use Rattle.swap_script.specs.Lines.{pieces, onto_first, lines_of, words_of, kept_from, is_skipped}
use Rattle.swap_script.specs.Cut.{Lacks, IsCut, words_left, rest_of}

-- bytes without the separator stand before all that follows
pub pieces-cut : (c : ℕ) (last : List (List ℕ)) (front rest : List ℕ) → Lacks c front → pieces c last (front ++ c ∷ rest) ≡ front ∷ pieces c last rest
pieces-cut c last [] rest h = ap (λ t. cond t ([] ∷ pieces c last rest) (onto_first c (pieces c last rest))) (eq-eqb c c refl)
pieces-cut c last (b ∷ front) rest h =
    ap (λ t. cond t ([] ∷ pieces c last (front ++ c ∷ rest)) (onto_first b (pieces c last (front ++ c ∷ rest)))) (All-head (λ x. eqb x c ≡ false) b front h)
    ∙ ap (onto_first b) (pieces-cut c last front rest (All-tail (λ x. eqb x c ≡ false) b front h))

words_of-uncut : (line : List ℕ) → Lacks 32 line → words_of line ≡ line ∷ []
words_of-uncut [] h = refl
words_of-uncut (b ∷ line) h =
    ap (λ t. cond t ([] ∷ words_of line) (onto_first b (words_of line))) (All-head (λ x. eqb x 32 ≡ false) b line h)
    ∙ ap (onto_first b) (words_of-uncut line (All-tail (λ x. eqb x 32 ≡ false) b line h))

lines_of-uncut : (b : ℕ) (bytes : List ℕ) → Lacks 10 (b ∷ bytes) → lines_of (b ∷ bytes) ≡ (b ∷ bytes) ∷ []
lines_of-uncut b [] h = ap (λ t. cond t ([] ∷ []) ((b ∷ []) ∷ [])) (All-head (λ x. eqb x 10 ≡ false) b [] h)
lines_of-uncut b (x ∷ bytes) h =
    ap (λ t. cond t ([] ∷ lines_of (x ∷ bytes)) (onto_first b (lines_of (x ∷ bytes)))) (All-head (λ y. eqb y 10 ≡ false) b (x ∷ bytes) h)
    ∙ ap (onto_first b) (lines_of-uncut x bytes (All-tail (λ y. eqb y 10 ≡ false) b (x ∷ bytes) h))

-- the first word of a line, and the words behind it
pub words_of-cut : (line front : List ℕ) (rest : Option (List ℕ)) → IsCut 32 line front rest → words_of line ≡ front ∷ words_left rest
words_of-cut line front None h = words_of-uncut line h.1 ∙ ap (λ w. w ∷ []) (sym h.0)
words_of-cut line front (Some rest) h = ap words_of h.0 ∙ pieces-cut 32 ([] ∷ []) front rest h.1

-- the first line of a text, and the lines behind it
pub lines_of-cut : (text front : List ℕ) (rest : Option (List ℕ)) → 0 < length text → IsCut 10 text front rest → lines_of text ≡ front ∷ lines_of (rest_of rest)
lines_of-cut [] front rest l h = absurd (omega arith)
lines_of-cut (b ∷ text) front None l h = lines_of-uncut b text h.1 ∙ ap (λ w. w ∷ []) (sym h.0)
lines_of-cut (b ∷ text) front (Some rest) l h = ap lines_of h.0 ∙ pieces-cut 10 [] front rest h.1

-- what is left is shorter
pub length-rest_of :
    (c : ℕ) (text front : List ℕ) (rest : Option (List ℕ)) → 0 < length text → IsCut c text front rest → length (rest_of rest) + 1 ≤ length text
length-rest_of c text front None l h = omega arith
length-rest_of c text front (Some rest) l h = let e : length text ≡ length (front ++ c ∷ rest) = ap length h.0 in omega (arith, length-append front (c ∷ rest))

abbrev kept : ℕ → List (List ℕ) → List (ℕ × List ℕ)
kept n lines = filter (λ numbered. not (is_skipped numbered.1)) (enumerate_from n lines)

turned : {A : Type 0} (b : Bool) (x y : A) → cond (not b) x y ≡ cond b y x
turned true x y = refl
turned false x y = refl

-- the lines that count, where the first one is skipped or isn't
pub kept_from-cut :
    (n : ℕ) (text front : List ℕ) (rest : Option (List ℕ)) (skipped : Bool) → 0 < length text → IsCut 10 text front rest → skipped ≡ is_skipped front
    → kept_from n text ≡ cond skipped (kept_from (n + 1) (rest_of rest)) ((n, front) ∷ kept_from (n + 1) (rest_of rest))
kept_from-cut n text front rest skipped l h e =
    ap (kept n) (lines_of-cut text front rest l h)
    ∙ ap (λ t. cond (not t) ((n, front) ∷ kept_from (n + 1) (rest_of rest)) (kept_from (n + 1) (rest_of rest))) (sym e) ∙ turned skipped _ _

pub not_empty : (bytes : List ℕ) → false ≡ eqb (length bytes) 0 → 0 < length bytes
not_empty [] e = cc
not_empty (b ∷ bytes) e = omega arith
