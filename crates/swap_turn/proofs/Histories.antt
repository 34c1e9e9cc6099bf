-- The entries of one caller, where a history grows.
use Rattle.std.proofs.Common.{◌≡◌, ◌≢◌, ℕ, Bool, true, false, List, [], ◌∷◌, ◌++◌, map, refl, sym, ap, ◌∙◌, arith, eq-eqb, ne_eqb, ◌-◌, length, take, length-append}
use Rattle.std.proofs.lemmas.List.{take-append-le, take_all}
use Rattle.std.specs.Prelude.{◌==◌, if◌then◌else◌, All}
use Rattle.std.proofs.lemmas.List.Elements.{All-head, All-tail, All-nil, All-cons}
use Rattle.swap_record.specs.History.{History, Row}
use Rattle.swap_turn.specs.Turns.{entries_of, added_since, weigh}
use Rattle.swap_turn.proofs.Sums.{at_only, at_only-same}

kept_if : (b : Bool) (e : Row) (xs ys : History) → (if b then e ∷ (xs ++ ys) else xs ++ ys) ≡ (if b then e ∷ xs else xs) ++ ys
kept_if true e xs ys = refl
kept_if false e xs ys = refl

pub entries_of-append : (c : ℕ) (xs ys : History) → entries_of c (xs ++ ys) ≡ entries_of c xs ++ entries_of c ys
entries_of-append c [] ys = refl
entries_of-append c (e ∷ xs) ys =
    ap (λ (l : History). if e.entry.caller.0 == c then e ∷ l else l) (entries_of-append c xs ys)
    ∙ kept_if (e.entry.caller.0 == c) e (entries_of c xs) (entries_of c ys)

pub entries_of-own : (c : ℕ) (xs : History) → All (λ (e : Row). e.entry.caller.0 ≡ c) xs → entries_of c xs ≡ xs
entries_of-own c [] own = refl
entries_of-own c (e ∷ xs) own = let is = All-head (λ (x : Row). x.entry.caller.0 ≡ c) e xs own in
    ap (λ (b : Bool). if b then e ∷ entries_of c xs else entries_of c xs) (eq-eqb e.entry.caller.0 c is)
    ∙ ap (λ (l : History). e ∷ l) (entries_of-own c xs (All-tail (λ (x : Row). x.entry.caller.0 ≡ c) e xs own))

pub entries_of-other : (n c : ℕ) (xs : History) → n ≢ c → All (λ (e : Row). e.entry.caller.0 ≡ c) xs → entries_of n xs ≡ []
entries_of-other n c [] other own = refl
entries_of-other n c (e ∷ xs) other own = let is = All-head (λ (x : Row). x.entry.caller.0 ≡ c) e xs own in
    ap (λ (b : Bool). if b then e ∷ entries_of n xs else entries_of n xs) (ne_eqb e.entry.caller.0 n (λ same. other (sym same ∙ is)))
    ∙ entries_of-other n c xs other (All-tail (λ (x : Row). x.entry.caller.0 ≡ c) e xs own)

-- what another added leaves one's entries
pub entries_of-grown :
    (n c : ℕ) (added before : History) → n ≢ c → All (λ (row : Row). row.entry.caller.0 ≡ c) added → entries_of n (added ++ before) ≡ entries_of n before
entries_of-grown n c added before other own =
    entries_of-append n added before ∙ ap (λ (l : History). l ++ entries_of n before) (entries_of-other n c added other own)

-- what was added to a history, by its length
pub added_since-is : (before added whole : History) → added ++ before ≡ whole → added_since before whole ≡ added
added_since-is before added whole is =
    let long : length whole - length before ≡ length added = omega (arith, sym (ap length is), length-append added before) in
    ap (λ (n : ℕ). take n whole) long ∙ ap (take (length added)) (sym is)
    ∙ (take-append-le (length added) added before (omega arith) ∙ take_all (length added) added (omega arith))

-- of the numbers of which none is c, each keeps what others may lose
pub all_apart : (c : ℕ) (P Q : ℕ → Type 0) → ((n : ℕ) → n ≢ c → P n → Q n) → (l : List ℕ) → weigh (at_only c) l ≡ 0 → All P l → All Q l
all_apart c P Q step [] none all = All-nil Q
all_apart c P Q step (n ∷ l) none all =
    All-cons Q n l (step n (λ is. let a = at_only-same c n is in absurd (omega arith)) (All-head P n l all))
    (all_apart c P Q step l (omega arith) (All-tail P n l all))

pub all_pairs_apart :
    (c : ℕ) (P Q : ℕ × History → Type 0) → ((p : ℕ × History) → p.0 ≢ c → P p → Q p) → (l : List (ℕ × History)) → weigh (at_only c) (map (λ p. p.0) l) ≡ 0
    → All P l → All Q l
all_pairs_apart c P Q step [] none all = All-nil Q
all_pairs_apart c P Q step (p ∷ l) none all =
    All-cons Q p l (step p (λ is. let a = at_only-same c p.0 is in absurd (omega arith)) (All-head P p l all))
    (all_pairs_apart c P Q step l (omega arith) (All-tail P p l all))
