-- A seat that takes in all others.
use Rattle.std.proofs.Common.{◌≡◌, ℕ, ◌≤◌, false, List, [], ◌∷◌, ◌++◌, map, length, sym, ap, ◌∙◌, subst, arith, append_assoc}
use Rattle.std.specs.Prelude.{All}
use Rattle.std.proofs.lemmas.List.{map-append, length-map}
use Rattle.std.proofs.lemmas.List.Elements.{All-nil, All-cons, All-head, All-tail}
use Rattle.swap_record.specs.History.{History}
use Rattle.swap_turn.specs.declared.view.Stage.TheVariants.{Idle}
use Rattle.swap_turn.specs.declared.view.View.{View}
use Rattle.swap_turn.specs.Turns.{entries_of, taken_in, pairs_of, resting_seat}
use Rattle.swap_turn.specs.PassView.{PassView, pair_of}

-- a seat of a lock of so many seats, which took in the passes `all` without `left`
pub record Gathers (seats : ℕ) (v : View) (left all : List PassView) : Type 0 where
  pub standing : v.spent ≡ false
  pub idle : v.stage ≡ Idle
  pub given : v.left ≡ []
  pub seats_is : v.seats ≡ seats
  pub pairs : map pair_of left ++ pairs_of v ≡ map pair_of all

pub gathers_next : (seats : ℕ) (v w : View) (before left all : List PassView) (p : PassView) → Gathers seats v before all → before ≡ left ++ p ∷ []
    → w ≡ taken_in v (resting_seat p.number p.lock.seats p.seen p.mine) → Gathers seats w left all
gathers_next seats v w before left all p g split is = record {
  standing = ap (λ (x : View). x.spent) is ∙ g.standing;
  idle = ap (λ (x : View). x.stage) is ∙ g.idle;
  given = ap (λ (x : View). x.left) is ∙ g.given;
  seats_is = ap (λ (x : View). x.seats) is ∙ g.seats_is;
  pairs = ap (λ (x : View). map pair_of left ++ pairs_of x) is
      ∙ (sym (append_assoc (map pair_of left) (pair_of p ∷ []) (pairs_of v))
      ∙ (ap (λ (l : List (ℕ × History)). l ++ pairs_of v) (sym (map-append pair_of left (p ∷ [])) ∙ ap (map pair_of) (sym split)) ∙ g.pairs));
}

pub gathered : (seats : ℕ) (v : View) (all : List PassView) → Gathers seats v [] all → seats ≤ length all → v.seats ≤ length (pairs_of v)
gathered seats v all g most =
    let e : length (pairs_of v) ≡ length (map pair_of all) = ap length g.pairs in let f = length-map all pair_of in let h = g.seats_is in omega arith

-- what holds of the pairs holds of the passes
pub of_pairs : (log : History) (all : List PassView) → All (λ q. q.1 ≡ entries_of q.0 log) (map pair_of all) → All (λ p. p.mine ≡ entries_of p.number log) all
of_pairs log [] h = All-nil (λ p. p.mine ≡ entries_of p.number log)
of_pairs log (p ∷ all) h = All-cons (λ p. p.mine ≡ entries_of p.number log) p all (All-head (λ q. q.1 ≡ entries_of q.0 log) (pair_of p) (map pair_of all) h)
    (of_pairs log all (All-tail (λ q. q.1 ≡ entries_of q.0 log) (pair_of p) (map pair_of all) h))

pub all_front : (P : PassView → Type 0) (xs ys : List PassView) → All P (xs ++ ys) → All P xs
all_front P [] ys h = All-nil P
all_front P (x ∷ xs) ys h = All-cons P x xs (All-head P x (xs ++ ys) h) (all_front P xs ys (All-tail P x (xs ++ ys) h))

pub emptied : (seats : ℕ) (v : View) (left all : List PassView) → left ≡ [] → Gathers seats v left all → Gathers seats v [] all
emptied seats v left all none g = subst (λ (l : List PassView). Gathers seats v l all) none g

pub all_last : (P : PassView → Type 0) (xs : List PassView) (x : PassView) → All P (xs ++ x ∷ []) → P x
all_last P [] x h = All-head P x [] h
all_last P (y ∷ xs) x h = all_last P xs x (All-tail P y (xs ++ x ∷ []) h)
