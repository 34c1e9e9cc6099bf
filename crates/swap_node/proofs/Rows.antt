-- A board after a put on one of its lines.
use Rattle.std.proofs.Common.{◌≡◌, ℕ, ◌+◌, ◌≤◌, ◌<◌, Bool, true, false, cond, List, [], ◌∷◌, ◌++◌, length, get_or, set, slice_index_or, slice_set, sum_by, nat_lt, All, refl, sym, ap, ◌∙◌, subst, arith, length-append, Option, None, Some}
use Rattle.std.proofs.lemmas.Bool.{lt-ltb}
use Rattle.std.proofs.lemmas.List.{get_or_default, set_past}
use Rattle.std.proofs.Math.ListN.{get_or-eq_default}
use Rattle.std.proofs.lemmas.List.Elements.{All-set}
use Rattle.std.proofs.lemmas.List.Sums.{sum_by-set, sum_by-cons}
use Rattle.swap_base.specs.declared.Link.{Link}
use Rattle.swap_node.specs.RepliesView.{RepliesView}
use Rattle.swap_node.specs.Boards.{Board, fits_line, weight, IsFor, PutsLine, PutsOn, PutsWithin}

module _ {K : Type 0} where
  -- past the last link there is no outlet, and none is kept there
  pub past_none : (xs : List (Option (RepliesView K))) (i : ℕ) → length xs ≤ i → None ≡ slice_index_or xs i None
  past_none xs i past = sym (get_or-eq_default xs None past)

  pub past_same : (xs : List (Option (RepliesView K))) (i : ℕ) (o : Option (RepliesView K)) → length xs ≤ i → xs ≡ slice_set xs i o
  past_same xs i o past = sym (set_past xs i o past)

  pub fits_both : (b : Board K) (link : Link) (o : RepliesView K) → fits_line b link o ≡ true → (link.0 < length b.lines) × (o.page_bytes ≡ b.page_bytes)
  fits_both b link o fits = (grind (arith, fits), grind (arith, fits))

  pub all_fit :
      (xs : List (Option (RepliesView K))) (i : ℕ) (y : Option (RepliesView K)) {m : ℕ} (n : ℕ) → m ≡ n → IsFor m y → All (λ o. IsFor n o) xs
      → All (λ o. IsFor n o) (set xs i y)
  all_fit xs i y n e fits all = All-set (λ o. IsFor n o) xs i y (subst (λ n. IsFor n y) e fits) all

  pub weight_small : (o : Option (RepliesView K)) → weight o ≤ 1
  weight_small None = omega arith
  weight_small (Some o) = go o.failed
    where
      go : (b : Bool) → cond b 0 1 ≤ 1
      go true = omega arith
      go false = omega arith

  pub weights_few : (xs : List (Option (RepliesView K))) → sum_by (λ o. weight o) xs ≤ length xs
  weights_few [] = omega arith
  weights_few (x ∷ xs) = omega (arith, weight_small x, weights_few xs, sum_by-cons (λ o. weight o) x xs)

  pub one_less :
      (xs : List (Option (RepliesView K))) (i : ℕ) (y line : Option (RepliesView K)) (n : ℕ) → i < length xs → line ≡ get_or xs i line
      → weight y + n ≡ weight line
      → sum_by (λ o. weight o) (set xs i y) + n ≡ sum_by (λ o. weight o) xs
  one_less xs i y line n lt is w =
      let e : weight (get_or xs i line) ≡ weight line = ap (λ o. weight o) (sym is) in
      omega (arith, sum_by-set (λ o. weight o) xs i y line lt, e, w)

  pub with_failed :
      (xs : List (Option (RepliesView K))) (i : ℕ) (y line : Option (RepliesView K)) (fails : Bool) (f : List Link) (link : Link) (failed : List Link)
      → i < length xs
      → line ≡ get_or xs i line
      → weight y + cond fails 1 0 ≡ weight line
      → fails ≡ true
      → failed ≡ f ++ link ∷ []
      → sum_by (λ o. weight o) (set xs i y) + length failed ≡ sum_by (λ o. weight o) xs + length f
  with_failed xs i y line fails f link failed lt is w true_is e =
      let w' : weight y + 1 ≡ weight line = subst (λ (b : Bool). weight y + cond b 1 0 ≡ weight line) true_is w in
      omega (arith, one_less xs i y line 1 lt is w', ap length e, length-append f (link ∷ []))

  pub without_failed :
      (xs : List (Option (RepliesView K))) (i : ℕ) (y line : Option (RepliesView K)) (fails : Bool) (f : List Link) → i < length xs → line ≡ get_or xs i line
      → weight y + cond fails 1 0 ≡ weight line → fails ≡ false
      → sum_by (λ o. weight o) (set xs i y) + length f ≡ sum_by (λ o. weight o) xs + length f
  without_failed xs i y line fails f lt is w false_is =
      let w' : weight y + 0 ≡ weight line = subst (λ (b : Bool). weight y + cond b 1 0 ≡ weight line) false_is w in
      omega (arith, one_less xs i y line 0 lt is w')

  module _ (taken : K → Option (List ℕ)) (faults : K → ℕ) where
    pub puts_at :
        (before : Board K) (link : Link) (p : List ℕ) (line next : Option (RepliesView K)) (fails : Bool) (failed : List Link) → link.0 < length before.lines
        → line ≡ get_or before.lines link.0 line
        → PutsLine taken faults line p next fails
        → failed ≡ cond fails (before.failed ++ link ∷ []) before.failed
        → PutsOn taken faults before link p (record { lines = set before.lines link.0 next; failed = failed; page_bytes = before.page_bytes })
    puts_at before link p line next fails failed lt is puts e =
        let there : nat_lt link.0 (length before.lines) ≡ true = lt-ltb link.0 (length before.lines) lt in
        let at : line ≡ get_or before.lines link.0 None = is ∙ get_or_default before.lines link.0 line None lt in
        let now : Board K = record { lines = set before.lines link.0 next; failed = failed; page_bytes = before.page_bytes } in
        subst (λ (b : Bool). PutsWithin taken faults b before link p now) (sym there)
        (record { line = next; fails = fails; puts = subst (λ o. PutsLine taken faults o p next fails) at puts; lines = refl; failed = e; page_bytes = refl })
