-- While a lender's slabs are sent home one after another: what is left of slabs and bits stays the same.
use Rattle.std.proofs.Common.{◌≡◌, ◌≢◌, ℕ, ◌+◌, ◌*◌, ◌/◌, ◌<◌, ◌≤◌, Bool, true, false, ◌&&◌, not, List, [], ◌∷◌, length, get_or, count_by, refl, sym, ap, ap₂, ◌∙◌, arith, ⊎_elim, zero-add, length-set, get_or-set_other}
use Rattle.std.proofs.lemmas.Bool.{cases_eq, cases_lt, cases_Bool, cond-true, cond-false, false≢true}
use Rattle.std.proofs.lemmas.List.{ext_get_or, get_or_past, length-map}
use Rattle.std.proofs.lemmas.List.Folds.{list_any_at}
use Rattle.std.proofs.lemmas.List.Sums.{sum_by-set}
use Rattle.std.proofs.Math.Bool.{and-false, and-true}
use Rattle.std.proofs.Math.ListN.{get_or-map}
use Rattle.std.proofs.Math.Seq.{map-set_same}
use Rattle.swap_base.specs.declared.Lender.{Lender}
use Rattle.swap_base.specs.declared.Slab.{Slab}
use Rattle.swap_base.specs.Sizes.{Sizes, pages_of, slab_of}
use Rattle.swap_bits.specs.Bits.{has, is_in_range, without_range, TakesRange, KeepsBound}
use Rattle.swap_slabs.specs.declared.SlabState.{SlabState}
use Rattle.swap_slabs.specs.declared.SlabState.TheVariants.{Local}
use Rattle.swap_slabs.specs.Slabs.{state_of, with_state, is_at, after_lost, lost_after, holds}
use Rattle.swap_slabs.specs.Rows.{one_if}
use Rattle.swap_remote.specs.Remote.{left_from}
use Rattle.swap_remote.specs.lemmas.Cleared.{at, in_slab, off_slab, length-left, get_or-left}

-- a loss from here comes to what the loss at first comes to
pub record IsLeaving (s : Sizes) (lender : Lender) (states : List SlabState) (bits : List Bool) (states' : List SlabState) (bits' : List Bool) : Type 0 where
  pub slabs_len : length states' ≡ s.slabs
  pub bits_len : length bits' ≡ pages_of s
  pub slabs_left : lost_after states' lender ≡ lost_after states lender
  pub bits_left : left_from s states' lender bits' 0 ≡ left_from s states lender bits 0

-- a slab at the lender is sent home, with its bits cleared
module _ (s : Sizes) (states : List SlabState) (lender : Lender) (bits : List Bool) (slab : Slab) (within : slab.0 < length states)
    (here : is_at lender (state_of states slab) ≡ true) where
  sent_lost : lost_after (with_state states slab Local) lender ≡ lost_after states lender
  sent_lost =
      map-set_same (after_lost lender) states slab.0 Local Local (sym (cond-true (is_at lender (state_of states slab)) Local (state_of states slab) here))

  sent_bit :
      TakesRange → (e : ℕ) → e ≡ s.pages_per_slab → 0 < e → slab.0 * e + e ≤ length bits → (i : ℕ)
      → (has (without_range bits (slab.0 * e) (slab.0 * e + e)) i && not (at (with_state states slab Local) lender (slab_of s i)))
      ≡ (has bits i && not (at states lender (slab_of s i)))
  sent_bit takes_range e is_e some ends i =
      let taken = takes_range bits (slab.0 * e) (slab.0 * e + e) i (omega arith) ends in
      ⊎_elim
      (λ (is : i / e ≡ slab.0).
      let n : slab_of s i ≡ slab.0 = ap (λ m. i / m) (sym is_e) ∙ is in
      ap (λ b. b && not (at (with_state states slab Local) lender (slab_of s i)))
      (taken ∙ cond-true (is_in_range (slab.0 * e) (slab.0 * e + e) i) false (has bits i) (in_slab e slab.0 i some is))
      ∙ sym (ap (λ b. has bits i && not b) (ap (λ m. at states lender m) n ∙ here) ∙ and-false (has bits i)))
      (λ (other : i / e ≢ slab.0).
      ap (λ b. b && not (at (with_state states slab Local) lender (slab_of s i)))
      (taken ∙ cond-false (is_in_range (slab.0 * e) (slab.0 * e + e) i) false (has bits i) (off_slab e slab.0 i some other))
      ∙ ap (λ x. has bits i && not (is_at lender x))
      (get_or-set_other states slab.0 (slab_of s i) Local Local (λ same. other (ap (λ m. i / m) is_e ∙ same))))
      (cases_eq (i / e) slab.0)

  pub sent_home :
      TakesRange → KeepsBound → (e : ℕ) → e ≡ s.pages_per_slab → 0 < e → slab.0 * e + e ≤ length bits → (states₀ : List SlabState) (bits₀ : List Bool)
      → IsLeaving s lender states₀ bits₀ states bits
      → IsLeaving s lender states₀ bits₀ (with_state states slab Local) (without_range bits (slab.0 * e) (slab.0 * e + e))
  sent_home takes_range keeps_bound e is_e some ends states₀ bits₀ k =
      let now : List Bool = without_range bits (slab.0 * e) (slab.0 * e + e) in
      let same : length (without_range bits (slab.0 * e) (slab.0 * e + e)) ≡ length bits =
      (keeps_bound bits (slab.0 * e) (slab.0 * e + e) 0 (omega arith) ends).2 in
      record {
        slabs_len = length-set states slab.0 Local ∙ k.slabs_len;
        bits_len = same ∙ k.bits_len;
        slabs_left = sent_lost ∙ k.slabs_left;
        bits_left =
            ext_get_or false (left_from s (with_state states slab Local) lender now 0) (left_from s states lender bits 0)
            (length-left s (with_state states slab Local) lender now 0 ∙ same ∙ sym (length-left s states lender bits 0))
            (λ i lt.
            get_or-left s (with_state states slab Local) lender now 0 i
            ∙ ap (λ m. has now i && not (at (with_state states slab Local) lender (slab_of s m))) (zero-add i)
            ∙ sent_bit takes_range e is_e some ends i
            ∙ sym (get_or-left s states lender bits 0 i ∙ ap (λ m. has bits i && not (at states lender (slab_of s m))) (zero-add i)))
            ∙ k.bits_left;
      }

  pub fewer_at : count_by (λ state. is_at lender state) (with_state states slab Local) < count_by (λ state. is_at lender state) states
  fewer_at = omega (arith, sum_by-set (λ x. one_if (is_at lender x)) states slab.0 Local Local within, ap (λ b. one_if b) here)

-- none is left at the lender
module _ (s : Sizes) (states : List SlabState) (lender : Lender) (none : holds states lender ≡ false) where
  none_at : (n : ℕ) → is_at lender (get_or states n Local) ≡ false
  none_at n =
      ⊎_elim
      (λ (lt : n < length states).
      ⊎_elim (λ (t : is_at lender (get_or states n Local) ≡ true). absurd
      (false≢true (sym none ∙ list_any_at (λ state. is_at lender state) states n Local lt t)))
      (λ (t : is_at lender (get_or states n Local) ≡ false). t) (cases_Bool (is_at lender (get_or states n Local))))
      (λ (ge : length states ≤ n). ap (is_at lender) (get_or_past states n Local ge)) (cases_lt n (length states))

  pub none_lost : lost_after states lender ≡ states
  none_lost =
      ext_get_or Local (lost_after states lender) states (length-map states (after_lost lender))
      (λ i lt. get_or-map (after_lost lender) states i Local ∙ cond-false (is_at lender (get_or states i Local)) Local (get_or states i Local) (none_at i))

  pub none_left : (bits : List Bool) (n : ℕ) → left_from s states lender bits n ≡ bits
  none_left [] n = refl
  none_left (bit ∷ bits) n = ap₂ (λ b bs. b ∷ bs) (ap (λ b. bit && not b) (none_at (slab_of s n)) ∙ and-true bit) (none_left bits (n + 1))
