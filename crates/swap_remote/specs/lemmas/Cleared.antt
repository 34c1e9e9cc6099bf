-- The bits that are cleared, page by page: of one slab that is taken back, and of the slabs at a lender that is lost.
use Rattle.std.specs.Prelude.{◌≡◌, ◌≢◌, ℕ, ◌+◌, ◌*◌, ◌/◌, ◌<◌, ◌≤◌, Bool, true, false, ◌&&◌, not, nat_lt, nat_le, zero, suc, ◌==◌, if◌then◌else◌, List, [], ◌∷◌, length}
use Rattle.std.proofs.Common.{get_or, refl, sym, ap, ◌∙◌, subst, ⊎_elim, eq-eqb, ne_eqb, lt-ltb, le-ltb, le-leb, add-zero}
use Rattle.std.proofs.lemmas.Bool.{cases_eq, cases_lt, lt-leb, cond-true, cond-false, and_left, and_right, and_from}
use Rattle.std.proofs.Math.Arith.{lt_of_le-ne}
use Rattle.std.proofs.Math.Nat.{div-lt_iff_lt-mul, le-div_iff_mul-le, suc-mul, mul_comm, mul-le-mul_right, le_refl, le-add_right, add-suc, suc-add}
use Rattle.std.proofs.Math.Numerals.{add-one, add-one-le, lt-add-one}
use Rattle.swap_base.specs.declared.Lender.{Lender}
use Rattle.swap_base.specs.declared.Slab.{Slab}
use Rattle.swap_base.specs.Sizes.{Sizes, pages_of, slab_of}
use Rattle.swap_bits.specs.Bits.{has, is_in_range}
use Rattle.swap_bits.specs.lemmas.Taken.{takes_range, length-without_range}
use Rattle.swap_slabs.specs.declared.SlabState.{SlabState}
use Rattle.swap_slabs.specs.Slabs.{state_of, is_at}
use Rattle.swap_remote.specs.Remote.{Remote, evicted_after, left_from}

-- a slab's pages are those in its range
pub in_slab : (e n q : ℕ) → 0 < e → q / e ≡ n → is_in_range (n * e) (n * e + e) q ≡ true
in_slab e n q some is =
    let low : n * e ≤ q =
    (le-div_iff_mul-le {k = e} {x = n} {y = q} some).0 (subst (λ m. n ≤ m) (sym is) (le_refl n)) in
    let high : q < (n + 1) * e =
    (div-lt_iff_lt-mul {k = e} {x = q} {y = n + 1} some).0 (subst (λ m. m < n + 1) (sym is) (lt-add-one n)) in
    let more : (n + 1) * e ≡ n * e + e = ap (λ m. m * e) (add-one n) ∙ suc-mul n e in
    and_from (nat_le (n * e) q) (nat_lt q (n * e + e)) (le-leb (n * e) q low)
    (lt-ltb q (n * e + e) (subst (λ m. q < m) more high))

pub off_slab : (e n q : ℕ) → 0 < e → (q / e ≡ n → ⊥) → is_in_range (n * e) (n * e + e) q ≡ false
off_slab e n q some other =
    let more : (n + 1) * e ≡ n * e + e = ap (λ m. m * e) (add-one n) ∙ suc-mul n e in
    ⊎_elim
    (λ (below : q / e < n).
    and_left (nat_le (n * e) q) (nat_lt q (n * e + e))
    (lt-leb (n * e) q ((div-lt_iff_lt-mul {k = e} {x = q} {y = n} some).0 below)))
    (λ (above : n ≤ q / e).
    let past : n + 1 ≤ q / e = add-one-le (lt_of_le-ne above (λ same. other (sym same))) in
    let high : (n + 1) * e ≤ q = (le-div_iff_mul-le {k = e} {x = n + 1} {y = q} some).0 past in
    and_right (nat_le (n * e) q) (nat_lt q (n * e + e)) (le-ltb q (n * e + e) (subst (λ m. m ≤ q) more high)))
    (cases_lt (q / e) n)

-- a slab's range ends among the pages
pub range_ends : (e slabs n : ℕ) → n < slabs → n * e + e ≤ e * slabs
range_ends e slabs n within =
    let more : (n + 1) * e ≡ n * e + e = ap (λ m. m * e) (add-one n) ∙ suc-mul n e in
    subst (λ m. m ≤ e * slabs) more
    (subst (λ m. (n + 1) * e ≤ m) (mul_comm slabs e) (mul-le-mul_right e (add-one-le within)))

-- the bits of a slab that is taken back are cleared, and no other
pub evicted_bit :
    (s : Sizes) (r : Remote) (slab : Slab) (q : ℕ) → slab.0 < s.slabs → length r.bits ≡ pages_of s
    → 0 < s.pages_per_slab → has (evicted_after s r slab).bits q
    ≡ (if slab_of s q == slab.0 then false else has r.bits q)
evicted_bit s r slab q within len some =
    let ends : slab.0 * s.pages_per_slab + s.pages_per_slab ≤ length r.bits =
    subst (λ n. slab.0 * s.pages_per_slab + s.pages_per_slab ≤ n) (sym len)
    (range_ends s.pages_per_slab s.slabs slab.0 within) in
    takes_range r.bits (slab.0 * s.pages_per_slab) (slab.0 * s.pages_per_slab + s.pages_per_slab) q
    (le-add_right (slab.0 * s.pages_per_slab) s.pages_per_slab) ends
    ∙ ⊎_elim
    (λ (is : slab_of s q ≡ slab.0).
    cond-true (is_in_range (slab.0 * s.pages_per_slab) (slab.0 * s.pages_per_slab + s.pages_per_slab) q) false
    (has r.bits q) (in_slab s.pages_per_slab slab.0 q some is)
    ∙ sym (cond-true (slab_of s q == slab.0) false (has r.bits q) (eq-eqb (slab_of s q) slab.0 is)))
    (λ (other : slab_of s q ≢ slab.0).
    cond-false (is_in_range (slab.0 * s.pages_per_slab) (slab.0 * s.pages_per_slab + s.pages_per_slab) q) false
    (has r.bits q) (off_slab s.pages_per_slab slab.0 q some other)
    ∙ sym (cond-false (slab_of s q == slab.0) false (has r.bits q) (ne_eqb (slab_of s q) slab.0 other)))
    (cases_eq (slab_of s q) slab.0)

pub length-evicted :
    (s : Sizes) (r : Remote) (slab : Slab) → slab.0 < s.slabs → length r.bits ≡ pages_of s
    → length (evicted_after s r slab).bits ≡ length r.bits
length-evicted s r slab within len =
    length-without_range r.bits (slab.0 * s.pages_per_slab) (slab.0 * s.pages_per_slab + s.pages_per_slab)
    (le-add_right (slab.0 * s.pages_per_slab) s.pages_per_slab)
    (subst (λ n. slab.0 * s.pages_per_slab + s.pages_per_slab ≤ n) (sym len)
    (range_ends s.pages_per_slab s.slabs slab.0 within))

-- the slab of a number is at the lender
abbrev pub at : List SlabState → Lender → ℕ → Bool
at states lender slab = is_at lender (state_of states (record { 0 = slab }))

-- which pages are left where a lender is lost
pub length-left :
    (s : Sizes) (states : List SlabState) (lender : Lender) (bits : List Bool) (n : ℕ)
    → length (left_from s states lender bits n) ≡ length bits
length-left s states lender [] n = refl
length-left s states lender (bit ∷ bits) n = ap suc (length-left s states lender bits (n + 1))

pub get_or-left :
    (s : Sizes) (states : List SlabState) (lender : Lender) (bits : List Bool) (n i : ℕ)
    → get_or (left_from s states lender bits n) i false
    ≡ (get_or bits i false && not (at states lender (slab_of s (n + i))))
get_or-left s states lender [] n i = refl
get_or-left s states lender (bit ∷ bits) n zero =
    ap (λ m. bit && not (at states lender (slab_of s m))) (sym (add-zero n))
get_or-left s states lender (bit ∷ bits) n (suc i) =
    get_or-left s states lender bits (n + 1) i
    ∙ ap (λ m. get_or bits i false && not (at states lender (slab_of s m)))
    (ap (λ k. k + i) (add-one n) ∙ suc-add n i ∙ sym (add-suc n i))
