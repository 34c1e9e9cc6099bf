-- What sizes keep where no field is beyond its limit.
use Rattle.std.proofs.Common.{◌≡◌, ℕ, ◌≤◌, Bool, true, false, ◌&&◌, ◌||◌, ◌==◌, nat_le, List, [], ◌∷◌, refl, None, arith, lit≤}
use Rattle.std.proofs.lemmas.Bool.{leb-true, eqb-true}
use Rattle.std.specs.List.{list_any}
use Rattle.swap_base.specs.Sizes.{Sizes, pages_of, bytes_of, limits, first_beyond, is_within, AreInLimits, IsWithin, page_lengths}
use Rattle.swap_base.proofs.Bools.{and_parts}

-- the first row passes, and so does none of the others fail
passes : {X : Type 0} (x : X) (b : Bool) (rows : List (X × Bool)) → first_beyond ((x, b) ∷ rows) ≡ None → (b ≡ true) × (first_beyond rows ≡ None)
passes x true rows e = (refl, e)
passes x false rows e = cc

abbrev Passes : {X : Type 0} → List (X × Bool) → Type 0
Passes [] = Unit {0}
Passes (row ∷ rows) = (row.1 ≡ true) × Passes rows

all_pass : {X : Type 0} (rows : List (X × Bool)) → first_beyond rows ≡ None → Passes rows
all_pass [] e = tt
all_pass (row ∷ rows) e = let p = passes row.0 row.1 rows e in (p.0, all_pass rows p.1)

or_true : (P : Type 0) (a b : Bool) → (a ≡ true → P) → (b ≡ true → P) → (a || b) ≡ true → P
or_true P true b f g e = f refl
or_true P false b f g e = g e

pub between : (low high n : ℕ) → is_within low high n ≡ true → (low ≤ n) × (n ≤ high)
between low high n e = let both = and_parts (nat_le low n) (nat_le n high) e in (leb-true low n both.0, leb-true n high both.1)

-- a number of a list whose numbers are all within bounds
abbrev AllBetween : ℕ → ℕ → List ℕ → Type 0
AllBetween low high [] = Unit {0}
AllBetween low high (m ∷ ms) = (low ≤ m) × (m ≤ high) × AllBetween low high ms

one_of : (low high n : ℕ) (ms : List ℕ) → AllBetween low high ms → list_any (λ m. n == m) ms ≡ true → (low ≤ n) × (n ≤ high)
one_of low high n [] h e = cc
one_of low high n (m ∷ ms) h e =
    or_true ((low ≤ n) × (n ≤ high)) (n == m) (list_any (λ m. n == m) ms)
    (λ same. let is : n ≡ m = eqb-true n m same in (omega (arith, h.0), omega (arith, h.1))) (λ rest. one_of low high n ms h.2 rest) e

pub within_limits : (s : Sizes) → AreInLimits s → IsWithin s
within_limits s e0 =
    let p : Passes (limits s) = all_pass (limits s) e0 in
    record {
      page_bytes =
          one_of 8 4_096 s.page_bytes page_lengths (
            lit≤ tt,
            lit≤ tt,
            (
              lit≤ tt,
              lit≤ tt,
              (
                lit≤ tt,
                lit≤ tt,
                (
                  lit≤ tt,
                  lit≤ tt,
                  (lit≤ tt, lit≤ tt, (lit≤ tt, lit≤ tt, (lit≤ tt, lit≤ tt, (lit≤ tt, lit≤ tt, (lit≤ tt, lit≤ tt, (lit≤ tt, lit≤ tt, tt)))))),
                ),
              ),
            ),
          )
          p.0;
      length = p.0;
      pages_per_slab = between 1 65_536 s.pages_per_slab p.1.0;
      slabs = between 1 4_096 s.slabs p.1.1.0;
      queue = between 1 1_024 s.queue p.1.1.1.0;
      callers = between 1 16 s.callers p.1.1.1.1.0;
      window = between 1 64 s.window p.1.1.1.1.1.0;
      hot = between 1 65_535 s.hot p.1.1.1.1.1.1.0;
      pages = leb-true (pages_of s) 1_048_576 p.1.1.1.1.1.1.1.0;
      bytes = leb-true (bytes_of s) 268_435_456 p.1.1.1.1.1.1.1.1.0;
    }
