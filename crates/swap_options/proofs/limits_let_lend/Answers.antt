-- Each limit by itself.
use Rattle.std.proofs.Common.{◌≡◌, ℕ, ◌*◌, ◌<◌, ◌≤◌, ◌^◌, Bool, true, false, ◌==◌, ◌||◌, List, [], ◌∷◌, refl, sym, subst, arith, lit≤, mul_assoc}
use Rattle.std.specs.Prelude.{nat_le}
use Rattle.std.specs.List.{list_any, AllByRecursion}
use Rattle.std.proofs.lemmas.Bool.{and_parts, leb-true, eqb-true}
use Rattle.swap_base.specs.Sizes.{page_lengths, is_within}
use Rattle.swap_options.proofs.limits_let_lend.Goals as goal

abbrev Within : ℕ → Type 0
Within n = (8 ≤ n) × (n ≤ 4096)

one_of : (p : ℕ) (xs : List ℕ) → AllByRecursion Within xs → list_any (λ n. p == n) xs ≡ true → Within p
one_of p [] all e = cc
one_of p (x ∷ xs) all e = go (p == x) refl e (one_of p xs all.1)
  where
    go : (b : Bool) → (p == x) ≡ b → (b || list_any (λ n. p == n) xs) ≡ true → (list_any (λ n. p == n) xs ≡ true → Within p) → Within p
    go true is e more = subst Within (sym (eqb-true p x is)) all.0
    go false is e more = more e

lengths_within : AllByRecursion Within page_lengths
lengths_within = (
  (lit≤ tt, lit≤ tt),
  (
    (lit≤ tt, lit≤ tt),
    (
      (lit≤ tt, lit≤ tt),
      (
        (lit≤ tt, lit≤ tt),
        ((lit≤ tt, lit≤ tt), ((lit≤ tt, lit≤ tt), ((lit≤ tt, lit≤ tt), ((lit≤ tt, lit≤ tt), ((lit≤ tt, lit≤ tt), ((lit≤ tt, lit≤ tt), tt)))))),
      ),
    ),
  ),
)

small : (bytes : ℕ) → bytes ≤ 536_870_912 → bytes < 2 ^ 64
small bytes h = omega (arith, h)

pub returns : goal.returns
returns c = λ o e.
    let links = and_parts _ (nat_le o.links 64) e in
    let bytes = and_parts _ (nat_le (o.spec.slots * o.pages_per_slab * o.page_bytes) 536_870_912) links.0 in
    let pages = and_parts _ (is_within 1 65_536 o.pages_per_slab) bytes.0 in
    let page = and_parts _ (list_any (λ n. o.page_bytes == n) page_lengths) pages.0 in
    let extra = and_parts _ (nat_le o.spec.extra 64) page.0 in
    let headroom = and_parts (is_within 1 64 o.spec.slots) (nat_le o.spec.headroom 64) extra.0 in
    let within = and_parts (nat_le 1 o.spec.slots) (nat_le o.spec.slots 64) headroom.0 in
    let one = one_of o.page_bytes page_lengths lengths_within page.1 in
    record {
      some = leb-true 1 o.spec.slots within.0;
      few = leb-true o.spec.slots 64 within.1;
      headroom = leb-true o.spec.headroom 64 headroom.1;
      extra = leb-true o.spec.extra 64 extra.1;
      least = one.0;
      most = one.1;
      bytes =
          subst (λ n. n < 2 ^ 64) (mul_assoc o.spec.slots o.pages_per_slab o.page_bytes)
          (small (o.spec.slots * o.pages_per_slab * o.page_bytes) (leb-true (o.spec.slots * o.pages_per_slab * o.page_bytes) 536_870_912 bytes.1));
    }
