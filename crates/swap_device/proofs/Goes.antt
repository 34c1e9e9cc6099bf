-- Where requests go: a page's target takes one more.
use Rattle.std.proofs.Common.{◌≡◌, ℕ, ◌<◌, ◌≤◌, length, refl, sym, ap, subst, arith, Option, None, Some}
use Rattle.std.proofs.lemmas.List.Sums.{count_by-le-length}
use Rattle.swap_base.specs.declared.Page.{Page}
use Rattle.swap_base.specs.declared.Lender.{Lender}
use Rattle.swap_base.specs.declared.Lease.{Lease}
use Rattle.swap_base.specs.Sizes.{Sizes, pages_of, IsWithin}
use Rattle.swap_record.specs.History.{History}
use Rattle.swap_calls.specs.Calls.{Calls}
use Rattle.swap_slabs.specs.Slabs.{is_mapped, flying_of}
use Rattle.swap_slabs.specs.declared.SlabState.{SlabState}
use Rattle.swap_slabs.specs.declared.SlabState.TheVariants.{Mapped}
use Rattle.swap_base.specs.declared.TheConstants.{MOST_WINDOW}
use Rattle.swap_rings.specs.Rings.{ring_of}
use Rattle.swap_remote.specs.Remote.{Remote, slab_for, target, changed_after}
use Rattle.swap_table.specs.Serves.{Keeping, Owing, is_for_slab, flying_for, SlabFits, Serves}
use Rattle.swap_table.proofs.SendsKeepServing.{slab_within}
use Rattle.swap_table.proofs.WaitsStay.{Target, target_is}
use Rattle.swap_device.specs.State.{MayGo, MayGoTo}

target_goes :
    (keeps : Keeping) (owes : Owing) (s : Sizes) (n : ℕ) (H : History) (cs : Calls) (r : Remote) (p : Page) (at : Lender × Lease) → Serves keeps owes s n H cs r
    → IsWithin s → p.0 < pages_of s → Target s r p at → MayGo s r p at.0 × (at.0.0 < n)
target_goes keeps owes s n H cs r p at k within page t =
    let lender : at.0.0 < n = (k.link at.0).lender t.up in
    let fits : SlabFits s r.links (slab_for s p) (Mapped at.0 at.1 t.flying) = let P : SlabState → Type 0 = λ y. SlabFits s r.links (slab_for s p) y in
    subst P t.mapped (k.slab (slab_for s p) (slab_within s p.0 page)) in
    let fewer : flying_for s (slab_for s p) (ring_of r.links at.0) ≤ length (ring_of r.links at.0) =
    count_by-le-length (is_for_slab s (slab_for s p)) (ring_of r.links at.0) in
    let window : s.window ≤ 64 = within.window.1 in
    let flying : t.flying < MOST_WINDOW = omega (arith, fits.1, fewer, t.room, window) in (
      record {
        few = let f = k.few in omega (arith, lender, f);
        mapped = ap is_mapped t.mapped;
        flying = subst (λ y. flying_of y < MOST_WINDOW) (sym t.mapped) flying;
        room = t.room;
      },
      lender,
    )

pub may_go :
    (keeps : Keeping) (owes : Owing) (s : Sizes) (n : ℕ) (H : History) (cs : Calls) (r : Remote) (p : Page) (at : Option (Lender × Lease))
    → Serves keeps owes s n H cs r → IsWithin s → p.0 < pages_of s → ((a : Lender × Lease) → at ≡ Some a → target s r p ≡ Some a) → MayGoTo s r n p at
may_go keeps owes s n H cs r p None k within page is = tt
may_go keeps owes s n H cs r p (Some at) k within page is = target_goes keeps owes s n H cs r p at k within page (target_is s r p at (is at refl))

-- a changed page's bit doesn't matter to it
pub still_goes : (s : Sizes) (n : ℕ) (r : Remote) (p q : Page) (at : Option (Lender × Lease)) → MayGoTo s r n p at → MayGoTo s (changed_after r q) n p at
still_goes s n r p q None h = tt
still_goes s n r p q (Some at) h = (record { few = h.0.few; mapped = h.0.mapped; flying = h.0.flying; room = h.0.room }, h.1)
