use Rattle.std.proofs.Common.{◌≡◌, ◌-◌, ◌<◌, ◌≤◌, List, length, sym, ap, ◌∙◌, subst, arith}
use Rattle.swap_slabs.specs.declared.SlabState.{SlabState}
use Rattle.swap_slabs.specs.declared.SlabState.TheVariants.{Mapped}
use Rattle.swap_base.specs.declared.TheConstants.{MOST_LENDERS, MOST_WINDOW}
use Rattle.swap_slabs.specs.Slabs.{state_of, is_mapped, lender_of, leased_of}
use Rattle.swap_slabs.specs.Kept.{StateFits}
use Rattle.swap_slabs.specs.Rows.{one_if}
use Rattle.swap_slabs.proofs.RowReads.{state_read}
use Rattle.swap_slabs.proofs.Moves.{fits_kept}
use Rattle.swap_slabs.proofs.slabs.Slabs.settled.Goals as goal

pub invariant_of-self : goal.invariant_of-self
invariant_of-self c =
    let lt : c.args.slab.0 < length c.self.inside.states.items =
    subst (λ (l : List SlabState). c.args.slab.0 < length l) (sym c.self.view_is) c.requires.slab in
    let was : state_of c.self.inside.states.items c.args.slab ≡ Mapped c.in-Mapped.lender c.in-Mapped.lease c.in-Mapped.flying =
    state_read c.self.inside.states.items c.args.slab c.index.result.now lt c.index.ensures ∙ c.in-Mapped.is in
    let range : (c.in-Mapped.lender.0 < MOST_LENDERS) × (c.in-Mapped.flying ≤ MOST_WINDOW) = subst StateFits was (c.self.invariant.slabs.fits c.args.slab) in
    fits_kept c.self.inside.states.items c.args.slab
    (Mapped c.in-Mapped.lender c.in-Mapped.lease (c.in-Mapped.flying - 1)) c.self.inside.rows.items c.self.inside.mapped c.self.inside.mapped lt
    c.self.invariant
    (range.0, omega (arith, range.1)) (sym (ap lender_of was)) (sym (ap leased_of was)) (omega (arith, ap (λ s. one_if (is_mapped s)) was))
