use Rattle.std.proofs.Common.{◌≡◌, ◌<◌, true, List, length, refl, sym, ap, ◌∙◌, subst}
use Rattle.swap_slabs.specs.declared.SlabState.{SlabState}
use Rattle.swap_slabs.specs.declared.SlabState.TheVariants.{Local, Asking}
use Rattle.swap_slabs.specs.Slabs.{state_of, is_mapped, lender_of, leased_of, waits, with_reply}
use Rattle.swap_slabs.specs.Kept.{StateFits}
use Rattle.swap_slabs.proofs.RowReads.{state_read}
use Rattle.swap_slabs.proofs.Moves.{asked_fits, replied_fits}
use Rattle.swap_slabs.proofs.slabs.Slabs.answer.Goals as goal

pub invariant_of-self : goal.invariant_of-self
invariant_of-self c =
    let lt : c.args.slab.0 < length c.self.inside.states.items =
    subst (λ (l : List SlabState). c.args.slab.0 < length l) (sym c.self.view_is) c.requires.slab in
    let was : state_of c.self.inside.states.items c.args.slab ≡ Asking c.in-Asking.pair =
    state_read c.self.inside.states.items c.args.slab c.index.result.now lt c.index.ensures ∙ c.in-Asking.is in
    let waiting : waits (with_reply c.in-Asking.pair c.args.lender c.args.reply) ≡ true =
    ap waits (sym c.replied-pair.ensures) ∙ sym c.waits.ensures ∙ c.if-waits.true in
    asked_fits c.self.inside.states.items c.args.slab c.self.inside.rows.items c.self.inside.mapped (Asking c.replied-pair.result) lt c.self.invariant
    (subst (λ p. StateFits (Asking p)) (sym c.replied-pair.ensures)
    (replied_fits c.in-Asking.pair c.args.lender c.args.reply (subst StateFits was (c.self.invariant.slabs.fits c.args.slab)) waiting))
    (ap lender_of was) (ap leased_of was) (ap is_mapped was) refl refl refl

pub invariant_of-self-else-waits : goal.invariant_of-self-else-waits
invariant_of-self-else-waits c =
    let lt : c.args.slab.0 < length c.self.inside.states.items =
    subst (λ (l : List SlabState). c.args.slab.0 < length l) (sym c.self.view_is) c.requires.slab in
    let was : state_of c.self.inside.states.items c.args.slab ≡ Asking c.in-Asking.pair =
    state_read c.self.inside.states.items c.args.slab c.index.result.now lt c.index.ensures ∙ c.in-Asking.is in
    asked_fits c.self.inside.states.items c.args.slab c.self.inside.rows.items c.self.inside.mapped Local lt c.self.invariant tt (ap lender_of was)
    (ap leased_of was) (ap is_mapped was) refl refl refl
