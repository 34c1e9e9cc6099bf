use Rattle.std.proofs.Common.{◌≡◌, ◌<◌, List, length, refl, sym, ap, subst, Some, None}
use Rattle.swap_slabs.specs.declared.SlabState.{SlabState}
use Rattle.swap_slabs.specs.declared.SlabState.TheVariants.{Asking}
use Rattle.swap_slabs.specs.Slabs.{state_of, is_mapped, lender_of, leased_of, pair_of}
use Rattle.swap_slabs.specs.Kept.{StateFits}
use Rattle.swap_slabs.proofs.Moves.{asked_fits}
use Rattle.swap_slabs.proofs.slabs.Slabs.ask_second.Goals as goal

pub invariant_of-self : goal.invariant_of-self
invariant_of-self c =
    let lt : c.args.slab.0 < length c.self.inside.states.items =
    subst (λ (l : List SlabState). c.args.slab.0 < length l) (sym c.self.view_is) c.requires.slab in
    let was : state_of c.self.inside.states.items c.args.slab ≡ Asking (pair_of c.args.first None) =
    subst (λ (l : List SlabState). state_of l c.args.slab ≡ Asking (pair_of c.args.first None)) (sym c.self.view_is) c.requires.state in
    let fits : StateFits (Asking (pair_of c.args.first None)) = subst StateFits was (c.self.invariant.slabs.fits c.args.slab) in
    asked_fits c.self.inside.states.items c.args.slab c.self.inside.rows.items c.self.inside.mapped
    (Asking (pair_of c.args.first (Some c.args.second))) lt c.self.invariant (fits.0, c.requires.second, refl) (ap lender_of was) (ap leased_of was)
    (ap is_mapped was) refl refl refl
