use Rattle.std.proofs.Common.{◌≡◌, ◌<◌, true, List, length, refl, sym, ap, subst}
use Rattle.swap_slabs.specs.declared.SlabState.{SlabState}
use Rattle.swap_slabs.specs.declared.SlabState.TheVariants.{Local, Asking}
use Rattle.swap_slabs.specs.Slabs.{state_of, is_local, is_mapped, lender_of, leased_of}
use Rattle.swap_slabs.proofs.Moves.{local_is, asked_fits}
use Rattle.swap_slabs.specs.declared.Reply.TheVariants.{Waiting}
use Rattle.swap_slabs.proofs.slabs.Slabs.ask.Goals as goal

pub invariant_of-self : goal.invariant_of-self
invariant_of-self c =
    let lt : c.args.slab.0 < length c.self.inside.states.items =
    subst (λ (l : List SlabState). c.args.slab.0 < length l) (sym c.self.view_is) c.requires.slab in
    let was : state_of c.self.inside.states.items c.args.slab ≡ Local =
    local_is (state_of c.self.inside.states.items c.args.slab)
    (subst (λ (l : List SlabState). is_local (state_of l c.args.slab) ≡ true) (sym c.self.view_is) c.requires.state) in
    asked_fits c.self.inside.states.items c.args.slab c.self.inside.rows.items c.self.inside.mapped
    (Asking (record { first = c.args.first; second = c.args.second; one = Waiting; two = c.match-second.two })) lt c.self.invariant
    (c.requires.first, c.requires.second, refl) (ap lender_of was) (ap leased_of was) (ap is_mapped was) refl refl refl
