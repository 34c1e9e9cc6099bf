use Rattle.std.proofs.Common.{◌≡◌, ◌+◌, ◌<◌, ◌≤◌, List, length, find, sym, ap, ◌∙◌, subst, arith, Some, IsSome}
use Rattle.swap_slabs.specs.declared.SlabState.{SlabState}
use Rattle.swap_slabs.specs.Slabs.{state_of, is_mapped, flying_of, leased_of}
use Rattle.swap_slabs.specs.Rows.{RowView, has_number, without_lease, one_if}
use Rattle.swap_slabs.proofs.RowReads.{row_read, state_read}
use Rattle.swap_slabs.proofs.Moves.{given_fits, lease_found, leased_range, mapped_some, drain_fits}
use Rattle.swap_slabs.proofs.slabs.Slabs.drain.Goals as goal

pub fewer-self-inside-requires : goal.fewer-self-inside-requires
fewer-self-inside-requires c =
    let lt : c.args.slab.0 < length c.self.inside.states.items =
    subst (λ (l : List SlabState). c.args.slab.0 < length l) (sym c.self.view_is) c.requires.slab in
    let leased : leased_of (state_of c.self.inside.states.items c.args.slab) ≡ Some (c.args.lender, c.args.lease) =
    subst (λ (l : List SlabState). leased_of (state_of l c.args.slab) ≡ Some (c.args.lender, c.args.lease)) (sym c.self.view_is) c.requires.leased in
    let range = leased_range (state_of c.self.inside.states.items c.args.slab) c.args.lender c.args.lease (c.self.invariant.slabs.fits c.args.slab) leased in
    let there : state_of c.self.inside.states.items c.args.slab ≡ c.index.result.now =
    state_read c.self.inside.states.items c.args.slab c.index.result.now lt c.index.ensures in
    omega (
      arith,
      mapped_some c.self.inside.states.items c.args.slab c.self.inside.rows.items c.self.inside.mapped lt c.self.invariant,
      ap (λ s. one_if (is_mapped s)) there,
    )

pub give_up-requires : goal.give_up-requires
give_up-requires c =
    let lt : c.args.slab.0 < length c.self.inside.states.items =
    subst (λ (l : List SlabState). c.args.slab.0 < length l) (sym c.self.view_is) c.requires.slab in
    let leased : leased_of (state_of c.self.inside.states.items c.args.slab) ≡ Some (c.args.lender, c.args.lease) =
    subst (λ (l : List SlabState). leased_of (state_of l c.args.slab) ≡ Some (c.args.lender, c.args.lease)) (sym c.self.view_is) c.requires.leased in
    let range = leased_range (state_of c.self.inside.states.items c.args.slab) c.args.lender c.args.lease (c.self.invariant.slabs.fits c.args.slab) leased in
    let there : state_of c.self.inside.states.items c.args.slab ≡ c.index.result.now =
    state_read c.self.inside.states.items c.args.slab c.index.result.now lt c.index.ensures in
    let read =
    row_read c.self.inside.states.items c.self.inside.rows.items c.self.inside.mapped c.args.lender c.self.invariant range.0 c.index_mut-row.result.now
    c.index_mut-row.ensures.value in
    subst (λ (r : RowView). IsSome (find (has_number c.args.lease) r.leases)) (sym read)
    (lease_found c.self.inside.states.items c.args.slab c.self.inside.rows.items c.self.inside.mapped c.self.inside.mapped c.args.lender c.args.lease lt
    c.self.invariant leased range.0)

pub invariant_of-self : goal.invariant_of-self
invariant_of-self c =
    let lt : c.args.slab.0 < length c.self.inside.states.items =
    subst (λ (l : List SlabState). c.args.slab.0 < length l) (sym c.self.view_is) c.requires.slab in
    let leased : leased_of (state_of c.self.inside.states.items c.args.slab) ≡ Some (c.args.lender, c.args.lease) =
    subst (λ (l : List SlabState). leased_of (state_of l c.args.slab) ≡ Some (c.args.lender, c.args.lease)) (sym c.self.view_is) c.requires.leased in
    let range = leased_range (state_of c.self.inside.states.items c.args.slab) c.args.lender c.args.lease (c.self.invariant.slabs.fits c.args.slab) leased in
    let there : state_of c.self.inside.states.items c.args.slab ≡ c.index.result.now =
    state_read c.self.inside.states.items c.args.slab c.index.result.now lt c.index.ensures in
    let read =
    row_read c.self.inside.states.items c.self.inside.rows.items c.self.inside.mapped c.args.lender c.self.invariant range.0 c.index_mut-row.result.now
    c.index_mut-row.ensures.value in
    let counted : c.fewer-self-inside.result + one_if (is_mapped (state_of c.self.inside.states.items c.args.slab)) ≡ c.self.inside.mapped =
    omega (arith, c.fewer-self-inside.ensures, ap (λ s. one_if (is_mapped s)) there) in
    let F : RowView → RowView = λ r. record r { leases = without_lease c.args.lease r.leases } in
    given_fits c.self.inside.states.items c.args.slab c.self.inside.rows.items c.self.inside.mapped c.fewer-self-inside.result c.args.lender c.args.lease lt
    c.self.invariant leased range.0 c.give_up.new.self
    (c.give_up.ensures ∙ ap F read) counted

pub invariant_of-self-else-flying-eq0 : goal.invariant_of-self-else-flying-eq0
invariant_of-self-else-flying-eq0 c =
    let lt : c.args.slab.0 < length c.self.inside.states.items =
    subst (λ (l : List SlabState). c.args.slab.0 < length l) (sym c.self.view_is) c.requires.slab in
    let leased : leased_of (state_of c.self.inside.states.items c.args.slab) ≡ Some (c.args.lender, c.args.lease) =
    subst (λ (l : List SlabState). leased_of (state_of l c.args.slab) ≡ Some (c.args.lender, c.args.lease)) (sym c.self.view_is) c.requires.leased in
    let range = leased_range (state_of c.self.inside.states.items c.args.slab) c.args.lender c.args.lease (c.self.invariant.slabs.fits c.args.slab) leased in
    let there : state_of c.self.inside.states.items c.args.slab ≡ c.index.result.now =
    state_read c.self.inside.states.items c.args.slab c.index.result.now lt c.index.ensures in
    let counted : c.fewer-self-inside.result + one_if (is_mapped (state_of c.self.inside.states.items c.args.slab)) ≡ c.self.inside.mapped =
    omega (arith, c.fewer-self-inside.ensures, ap (λ s. one_if (is_mapped s)) there) in
    let le : c.args.flying ≤ flying_of (state_of c.self.inside.states.items c.args.slab) =
    subst (λ (l : List SlabState). c.args.flying ≤ flying_of (state_of l c.args.slab)) (sym c.self.view_is) c.requires.flying in
    drain_fits c.self.inside.states.items c.args.slab c.self.inside.rows.items c.self.inside.mapped c.fewer-self-inside.result c.args.lender c.args.lease
    c.args.flying lt c.self.invariant leased
    (omega (arith, c.if-flying-eq0.false)) le counted
