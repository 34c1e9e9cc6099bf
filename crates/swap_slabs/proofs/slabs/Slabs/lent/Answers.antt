use Rattle.std.proofs.Common.{◌≡◌, ◌<◌, true, false, List, length, sym, ◌∙◌, subst, arith, None}
use Rattle.swap_places.specs.Line.{stands}
use Rattle.swap_slabs.specs.declared.SlabState.{SlabState}
use Rattle.swap_slabs.specs.declared.SlabState.TheVariants.{Borrowing}
use Rattle.swap_base.specs.declared.TheConstants.{MOST_LENDERS}
use Rattle.swap_slabs.specs.Slabs.{state_of, by_lease}
use Rattle.swap_slabs.specs.Kept.{StateFits, IsNew}
use Rattle.swap_slabs.specs.Rows.{RowView, SetsBorrowing}
use Rattle.swap_slabs.proofs.RowReads.{row_read, state_read}
use Rattle.swap_slabs.proofs.Moves.{lent_fits, lent_room, borrowing_there}
use Rattle.swap_slabs.proofs.slabs.Slabs.lent.Goals as goal

pub overflow_add-self : goal.overflow_add-self
overflow_add-self c =
    let lt : c.args.slab.0 < length c.self.inside.states.items =
    subst (λ (l : List SlabState). c.args.slab.0 < length l) (sym c.self.view_is) c.requires.slab in
    let was : state_of c.self.inside.states.items c.args.slab ≡ Borrowing c.in-Borrowing.lender =
    state_read c.self.inside.states.items c.args.slab c.index.result.now lt c.index.ensures ∙ c.in-Borrowing.is in
    let within : c.in-Borrowing.lender.0 < MOST_LENDERS = subst StateFits was (c.self.invariant.slabs.fits c.args.slab) in
    omega (
      arith,
      (lent_room c.self.inside.states.items c.args.slab c.self.inside.rows.items c.self.inside.mapped c.in-Borrowing.lender c.args.lease lt c.self.invariant
          was within).1,
    )

pub answer-requires : goal.answer-requires
answer-requires c =
    let lt : c.args.slab.0 < length c.self.inside.states.items =
    subst (λ (l : List SlabState). c.args.slab.0 < length l) (sym c.self.view_is) c.requires.slab in
    let was : state_of c.self.inside.states.items c.args.slab ≡ Borrowing c.in-Borrowing.lender =
    state_read c.self.inside.states.items c.args.slab c.index.result.now lt c.index.ensures ∙ c.in-Borrowing.is in
    let within : c.in-Borrowing.lender.0 < MOST_LENDERS = subst StateFits was (c.self.invariant.slabs.fits c.args.slab) in
    let read =
    row_read c.self.inside.states.items c.self.inside.rows.items c.self.inside.mapped c.in-Borrowing.lender c.self.invariant within c.index_mut-row.result.now
    c.index_mut-row.ensures.value in
    subst (λ (r : RowView). stands r.borrowing c.args.slab.0 ≡ true) (sym read)
    (borrowing_there c.self.inside.states.items c.args.slab c.self.inside.rows.items c.self.inside.mapped c.in-Borrowing.lender c.self.invariant was within)

pub add-requires : goal.add-requires
add-requires c =
    let lt : c.args.slab.0 < length c.self.inside.states.items =
    subst (λ (l : List SlabState). c.args.slab.0 < length l) (sym c.self.view_is) c.requires.slab in
    let was : state_of c.self.inside.states.items c.args.slab ≡ Borrowing c.in-Borrowing.lender =
    state_read c.self.inside.states.items c.args.slab c.index.result.now lt c.index.ensures ∙ c.in-Borrowing.is in
    let within : c.in-Borrowing.lender.0 < MOST_LENDERS = subst StateFits was (c.self.invariant.slabs.fits c.args.slab) in
    let read =
    row_read c.self.inside.states.items c.self.inside.rows.items c.self.inside.mapped c.in-Borrowing.lender c.self.invariant within c.index_mut-row.result.now
    c.index_mut-row.ensures.value in
    let R : RowView → Type 0 = λ r. length r.leases < r.room in
    let room : R c.index_mut-row.result.now =
    subst R (sym read)
    (lent_room c.self.inside.states.items c.args.slab c.self.inside.rows.items c.self.inside.mapped c.in-Borrowing.lender c.args.lease lt c.self.invariant was
    within).0 in
    subst R (sym c.answer.ensures.rest) room

pub invariant_of-self : goal.invariant_of-self
invariant_of-self c =
    let lt : c.args.slab.0 < length c.self.inside.states.items =
    subst (λ (l : List SlabState). c.args.slab.0 < length l) (sym c.self.view_is) c.requires.slab in
    let was : state_of c.self.inside.states.items c.args.slab ≡ Borrowing c.in-Borrowing.lender =
    state_read c.self.inside.states.items c.args.slab c.index.result.now lt c.index.ensures ∙ c.in-Borrowing.is in
    let within : c.in-Borrowing.lender.0 < MOST_LENDERS = subst StateFits was (c.self.invariant.slabs.fits c.args.slab) in
    let read =
    row_read c.self.inside.states.items c.self.inside.rows.items c.self.inside.mapped c.in-Borrowing.lender c.self.invariant within c.index_mut-row.result.now
    c.index_mut-row.ensures.value in
    let new : by_lease c.self.inside.states.items c.in-Borrowing.lender c.args.lease ≡ None =
    subst (λ s. IsNew c.self.inside.states.items s c.args.lease) was
    (subst (λ (l : List SlabState). IsNew l (state_of l c.args.slab) c.args.lease) (sym c.self.view_is) c.requires.lease) in
    lent_fits c.self.inside.states.items c.args.slab c.self.inside.rows.items c.self.inside.mapped c.in-Borrowing.lender c.args.lease
    c.answer.new.self c.add.new.self lt c.self.invariant was within new
    (subst (λ r. SetsBorrowing r c.args.slab false c.answer.new.self) read c.answer.ensures) c.add.ensures
