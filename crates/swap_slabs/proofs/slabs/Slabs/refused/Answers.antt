use Rattle.std.proofs.Common.{◌≡◌, ◌<◌, true, false, List, length, sym, ◌∙◌, subst}
use Rattle.swap_places.specs.Line.{stands}
use Rattle.swap_slabs.specs.declared.SlabState.{SlabState}
use Rattle.swap_slabs.specs.declared.SlabState.TheVariants.{Borrowing}
use Rattle.swap_base.specs.declared.TheConstants.{MOST_LENDERS}
use Rattle.swap_slabs.specs.Slabs.{state_of}
use Rattle.swap_slabs.specs.Kept.{StateFits}
use Rattle.swap_slabs.specs.Rows.{RowView, SetsBorrowing}
use Rattle.swap_slabs.proofs.RowReads.{row_read, state_read}
use Rattle.swap_slabs.proofs.Moves.{refuse_fits, borrowing_there}
use Rattle.swap_slabs.proofs.slabs.Slabs.refused.Goals as goal

pub answer-requires : goal.answer-requires
answer-requires c =
    let lt : c.args.slab.0 < length c.self.inside.states.items =
    subst (λ (l : List SlabState). c.args.slab.0 < length l) (sym c.self.view_is) c.requires.slab in
    let was : state_of c.self.inside.states.items c.args.slab ≡ Borrowing c.in-Borrowing.lender =
    state_read c.self.inside.states.items c.args.slab c.index.result.now lt c.index.ensures ∙ c.in-Borrowing.is in
    let within : c.in-Borrowing.lender.0 < MOST_LENDERS = subst StateFits was (c.self.invariant.slabs.fits c.args.slab) in
    let read =
    row_read c.self.inside.states.items c.self.inside.rows.items c.self.inside.mapped c.in-Borrowing.lender c.self.invariant within c.index_mut-row.result.now
    c.index_mut-row.ensures.value in
    subst (λ (r : RowView). stands r.borrowing c.args.slab.0 ≡ true) (sym read)
    (borrowing_there c.self.inside.states.items c.args.slab c.self.inside.rows.items c.self.inside.mapped c.in-Borrowing.lender c.self.invariant was within)

pub invariant_of-self : goal.invariant_of-self
invariant_of-self c =
    let lt : c.args.slab.0 < length c.self.inside.states.items =
    subst (λ (l : List SlabState). c.args.slab.0 < length l) (sym c.self.view_is) c.requires.slab in
    let was : state_of c.self.inside.states.items c.args.slab ≡ Borrowing c.in-Borrowing.lender =
    state_read c.self.inside.states.items c.args.slab c.index.result.now lt c.index.ensures ∙ c.in-Borrowing.is in
    let within : c.in-Borrowing.lender.0 < MOST_LENDERS = subst StateFits was (c.self.invariant.slabs.fits c.args.slab) in
    let read =
    row_read c.self.inside.states.items c.self.inside.rows.items c.self.inside.mapped c.in-Borrowing.lender c.self.invariant within c.index_mut-row.result.now
    c.index_mut-row.ensures.value in
    refuse_fits c.self.inside.states.items c.args.slab c.self.inside.rows.items c.self.inside.mapped c.in-Borrowing.lender c.answer.new.self lt c.self.invariant
    was within
    (subst (λ r. SetsBorrowing r c.args.slab false c.answer.new.self) read c.answer.ensures)
