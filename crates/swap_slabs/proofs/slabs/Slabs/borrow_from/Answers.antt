use Rattle.std.proofs.Common.{◌≡◌, ◌<◌, true, false, List, length, sym, subst}
use Rattle.swap_places.specs.Line.{stands}
use Rattle.swap_slabs.specs.declared.SlabState.{SlabState}
use Rattle.swap_slabs.specs.Slabs.{state_of, is_local}
use Rattle.swap_slabs.specs.Rows.{RowView, SetsBorrowing}
use Rattle.swap_slabs.proofs.RowReads.{row_read}
use Rattle.swap_slabs.proofs.Moves.{borrow_fits, borrow_room}
use Rattle.swap_slabs.proofs.slabs.Slabs.borrow_from.Goals as goal

pub borrow-requires-clause-below : goal.borrow-requires-clause-below
borrow-requires-clause-below c =
    let lt : c.args.slab.0 < length c.self.inside.states.items =
    subst (λ (l : List SlabState). c.args.slab.0 < length l) (sym c.self.view_is) c.requires.slab in
    let local : is_local (state_of c.self.inside.states.items c.args.slab) ≡ true =
    subst (λ (l : List SlabState). is_local (state_of l c.args.slab) ≡ true) (sym c.self.view_is) c.requires.state in
    let read =
    row_read c.self.inside.states.items c.self.inside.rows.items c.self.inside.mapped c.args.lender c.self.invariant c.requires.lender
    c.index_mut-row.result.now c.index_mut-row.ensures.value in
    subst (λ (r : RowView). c.args.slab.0 < r.room) (sym read)
    (borrow_room c.self.inside.states.items c.args.slab c.self.inside.rows.items c.self.inside.mapped c.args.lender lt c.self.invariant local
    c.requires.lender).0

pub borrow-requires-clause-out : goal.borrow-requires-clause-out
borrow-requires-clause-out c =
    let lt : c.args.slab.0 < length c.self.inside.states.items =
    subst (λ (l : List SlabState). c.args.slab.0 < length l) (sym c.self.view_is) c.requires.slab in
    let local : is_local (state_of c.self.inside.states.items c.args.slab) ≡ true =
    subst (λ (l : List SlabState). is_local (state_of l c.args.slab) ≡ true) (sym c.self.view_is) c.requires.state in
    let read =
    row_read c.self.inside.states.items c.self.inside.rows.items c.self.inside.mapped c.args.lender c.self.invariant c.requires.lender
    c.index_mut-row.result.now c.index_mut-row.ensures.value in
    subst (λ (r : RowView). stands r.borrowing c.args.slab.0 ≡ false) (sym read)
    (borrow_room c.self.inside.states.items c.args.slab c.self.inside.rows.items c.self.inside.mapped c.args.lender lt c.self.invariant local
    c.requires.lender).1

pub invariant_of-self : goal.invariant_of-self
invariant_of-self c =
    let lt : c.args.slab.0 < length c.self.inside.states.items =
    subst (λ (l : List SlabState). c.args.slab.0 < length l) (sym c.self.view_is) c.requires.slab in
    let local : is_local (state_of c.self.inside.states.items c.args.slab) ≡ true =
    subst (λ (l : List SlabState). is_local (state_of l c.args.slab) ≡ true) (sym c.self.view_is) c.requires.state in
    let read =
    row_read c.self.inside.states.items c.self.inside.rows.items c.self.inside.mapped c.args.lender c.self.invariant c.requires.lender
    c.index_mut-row.result.now c.index_mut-row.ensures.value in
    borrow_fits c.self.inside.states.items c.args.slab c.self.inside.rows.items c.self.inside.mapped c.args.lender c.borrow.new.self lt c.self.invariant local
    c.requires.lender (subst (λ r. SetsBorrowing r c.args.slab true c.borrow.new.self) read c.borrow.ensures)
