use Rattle.std.proofs.Common.{List, position, find, refl, ap, ◌∙◌}
use Rattle.swap_slabs.specs.declared.SlabState.{SlabState}
use Rattle.swap_slabs.specs.Slabs.{has_lease, by_lease}
use Rattle.swap_slabs.specs.Rows.{RowView, has_number, slab_in, row_of}
use Rattle.swap_slabs.proofs.Change.{by_lease_is}
use Rattle.swap_slabs.proofs.RowReads.{row_read}
use Rattle.swap_slabs.proofs.slabs.Slabs.by_lease.Goals as goal

pub returns : goal.returns
returns c =
    let read =
    row_read c.self.inside.states.items c.self.inside.rows.items c.self.inside.mapped c.args.lender c.self.invariant c.requires c.index-row.result.now
    c.index-row.ensures in
    c.find.ensures ∙ ap (λ (r : RowView). slab_in c.args.lease r.leases) read
    ∙ by_lease_is c.self.inside.states.items c.args.lender (row_of c.self.inside.rows.items c.args.lender) c.args.lease c.self.invariant.slabs
    (c.self.invariant.row c.args.lender c.requires) (find (has_number c.args.lease) (row_of c.self.inside.rows.items c.args.lender).leases) refl
    (position (λ state. has_lease c.args.lender c.args.lease state) c.self.inside.states.items) refl
    ∙ ap (λ (l : List SlabState). by_lease l c.args.lender c.args.lease) c.self.view_is
