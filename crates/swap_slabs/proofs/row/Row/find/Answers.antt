use Rattle.std.proofs.Common.{◌≡◌, List, Some, None, position, sym, ap, ◌∙◌}
use Rattle.swap_slabs.specs.declared.row.Leased.{Leased}
use Rattle.swap_slabs.specs.Rows.{RowView, has_number, slab_in}
use Rattle.swap_slabs.proofs.RowReads.{slab_at, slab_nowhere}
use Rattle.swap_slabs.proofs.row.Row.find.Goals as goal

pub returns-in-Some : goal.returns-in-Some
returns-in-Some c =
    let at : position (has_number c.args.lease) c.self.inside.leases.items ≡ Some c.in-Some.place =
    sym (c.place_of.ensures ∙ ap (λ (l : List Leased). position (has_number c.args.lease) l) c.deref.ensures.value) ∙ c.in-Some.is in
    ap (λ (l : Leased). Some l.slab) c.index.ensures ∙ sym (slab_at c.args.lease c.self.inside.leases.items c.in-Some.place c.index.result.now at)
    ∙ ap (λ (r : RowView). slab_in c.args.lease r.leases) c.self.view_is

pub returns-in-None : goal.returns-in-None
returns-in-None c =
    let none : position (has_number c.args.lease) c.self.inside.leases.items ≡ None =
    sym (c.place_of.ensures ∙ ap (λ (l : List Leased). position (has_number c.args.lease) l) c.deref.ensures.value) ∙ c.in-None.is in
    sym (slab_nowhere c.args.lease c.self.inside.leases.items none) ∙ ap (λ (r : RowView). slab_in c.args.lease r.leases) c.self.view_is
