use Rattle.std.proofs.Common.{◌≡◌, ℕ, List, find, position, sym, ap, ◌∙◌, subst, is_some, Option, Some, IsSome}
use Rattle.swap_slabs.specs.declared.row.Leased.{Leased}
use Rattle.swap_slabs.specs.Rows.{RowView, has_number, without_lease}
use Rattle.swap_slabs.proofs.RowReads.{place_some, removed_is}
use Rattle.swap_slabs.proofs.row.Row.give_up.Goals as goal

pub unwrap-place-requires : goal.unwrap-place-requires
unwrap-place-requires c =
    ap (λ (o : Option ℕ). is_some o) (c.place_of.ensures ∙ ap (λ (l : List Leased). position (has_number c.args.lease) l) c.deref.ensures.value)
    ∙ place_some c.args.lease c.self.inside.leases.items
    (subst (λ (r : RowView). IsSome (find (has_number c.args.lease) r.leases)) (sym c.self.view_is) c.requires)

pub returns : goal.returns
returns c =
    let found : position (has_number c.args.lease) c.self.inside.leases.items ≡ Some c.unwrap-place.result =
    sym (c.place_of.ensures ∙ ap (λ (l : List Leased). position (has_number c.args.lease) l) c.deref.ensures.value) ∙ c.unwrap-place.ensures in
    let F : List Leased → RowView = λ l. record { borrowing = c.self.inside.borrowing.numbers; leases = l; room = c.self.inside.room } in
    let G : RowView → RowView = λ r. record r { leases = without_lease c.args.lease r.leases } in
    ap F (c.remove.ensures.items ∙ removed_is c.args.lease c.self.inside.leases.items c.unwrap-place.result c.remove.result found) ∙ ap G c.self.view_is
