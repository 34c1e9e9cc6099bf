use Rattle.std.proofs.Common.{◌≡◌, ◌<◌, true, List, length, is_some, Option, None, Some, sym, ap, ◌∙◌, subst, refl}
use Rattle.std.specs.Option.{IfSome}
use Rattle.swap_base.specs.declared.Slab.{Slab}
use Rattle.swap_slabs.specs.declared.SlabState.{SlabState}
use Rattle.swap_slabs.specs.Slabs.{state_of, is_at, holds}
use Rattle.swap_slabs.specs.Rows.{RowView, row_of, slab_of_row}
use Rattle.swap_slabs.proofs.RowReads.{row_read}
use Rattle.swap_slabs.proofs.Held.{slab_at, slab_if_held, at_within}
use Rattle.swap_slabs.proofs.slabs.Slabs.one_at.Goals as goal

if_some : {P : Slab → Type 0} (o : Option Slab) → ((s : Slab) → o ≡ Some s → P s) → IfSome o P
if_some None each = tt
if_some (Some s) each = each s refl

pub returns-clause-some : goal.returns-clause-some
returns-clause-some c =
    let read =
    row_read c.self.inside.states.items c.self.inside.rows.items c.self.inside.mapped c.args.lender c.self.invariant c.requires c.index-row.result.now
    c.index-row.ensures in
    ap is_some c.slab.ensures ∙ ap (λ (r : RowView). is_some (slab_of_row r)) read
    ∙ slab_if_held c.self.inside.states.items c.args.lender (row_of c.self.inside.rows.items c.args.lender) (c.self.invariant.row c.args.lender c.requires)
    ∙ ap (λ (l : List SlabState). holds l c.args.lender) c.self.view_is

pub returns-clause-at : goal.returns-clause-at
returns-clause-at c =
    let read =
    row_read c.self.inside.states.items c.self.inside.rows.items c.self.inside.mapped c.args.lender c.self.invariant c.requires c.index-row.result.now
    c.index-row.ensures in
    if_some c.slab.result
    (λ s found.
    subst (λ (l : List SlabState). is_at c.args.lender (state_of l s) ≡ true) c.self.view_is
    (slab_at c.self.inside.states.items c.args.lender (row_of c.self.inside.rows.items c.args.lender) (c.self.invariant.row c.args.lender c.requires) s
    (sym (c.slab.ensures ∙ ap (λ (r : RowView). slab_of_row r) read) ∙ found)))

pub returns-clause-within : goal.returns-clause-within
returns-clause-within c =
    let read =
    row_read c.self.inside.states.items c.self.inside.rows.items c.self.inside.mapped c.args.lender c.self.invariant c.requires c.index-row.result.now
    c.index-row.ensures in
    if_some c.slab.result
    (λ s found.
    subst (λ (l : List SlabState). s.0 < length l) c.self.view_is
    (at_within c.self.inside.states.items c.args.lender s
    (slab_at c.self.inside.states.items c.args.lender (row_of c.self.inside.rows.items c.args.lender) (c.self.invariant.row c.args.lender c.requires) s
    (sym (c.slab.ensures ∙ ap (λ (r : RowView). slab_of_row r) read) ∙ found))))
