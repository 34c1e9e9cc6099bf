use Rattle.std.proofs.Common.{arith, sym, eq-eqb, ne_eqb, get_or}
use Rattle.swap_slabs.specs.declared.row.Leased.{Leased}
use Rattle.swap_slabs.proofs.RowReads.{placed, unplaced}
use Rattle.swap_slabs.proofs.row.place_of.Goals as goal

abbrev none : Leased
none = record { lease = record { 0 = 0 }; slab = record { 0 = 0 } }

pub returns-then-place-leases : goal.returns-then-place-leases
returns-then-place-leases c =
    sym
    (unplaced c.args.lease c.args.leases.now c.place_for-place.result c.place_for-place.ensures.place none c.requires
    (λ within. absurd (omega (arith, within, c.if-place-leases.true))))

pub returns-then-leases-place : goal.returns-then-leases-place
returns-then-leases-place c =
    sym
    (placed c.args.lease c.args.leases.now c.place_for-place.result c.place_for-place.ensures.place none
    (omega (arith, c.if-place-leases.false, c.place_for-place.ensures.within))
    (eq-eqb (get_or c.args.leases.now c.place_for-place.result none).lease.0 c.args.lease.0 c.if-leases-place.true))

pub returns-else-leases-place : goal.returns-else-leases-place
returns-else-leases-place c =
    sym
    (unplaced c.args.lease c.args.leases.now c.place_for-place.result c.place_for-place.ensures.place none c.requires
    (λ within. ne_eqb (get_or c.args.leases.now c.place_for-place.result none).lease.0 c.args.lease.0 c.if-leases-place.false))
