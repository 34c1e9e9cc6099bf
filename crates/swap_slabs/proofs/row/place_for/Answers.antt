use Rattle.std.proofs.Common.{rules}
use Rattle.std.proofs.lemmas.List.Sorted.{IsPartitionPoint-from_clause, IsPartitionedBy-ltb}
use Rattle.swap_slabs.specs.Rows.{number_of, is_below}
use Rattle.swap_slabs.proofs.row.place_for.Goals as goal

pub returns-clause-place : goal.returns-clause-place
returns-clause-place c =
    IsPartitionPoint-from_clause (is_below c.args.lease) c.args.leases.now c.partition_point.result c.partition_point.ensures.partitioned
    (IsPartitionedBy-ltb number_of c.args.leases.now c.args.lease.0 c.requires) (λ a r q k. search rules)
