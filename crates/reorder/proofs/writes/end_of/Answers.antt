use Rattle.std.proofs.Common.{rules}
use Rattle.std.specs.Ordering.{is_le}
use Rattle.std.proofs.lemmas.List.Sorted.{IsPartitionPoint-from_clause}
use Rattle.fab_types.specs.Order.{key_cmp}
use Rattle.reorder.specs.KeyWrites.{key_of}
use Rattle.reorder.proofs.Tables.{le_parted}
use Rattle.reorder.proofs.writes.end_of.Goals as goal

pub returns-clause-point : goal.returns-clause-point
returns-clause-point c =
    IsPartitionPoint-from_clause (λ w. is_le (key_cmp w.key.now c.args.key.now)) _ _ c.partition_point.ensures.partitioned (le_parted key_of _ _ c.requires)
    (λ a r q k. search rules)
