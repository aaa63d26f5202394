use Rattle.std.proofs.Common.{rules}
use Rattle.std.proofs.lemmas.List.Sorted.{IsPartitionPoint-from_clause}
use Rattle.fab_types.specs.Order.{is_before}
use Rattle.host_api.proofs.Halves.{parted, place_is}
use Rattle.host_api.proofs.keyed.count_before.Goals as goal

pub returns : goal.returns
returns g c =
    let key_of = g.T.Keyed.key_of in
    let key = c.args.key.now in
    place_is key_of key c.args.items.now c.partition_point.result c.partition_point.ensures.bound
    (IsPartitionPoint-from_clause (λ x. is_before (key_of x) key) _ _ c.partition_point.ensures.partitioned (parted key_of key c.args.items.now c.requires)
    (λ a r q k. search rules))
