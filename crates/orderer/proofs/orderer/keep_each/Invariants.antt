use Rattle.std.proofs.Common.{◌≡◌, ◌≤◌, ◌+◌, ◌++◌, length}
use Rattle.std.specs.Vec.Iter.{into_iter_items}
use Rattle.std.specs.Vec.{vec_capacity, vec_len}
use Rattle.orderer.specs.Headers.{blocks_made, reports_made}
use Rattle.orderer.proofs.orderer.keep_each.Given as goal

abbrev pub invariant-made : goal.invariant-made
invariant-made l = record {
  room : length l.blocks.items + length (into_iter_items l.each-iterator) ≤ vec_capacity l.blocks;
  fits : length (into_iter_items l.each-iterator) + vec_len l.reports ≤ vec_capacity l.reports;
  blocks : l.blocks.items ≡ l.fn.blocks.items ++ blocks_made l.yielded;
  reports : l.reports.items ≡ reports_made l.yielded;
}
