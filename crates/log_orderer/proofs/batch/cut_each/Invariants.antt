use Rattle.std.proofs.Common.{◌≡◌, ◌≤◌, ◌+◌, [], length}
use Rattle.std.specs.Vec.Iter.{into_iter_items}
use Rattle.std.specs.Vec.{vec_capacity, vec_len}
use Rattle.log_orderer.specs.Cutting.{AreCut, AreFront, HaveRoom}
use Rattle.orderer.specs.Headers.{reports_made}
use Rattle.log_orderer.proofs.Handing.{blocks_each, blocks_in}
use Rattle.log_orderer.proofs.batch.cut_each.Given as goal

abbrev pub invariant-made : goal.invariant-made
invariant-made l = record {
  front : AreFront (reports_made (into_iter_items l.each-iterator)) l.waiting.items;
  room : HaveRoom (reports_made (into_iter_items l.each-iterator)) (vec_capacity l.ids);
  empty : l.ids.items ≡ [];
  fits : length (into_iter_items l.each-iterator) + vec_len l.batches ≤ vec_capacity l.batches;
  cut : AreCut (reports_made l.yielded) l.fn.waiting.items l.batches.items l.waiting.items;
  blocks : blocks_in l.batches.items ≡ blocks_each l.yielded;
}
