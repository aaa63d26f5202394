use Rattle.std.proofs.Common.{◌≡◌, ◌≤◌, ◌+◌, ◌++◌, length, take}
use Rattle.std.specs.Vec.{vec_capacity}
use Rattle.orderer.specs.Headers.{blocks_made, hashes_of}
use Rattle.orderer.proofs.maker.keep.Given as goal

abbrev pub invariant-loop-each : goal.invariant-loop-each
invariant-loop-each l = record {
  hashes : l.hashes.items ≡ l.fn.hashes.items ++ hashes_of (blocks_made (take l.each-index l.made));
  chain : l.chain.blocks ≡ l.fn.chain.blocks ++ blocks_made (take l.each-index l.made);
  room : length l.hashes.items + length l.made ≤ vec_capacity l.hashes + l.each-index;
}
