use Rattle.std.proofs.Common.{◌≡◌, ◌+◌, ◌<◌, ◌≤◌, ◌^◌, Option, ◌++◌, drop, length, take}
use Rattle.std.specs.List.{AllByRecursion, flat_map, zip}
use Rattle.ledger_model.specs.Chain.{Bytes, Chain}
use Rattle.store_devices.specs.Places.{ends_of}
use Rattle.checkpoint.specs.Checkpoint.{sized_hash_bytes, sizes_of}
use Rattle.checkpoint.specs.Hashing.{IsSoFar}
use Rattle.checkpoint.specs.Within.{IsHash}
use Rattle.checkpoint.proofs.writing.put_sized.Given as goal

abbrev pub invariant-loop-place : goal.invariant-loop-place
invariant-loop-place g l = record {
  text : (chain : Chain) → l.fn.places ≡ ends_of chain → l.before + length l.hashes ≤ length chain → length chain < 2 ^ 32 →
      (old : Option Bytes) (text : Bytes) → IsSoFar old (g.W.Write.contents l.fn.out) l.fn.hashing text →
      IsSoFar old (g.W.Write.contents l.out) l.hashing (text ++ flat_map sized_hash_bytes (take l.place (zip l.hashes (drop l.before (sizes_of chain)))));
  within : AllByRecursion IsHash (take l.place l.hashes);
}
