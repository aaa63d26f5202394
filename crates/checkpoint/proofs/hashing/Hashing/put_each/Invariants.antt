use Rattle.std.proofs.Common.{Option, ◌++◌, take}
use Rattle.std.specs.List.{AllByRecursion, flat_map}
use Rattle.ledger_model.specs.Chain.{Bytes}
use Rattle.checkpoint.specs.Hashing.{IsSoFar}
use Rattle.checkpoint.proofs.hashing.Hashing.put_each.Given as goal

abbrev pub invariant-loop-item : goal.invariant-loop-item
invariant-loop-item g l = record {
  text : (old : Option Bytes) (text : Bytes) → IsSoFar old (g.W.Write.contents l.fn.out) l.fn.self text →
      IsSoFar old (g.W.Write.contents l.out) l.self (text ++ flat_map g.T.Item.spelling (take l.item-index l.items));
  within : AllByRecursion g.T.Item.within (take l.item-index l.items);
}
