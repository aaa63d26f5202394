use Rattle.std.proofs.Common.{◌≡◌, ◌≤◌, ◌+◌, ◌++◌, length}
use Rattle.std.specs.List.{AllByRecursion, AllZip}
use Rattle.std.specs.Vec.Iter.{into_iter_items}
use Rattle.std.specs.Vec.{vec_capacity, vec_len}
use Rattle.ledger_setting.specs.Rule.{table_of}
use Rattle.log_orderer.specs.Handed.{blocks_of}
use Rattle.log_committer.specs.Committing.{ReceivesAll}
use Rattle.log_peer.specs.Peering.{HaveNumbers, IsBatchOf, IsJoinedIn, told_of}
use Rattle.log_peer.specs.Holding.{Grows, HoldsRecords}
use Rattle.log_peer.specs.Storing.{IsStored, file_of, rules_of, stored_chain}
use Rattle.log_peer.proofs.peering.receive_each.Given as goal

abbrev pub invariant-batches : goal.invariant-batches
invariant-batches g l = record {
  stored : IsStored l.chain;
  rules : rules_of l.chain ≡ rules_of l.fn.chain;
  failures : l.chain.file.history.failures ≡ l.fn.chain.file.history.failures;
  split : l.fn.batches.items ≡ l.yielded ++ into_iter_items l.batch-iterator;
  fits : length (into_iter_items l.batch-iterator) + vec_len l.told ≤ vec_capacity l.told;
  batches : AllZip IsBatchOf l.yielded l.told.items;
  joined : HaveNumbers l.fn.batches.items → AllByRecursion (IsJoinedIn (stored_chain l.chain)) l.told.items;
  received : ReceivesAll (table_of (rules_of l.fn.chain)) (stored_chain l.fn.chain) (blocks_of l.yielded) (told_of l.told.items) (stored_chain l.chain);
  holds : HoldsRecords (g.D.Write.contents (file_of l.fn.chain)) (stored_chain l.fn.chain) →
      HoldsRecords (g.D.Write.contents (file_of l.chain)) (stored_chain l.chain);
  grows : Grows (g.D.Write.contents (file_of l.fn.chain)) (g.D.Write.contents (file_of l.chain));
}
