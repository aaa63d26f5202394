use Rattle.std.proofs.Common.{◌≡◌, ◌++◌, List, length}
use Rattle.fab_types.specs.Committed.{Committed}
use Rattle.kept_state.specs.Keeping.{IsKept, chain_of}
use Rattle.ledger_setting.specs.Rule.{table_of}
use Rattle.store_replay.specs.Lawful.{AreLawful}
use Rattle.store_replay.specs.Tags.{IsKnown}
use Rattle.store_replay.proofs.rechecking.recommit_kept.Given as goal

abbrev pub invariant-records : goal.invariant-records
invariant-records g l = record {
  done : List Committed;
  all : l.fn.records.items ≡ done ++ l.pending.records.items;
  kept : IsKept l.chain;
  chain : chain_of l.chain ≡ chain_of l.fn.chain ++ done;
  lawful : AreLawful (table_of l.rules) (chain_of l.fn.chain) done;
  known : IsKnown l.rules l.pending;
}

abbrev pub decreases-records : goal.decreases-records
decreases-records g l = length l.pending.records.items
