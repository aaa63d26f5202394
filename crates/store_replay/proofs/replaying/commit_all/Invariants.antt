use Rattle.std.proofs.Common.{◌≡◌, ◌++◌, [], None, List, length}
use Rattle.fab_types.specs.Committed.{Committed}
use Rattle.kept_state.specs.Keeping.{IsKept, chain_of}
use Rattle.ledger_setting.specs.Rule.{table_of}
use Rattle.store_replay.specs.Replay.{Replays}
use Rattle.store_replay.specs.Tags.{IsKnown}
use Rattle.store_replay.proofs.replaying.commit_all.Given as goal

abbrev pub invariant-records : goal.invariant-records
invariant-records g l = record {
  done : List Committed;
  all : l.fn.records.items ≡ done ++ l.pending.records.items;
  fits : l.progress.refused ≡ None;
  kept : IsKept l.progress.chain;
  replays : (cs : List Committed) → Replays (table_of l.rules) [] cs (chain_of l.fn.progress.chain) l.fn.progress.differs None →
      Replays (table_of l.rules) [] (cs ++ done) (chain_of l.progress.chain) l.progress.differs None;
  took : g.S.BlockSink.Took l.progress.sink (chain_of l.progress.chain);
  context : g.S.BlockSink.context l.progress.sink ≡ g.S.BlockSink.context l.fn.progress.sink;
  known : IsKnown l.rules l.pending;
}

abbrev pub decreases-records : goal.decreases-records
decreases-records g l = length l.pending.records.items
