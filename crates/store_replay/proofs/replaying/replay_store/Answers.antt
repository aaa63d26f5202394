use Rattle.std.proofs.Common.{rules, [], refl, subst, sym, ap, ◌∙◌}
use Rattle.endorsement_policy.specs.Listed.{Listed}
use Rattle.kept_state.specs.Keeping.{chain_of}
use Rattle.ledger_model.specs.Chain.{Chain}
use Rattle.ledger_setting.specs.Rule.{table_of}
use Rattle.store_replay.specs.Replay.{Replays}
use Rattle.store_replay.proofs.Counted.{all_counted}
use Rattle.store_replay.proofs.replaying.replay_store.Goals as goal

pub read_into-requires : goal.read_into-requires
read_into-requires g c = record {
  none = (
    record { is_sync = search rules; kept = c.empty.ensures.kept; count = search rules; replays = (c.empty.ensures.chain, refl, refl) },
    subst (λ (chain : Chain). g.S.BlockSink.Took c.args.sink chain) (sym c.empty.ensures.chain) c.requires.none,
  );
}

pub returns-clause-replayed : goal.returns-clause-replayed
returns-clause-replayed g c =
    let took = c.in_ok-read.ensures.took in
    let has = took.1.0 in
    let progress = c.read_into.new.sink.progress in
    let before = g.R.CountedRead.taken c.args.reader.now in
    let now = g.R.CountedRead.taken c.read_into.new.reader in
    let same = ap (λ (p : Listed × _). p.0) c.in_ok-read.ensures.context ∙ c.deref-rules.ensures in
    record {
      bytes = took.2.bytes;
      records = took.0;
      read = took.2.read;
      gives = took.2.gives;
      count = all_counted before now took.0 c.in_ok-read.read.end c.read_into.new.sink.blocks took.2 has.count;
      kept = has.kept;
      replays = subst (λ (l : Listed). Replays (table_of l) [] took.0 (chain_of progress.chain) progress.differs progress.refused) same has.replays;
    }

pub returns-clause-store : goal.returns-clause-store
returns-clause-store g c =
    let took = c.in_ok-read.ensures.took in
    let has = took.1.0 in
    let progress = c.read_into.new.sink.progress in
    let before = g.R.CountedRead.taken c.args.reader.now in
    let now = g.R.CountedRead.taken c.read_into.new.reader in
    let same = ap (λ (p : Listed × _). p.0) c.in_ok-read.ensures.context ∙ c.deref-rules.ensures in (
      took.4.bytes,
      took.4.held,
      record {
        records = took.0;
        gives = took.4.gives;
        count = all_counted before now took.0 c.in_ok-read.read.end c.read_into.new.sink.blocks took.2 has.count;
        kept = has.kept;
        replays = subst (λ (l : Listed). Replays (table_of l) [] took.0 (chain_of progress.chain) progress.differs progress.refused) same has.replays;
      },
    )
