use Rattle.std.proofs.Common.{rules, ◌≡◌, ◌≢◌, ◌^◌, ◌-◌, ◌∙◌, [], None, Option, length, subst, sym, vec_len}
use Rattle.committer.specs.declared.refusal.CommitRefusal.{CommitRefusal}
use Rattle.kept_state.specs.Keeping.{chain_of}
use Rattle.ledger_setting.specs.Rule.{table_of}
use Rattle.store_replay.specs.Replay.{Replays}
use Rattle.store_replay.proofs.Counted.{count_more}
use Rattle.store_replay.proofs.Going.{stopped_before}
use Rattle.store_replay.proofs.replaying.ReplayingRecordSink.take.Goals as goal

pub commit_all-requires-sync-T : goal.commit_all-requires-sync-T
commit_all-requires-sync-T g c κs within = c.requires.1.0.is_sync

pub commit_all-requires-clause-kept : goal.commit_all-requires-clause-kept
commit_all-requires-clause-kept g c κs within = c.requires.1.0.kept

pub commit_all-requires-clause-took : goal.commit_all-requires-clause-took
commit_all-requires-clause-took g c κs within = c.requires.1.1

pub returns-in_ok-commit_all-clause-took : goal.returns-in_ok-commit_all-clause-took
returns-in_ok-commit_all-clause-took g c = λ before was.
    let rule = table_of c.args.self.now.rules.now in
    let old = c.args.self.now.progress in
    let none : old.refused ≡ None = search rules in
    let len : length c.args.records.items ≡ vec_len c.args.records = search rules in
    let replays = subst (λ (r : Option CommitRefusal). Replays rule [] before (chain_of old.chain) old.differs r) none was.0.replays in (
      record {
        is_sync = was.0.is_sync;
        kept = c.in_ok-commit_all.ensures.kept;
        count = count_more (2 ^ 64 - 1) c.args.self.now.blocks c.saturating_add-self.result c.len.result before c.args.records.items was.0.count
            (c.len.ensures ∙ sym len)
            c.saturating_add-self.ensures;
        replays = c.in_ok-commit_all.ensures.replays before replays;
      },
      c.in_ok-commit_all.ensures.took,
    )

pub returns-else-is_none-clause-took : goal.returns-else-is_none-clause-took
returns-else-is_none-clause-took g c = λ before was.
    let rule = table_of c.args.self.now.rules.now in
    let old = c.args.self.now.progress in
    let some : old.refused ≢ None = search rules in
    let len : length c.args.records.items ≡ vec_len c.args.records = search rules in (
      record {
        is_sync = was.0.is_sync;
        kept = was.0.kept;
        count = count_more (2 ^ 64 - 1) c.args.self.now.blocks c.saturating_add-self.result c.len.result before c.args.records.items was.0.count
            (c.len.ensures ∙ sym len)
            c.saturating_add-self.ensures;
        replays = stopped_before rule before c.args.records.items (chain_of old.chain) old.differs old.refused some was.0.replays;
      },
      was.1,
    )
