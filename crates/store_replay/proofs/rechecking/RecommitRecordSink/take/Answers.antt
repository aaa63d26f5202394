use Rattle.std.proofs.Common.{◌≡◌, ◌≢◌, None, rules}
use Rattle.ledger_setting.specs.Rule.{table_of}
use Rattle.store_replay.proofs.Recommitted.{more_lawful, more_refused, refused_before}
use Rattle.store_replay.proofs.rechecking.RecommitRecordSink.take.Goals as goal

pub recommit_kept-requires-sync-T : goal.recommit_kept-requires-sync-T
recommit_kept-requires-sync-T g c κs within = c.requires.1.is_sync

pub returns-in-Ok-clause-took : goal.returns-in-Ok-clause-took
returns-in-Ok-clause-took g c = λ before was.
    let rule = table_of c.args.self.now.rules.now in
    let none : c.args.self.now.refused ≡ None = search rules in
    record {
      is_sync = was.is_sync;
      recommitted = more_lawful rule c.args.self.now.chain c.recommit_kept.new.chain c.args.self.now.refused before c.args.records.items none
          was.recommitted c.in-Ok.ensures.kept c.in-Ok.ensures.chain c.in-Ok.ensures.lawful;
    }

pub returns-in-Err-clause-took : goal.returns-in-Err-clause-took
returns-in-Err-clause-took g c = λ before was.
    let rule = table_of c.args.self.now.rules.now in
    let none : c.args.self.now.refused ≡ None = search rules in
    record {
      is_sync = was.is_sync;
      recommitted = more_refused rule c.args.self.now.chain c.args.self.now.refused before c.args.records.items _ c.in-Err.refusal none
          was.recommitted c.in-Err.ensures.refused;
    }

pub returns-else-is_none-clause-took : goal.returns-else-is_none-clause-took
returns-else-is_none-clause-took g c = λ before was.
    let rule = table_of c.args.self.now.rules.now in
    let some : c.args.self.now.refused ≢ None = search rules in
    record {
      is_sync = was.is_sync;
      recommitted = refused_before rule c.args.self.now.chain c.args.self.now.refused before c.args.records.items some was.recommitted;
    }
