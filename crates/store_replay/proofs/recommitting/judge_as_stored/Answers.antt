use Rattle.std.proofs.Common.{◌∙◌}
use Rattle.ledger_setting.specs.Rule.{table_of}
use Rattle.store_replay.proofs.recommitting.judge_as_stored.Goals as goal

pub returns-in-Err-clause-refused : goal.returns-in-Err-clause-refused
returns-in-Err-clause-refused g c = λ chain kept.
    c.refused.ensures (table_of c.args.rules.now) chain c.args.stored.now (c.height-in-Err.ensures.value ∙ kept.height) (c.in-Err.ensures.refused chain kept)
