use Rattle.world_state.proofs.Keeping.{kept_is}
use Rattle.ledger_setting.proofs.judging.judge.Goals as goal

pub returns-clause-judged : goal.returns-clause-judged
returns-clause-judged c = c.judge_behind.ensures.judged c.args.snapshot.now (kept_is c.args.snapshot.now)

pub returns-clause-refused : goal.returns-clause-refused
returns-clause-refused c = c.judge_behind.ensures.refused c.args.snapshot.now (kept_is c.args.snapshot.now)
