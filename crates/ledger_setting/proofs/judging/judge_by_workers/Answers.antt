use Rattle.world_state.proofs.Keeping.{kept_is}
use Rattle.ledger_setting.proofs.judging.judge_by_workers.Goals as goal

pub returns-clause-judged : goal.returns-clause-judged
returns-clause-judged g c = c.judge_behind_by_workers.ensures.judged c.args.snapshot.now (kept_is c.args.snapshot.now)

pub returns-clause-refused : goal.returns-clause-refused
returns-clause-refused g c = c.judge_behind_by_workers.ensures.refused c.args.snapshot.now (kept_is c.args.snapshot.now)
