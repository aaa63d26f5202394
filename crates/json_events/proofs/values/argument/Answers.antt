use Rattle.std.proofs.Common.{sym, true≢false}
use Rattle.json_events.proofs.Arguments.{no_argument}
use Rattle.json_events.proofs.values.argument.Goals as goal

pub returns-in-None-clause-refused : goal.returns-in-None-clause-refused
returns-in-None-clause-refused c = λ real. no_argument _ _ c.in_ok-bytes_for.ensures.ok (λ is. true≢false (sym (c.in-None.ensures.accepted.1 is)))
