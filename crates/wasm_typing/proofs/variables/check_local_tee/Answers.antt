use Rattle.std.proofs.lemmas.Result.{MatchResult-weaker}
use Rattle.wasm_typing.proofs.variables.check_local_tee.Goals as goal

pub returns-in_ok-pop_as-in-Some-clause-refused : goal.returns-in_ok-pop_as-in-Some-clause-refused
returns-in_ok-pop_as-in-Some-clause-refused c = MatchResult-weaker c.push.result c.push.ensures.refused (λ x k. k) (λ e is. rw is tt)

pub returns-in_ok-pop_as-in-Some-clause-keeps : goal.returns-in_ok-pop_as-in-Some-clause-keeps
returns-in_ok-pop_as-in-Some-clause-keeps c = MatchResult-weaker c.push.result c.push.ensures.refused (λ x k. k) (λ e is. rw is tt)
