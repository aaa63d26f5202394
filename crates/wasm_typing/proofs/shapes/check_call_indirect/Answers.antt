use Rattle.std.proofs.lemmas.Result.{MatchResult-weaker}
use Rattle.wasm_typing.proofs.shapes.check_call_indirect.Goals as goal

pub returns-clause-refused : goal.returns-clause-refused
returns-clause-refused c = MatchResult-weaker c.push_result.result c.push_result.ensures.refused (λ x k. k) (λ e is. rw is tt)

pub returns-clause-keeps : goal.returns-clause-keeps
returns-clause-keeps c = MatchResult-weaker c.push_result.result c.push_result.ensures.refused (λ x k. k) (λ e is. rw is tt)
