use Rattle.std.proofs.lemmas.Result.{MatchResult-weaker}
use Rattle.wasm_typing.proofs.shapes.check_select.Goals as goal

pub returns-in-Some-clause-refused : goal.returns-in-Some-clause-refused
returns-in-Some-clause-refused c = MatchResult-weaker c.push.result c.push.ensures.refused (λ x k. k) (λ e is. rw is tt)
