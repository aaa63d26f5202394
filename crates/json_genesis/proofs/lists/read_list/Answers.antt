use Rattle.std.proofs.Common.{arith}
use Rattle.std.proofs.lemmas.Result.{IfErr-weaker, IfOk-weaker}
use Rattle.json_genesis.proofs.Items.{IsListOf-read, NoneIs-count, NoneIs-list}
use Rattle.json_genesis.proofs.lists.read_list.Goals as goal

pub returns-then-values-least-clause-refused : goal.returns-then-values-least-clause-refused
returns-then-values-least-clause-refused g c =
    (λ e. cc, λ real xs. NoneIs-count _ _ _ _ _ xs c.in-Some.ensures (λ w. grind (arith, c.then-values-least.either)))

pub returns-clause-ok : goal.returns-clause-ok
returns-clause-ok g c =
    IfOk-weaker c.read_each.result _ _ (λ v are. IsListOf-read _ _ _ _ _ _ c.in-Some.ensures (omega arith) (omega arith) are) c.read_each.ensures.ok

pub returns-clause-refused : goal.returns-clause-refused
returns-clause-refused g c =
    IfErr-weaker c.read_each.result _ _ (λ r none. NoneIs-list _ _ _ _ _ r c.in-Some.ensures none) c.read_each.ensures.refused
