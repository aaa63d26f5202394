use Rattle.std.proofs.Common.{◌≤◌, length, arith}
use Rattle.std.proofs.lemmas.Result.{IfOk-weaker}
use Rattle.json_events.proofs.Texts.{texts_length}
use Rattle.json_events.proofs.values.names.Goals as goal

pub returns-then-items-gt-MOST_NAMES-clause-refused : goal.returns-then-items-gt-MOST_NAMES-clause-refused
returns-then-items-gt-MOST_NAMES-clause-refused c = λ real xs h.
    let n = texts_length _ xs h.0 in
    omega (arith, n, h.2)

pub returns-clause-ok : goal.returns-clause-ok
returns-clause-ok c =
    let items = c.args.items.now in
    let some : 1 ≤ length items = grind arith in
    let few : length items ≤ 32 = omega arith in
    IfOk-weaker c.texts.result _ _ (λ v are. let n = texts_length _ _ are in (are, omega (arith, n, some), omega (arith, n, few))) c.texts.ensures.ok
