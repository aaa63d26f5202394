use Rattle.std.proofs.lemmas.Result.{err_from_is_err_and}
use Rattle.json_fields.proofs.ReadItems.{AreItems-more}
use Rattle.json_genesis.proofs.Items.{NoneIs-items}
use Rattle.json_genesis.proofs.each.read_each.Goals as goal

pub returns-in_err-read-clause-refused : goal.returns-in_err-read-clause-refused
returns-in_err-read-clause-refused g c =
    let p = err_from_is_err_and c.from_residual.result c.from_residual.ensures.1 in
    rw (p.1, p.2) (NoneIs-items _ _ _ c.value-item.result _ c.items-test.true c.value-item.is c.in_err-read.ensures.refused)

pub items-preserved : goal.items-preserved
items-preserved g c =
    rw c.in_ok-push.ensures.items (AreItems-more _ _ _ _ c.value-item.result _ c.items.invariant c.items-test.true c.value-item.is c.in_ok-read.ensures.ok)
