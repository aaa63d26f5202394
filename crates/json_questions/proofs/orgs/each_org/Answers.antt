use Rattle.std.proofs.lemmas.Result.{err_from_is_err_and}
use Rattle.json_fields.proofs.ReadItems.{AreItems-more}
use Rattle.json_questions.specs.Spelling.{IsOrg}
use Rattle.json_questions.proofs.OrgLists.{no_item}
use Rattle.json_questions.proofs.orgs.each_org.Goals as goal

pub returns-in_err-org-clause-refused : goal.returns-in_err-org-clause-refused
returns-in_err-org-clause-refused c =
    let p = err_from_is_err_and c.from_residual.result c.from_residual.ensures.1 in
    rw (p.1, p.2) (no_item _ _ c.value-item.result _ c.items-test.true c.value-item.is c.in_err-org.ensures.refused)

pub items-preserved : goal.items-preserved
items-preserved c =
    let is = c.in_ok-org.ensures.ok in
    rw c.in_ok-push.ensures.items (AreItems-more IsOrg _ _ _ c.value-item.result _ c.items.invariant c.items-test.true c.value-item.is is)
