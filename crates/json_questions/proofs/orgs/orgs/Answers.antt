use Rattle.std.proofs.lemmas.Result.{err_from_is_err_and}
use Rattle.std.proofs.Common.{sym, true≢false}
use Rattle.json_questions.proofs.OrgLists.{no_orgs}
use Rattle.json_questions.proofs.orgs.orgs.Goals as goal

pub returns-in_err-found-clause-refused : goal.returns-in_err-found-clause-refused
returns-in_err-found-clause-refused c =
    let p = err_from_is_err_and c.from_residual.result c.from_residual.ensures.1 in
    rw (p.1, p.2) (λ real names are. c.in_err-found.ensures.refused real names are.0)

pub returns-in-None-clause-refused : goal.returns-in-None-clause-refused
returns-in-None-clause-refused c = λ real. no_orgs _ _ c.in_ok-found.ensures.ok (λ few. true≢false (sym (c.in-None.ensures.accepted.1 few)))
