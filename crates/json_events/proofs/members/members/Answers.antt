use Rattle.std.proofs.Common.{sym, true≢false}
use Rattle.std.proofs.lemmas.Result.{err_from_is_err_and}
use Rattle.json_events.proofs.Memberships.{no_members}
use Rattle.json_events.proofs.members.members.Goals as goal

pub returns-in_err-found-clause-refused : goal.returns-in_err-found-clause-refused
returns-in_err-found-clause-refused c =
    let p = err_from_is_err_and c.from_residual.result c.from_residual.ensures.1 in
    rw (p.1, p.2) (λ real ms are. c.in_err-found.ensures.refused real ms are.0)

pub returns-in-None-clause-refused : goal.returns-in-None-clause-refused
returns-in-None-clause-refused c = λ real. no_members _ _ c.in_ok-found.ensures.ok (λ is. true≢false (sym (c.in-None.ensures.accepted.1 is)))
