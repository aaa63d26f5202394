use Rattle.std.proofs.lemmas.Result.{err_from_is_err_and}
use Rattle.cli_session.proofs.session.Session.run_lines.Goals as goal

pub returns-in_err-do_lines-clause-stops : goal.returns-in_err-do_lines-clause-stops
returns-in_err-do_lines-clause-stops g c =
    let p = err_from_is_err_and c.from_residual.result c.from_residual.ensures.1 in
    rw (p.1, p.2) c.in_err-do_lines.ensures.stops
