use Rattle.cli_session.proofs.Printed.{begin_other, prints_as}
use Rattle.cli_session.proofs.lines.print_begin.Goals as goal

pub returns-in_default-clause-prints : goal.returns-in_default-clause-prints
returns-in_default-clause-prints g c =
    let p = c.print_reply in
    prints_as p.result c.args.out.now p.new.out _ _ (begin_other c.args.peer c.args.seat c.args.reply.now c.in_default.not-Begun) p.ensures.prints
