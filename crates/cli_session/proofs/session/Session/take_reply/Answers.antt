use Rattle.std.proofs.Common.{string_bytes}
use Rattle.cli_session.specs.Stages.{Gets}
use Rattle.cli_session.proofs.Printed.{finish_other, gets_other, prints_as}
use Rattle.cli_session.proofs.Steps.{any_ok}
use Rattle.cli_session.proofs.session.Session.take_reply.Goals as goal

pub returns-in_default-clause-names : goal.returns-in_default-clause-names
returns-in_default-clause-names g c =
    let name = string_bytes c.args.name in
    let bindings = c.args.self.now.bindings in
    any_ok c.print_reply-told.result (Gets name c.args.reply bindings bindings) (gets_other name c.args.reply bindings c.in_default.not-Endorsed)

pub returns-in_default-clause-prints : goal.returns-in_default-clause-prints
returns-in_default-clause-prints g c =
    let p = c.print_reply-told in
    prints_as p.result c.args.out.now p.new.out _ _ (finish_other (string_bytes c.args.name) c.args.reply c.in_default.not-Endorsed) p.ensures.prints
