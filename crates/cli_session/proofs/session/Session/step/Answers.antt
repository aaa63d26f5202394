use Rattle.cli_session.specs.Replies.{reply_text}
use Rattle.cli_session.specs.Stages.{Stay, stage_at}
use Rattle.cli_session.proofs.Steps.{step_printed, names_stay}
use Rattle.cli_session.proofs.session.Session.step.Goals as goal

pub returns-clause-does : goal.returns-clause-does
returns-clause-does g c =
    let reply = c.reply_to-reply in
    let told = c.print_step-told in
    step_printed told.result reply.result c.args.event reply_text Stay
    (stage_at c.args.self.now.system c.args.self.now.bindings)
    (stage_at reply.new.self.system reply.new.self.bindings)
    c.args.out.now told.new.out
    reply.ensures.step (names_stay told.result reply.result c.args.self.now.bindings reply.new.self.bindings reply.ensures.names) told.ensures.prints
