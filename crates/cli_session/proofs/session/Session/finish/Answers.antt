use Rattle.std.proofs.Common.{string_bytes}
use Rattle.fabric_core.specs.declared.event.Event.TheVariants.{Finish}
use Rattle.cli_session.specs.Replies.{finish_text}
use Rattle.cli_session.specs.Stages.{Gets, stage_at}
use Rattle.cli_session.proofs.Steps.{step_named}
use Rattle.cli_session.proofs.session.Session.finish.Goals as goal

pub returns-in-Ok-clause-does : goal.returns-in-Ok-clause-does
returns-in-Ok-clause-does g c =
    let name = string_bytes c.args.name in
    let r = c.reply_to in
    let told = c.take_reply in
    step_named told.result c.in-Ok.reply (Finish c.args.peer c.args.seat) (finish_text name) (Gets name)
    (stage_at c.args.self.now.system c.args.self.now.bindings)
    (stage_at r.new.self.system r.new.self.bindings)
    (stage_at told.new.self.system told.new.self.bindings) c.args.out.now told.new.out
    c.in-Ok.ensures.step c.in-Ok.ensures.names told.ensures.system told.ensures.names told.ensures.prints
