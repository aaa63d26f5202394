use Rattle.std.proofs.Common.{map, string_bytes, sym, ◌∙◌}
use Rattle.fabric_core.specs.declared.event.Event.TheVariants.{Submit}
use Rattle.cli_session.specs.Replies.{reply_text}
use Rattle.cli_session.specs.Running.{IsNamed}
use Rattle.cli_session.specs.Stages.{IsStepOf, Stay, stage_at}
use Rattle.cli_session.proofs.Steps.{does_by, lost_stops}
use Rattle.cli_session.proofs.session.Session.submit_endorsed.Goals as goal

pub returns-in-Some-clause-does : goal.returns-in-Some-clause-does
returns-in-Some-clause-does g c =
    let e = c.in-Some.envelope in
    does_by (IsStepOf (Submit e) reply_text Stay) (IsNamed (map string_bytes c.args.names.now)) c.step.result
    (stage_at c.args.self.now.system c.args.self.now.bindings)
    (stage_at c.step.new.self.system c.step.new.self.bindings)
    c.args.out.now c.step.new.out
    (λ told text s. record { envelope = e; named = sym c.in_ok-found.ensures ∙ c.in-Some.is; step = s }) c.step.ensures.does

pub returns-in-Some-clause-stops : goal.returns-in-Some-clause-stops
returns-in-Some-clause-stops g c = lost_stops c.step.result c.args.number _ c.args.out.now c.step.new.out c.step.ensures.lost
