use Rattle.std.proofs.Common.{◌≢◌, [], inl, inr, refl}
use Rattle.fabric_core.specs.declared.event.Event.TheVariants.{Submit}
use Rattle.wire.specs.FaultNumbers.{number_of}
use Rattle.wire.specs.declared.fault.WireFault.TheVariants.{Memory}
use Rattle.cli_lines.specs.Texts.{line, refused}
use Rattle.cli_lines.specs.Told.{Prints}
use Rattle.cli_lines.proofs.Printing.{printed_on_ok}
use Rattle.cli_session.specs.Replies.{reply_text}
use Rattle.cli_session.specs.Running.{IsBytes}
use Rattle.cli_session.specs.Stages.{DoesPrint, IsStepOf, Stay, stage_at}
use Rattle.cli_session.proofs.Steps.{does_by}
use Rattle.cli_session.proofs.session.Session.submit_bytes.Goals as goal

pub returns-in-Ok-clause-does : goal.returns-in-Ok-clause-does
returns-in-Ok-clause-does g c =
    let e = c.in-Ok.envelope in
    does_by (IsStepOf (Submit e) reply_text Stay) (IsBytes c.args.bytes.now) c.step.result
    (stage_at c.args.self.now.system c.args.self.now.bindings)
    (stage_at c.step.new.self.system c.step.new.self.bindings)
    c.args.out.now c.step.new.out
    (λ told text s. inl (record { envelope = e; known = c.in-Ok.ensures.spelled.0; spelled = c.in-Ok.ensures.spelled.1; step = s })) c.step.ensures.does

pub returns-in-Err-clause-does : goal.returns-in-Err-clause-does
returns-in-Err-clause-does g c =
    let f = c.in-Err.fault in
    let p = c.print_fault in
    let s = stage_at c.args.self.now.system c.args.self.now.bindings in
    printed_on_ok p.result ((f ≢ Memory) × Prints c.args.out.now p.new.out (line (refused (number_of f))))
    (DoesPrint (IsBytes c.args.bytes.now) s s c.args.out.now p.new.out)
    (λ h. (
      [],
      line (refused (number_of f)),
      inr (record { fault = f; found = h.0; says = c.in-Err.ensures.fault; none = refl; prints = refl; same = refl }),
      h.1,
    )) p.ensures.prints
