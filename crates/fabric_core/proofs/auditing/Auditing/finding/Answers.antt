use Rattle.std.proofs.Common.{Option, subst}
use Rattle.host_api.specs.Plain.{plain_of}
use Rattle.fabric_core.specs.Audit.{Audit, AuditSays, or_else}
use Rattle.ledger_setting.specs.declared.verdict.Audit.TheVariants as audit
use Rattle.fabric_core.proofs.Audits.{audited}
use Rattle.fabric_core.proofs.auditing.Auditing.finding.Goals as goal

pub returns-in-Some : goal.returns-in-Some
returns-in-Some c = λ exec chain is.
    let at = c.args.self.now in
    subst (λ (f : Option Audit). AuditSays exec chain (or_else f (audit.Agrees at.run.reruns))) c.in-Some.is
    (audited exec (plain_of at.run.state) at.run.reruns at.found chain is)

pub returns-in-None : goal.returns-in-None
returns-in-None c = λ exec chain is.
    let at = c.args.self.now in
    subst (λ (f : Option Audit). AuditSays exec chain (or_else f (audit.Agrees at.run.reruns))) c.in-None.is
    (audited exec (plain_of at.run.state) at.run.reruns at.found chain is)
