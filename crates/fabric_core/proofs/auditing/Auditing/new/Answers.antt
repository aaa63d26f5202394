use Rattle.std.proofs.Common.{rules}
use Rattle.fabric_core.proofs.Audits.{none_audited}
use Rattle.fabric_core.proofs.auditing.Auditing.new.Goals as goal

pub returns : goal.returns
returns c = λ exec.
    let none = none_audited exec in
    search rules
