use Rattle.std.proofs.Common.{ℕ, List, IfErr, subst}
use Rattle.cli_lines.specs.Opening.{AreNoModules}
use Rattle.ledger_cli.proofs.opening.held.Goals as goal

pub returns-in-Ok-clause-refused : goal.returns-in-Ok-clause-refused
returns-in-Ok-clause-refused c =
    rw c.in-Ok.is (subst (λ (xs : List ℕ). IfErr c.modules_in.result (AreNoModules xs)) c.deref.ensures.value c.modules_in.ensures.refused)
