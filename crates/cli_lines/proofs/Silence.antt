-- A failure that says nothing of what was told.
use Rattle.std.proofs.Math.Nat.{le_refl, le_trans}
use Rattle.cli_lines.specs.Told.{Told, IsMore, Says, IsSilent}
use Rattle.cli_lines.specs.declared.failure.Failure.{Failure}

pub no_less : (t : Told) → IsMore t t
no_less t = record { prints = le_refl _; fails = λ h. h }

pub and_more : (t u v : Told) → IsMore t u → IsMore u v → IsMore t v
and_more t u v first next = record { prints = le_trans first.prints next.prints; fails = λ h. next.fails (first.fails h) }

-- a task that fails so tells what it told before
pub tells_by : (t u : Told) (e : Failure) → IsMore t u → IsSilent e → IsMore t u × Says t u e
tells_by t u e more silent = (more, silent t u)
