-- What a run's outcome says of a payload, and what a definition's fault says of an upgrade.
use Rattle.std.specs.Prelude.{◌==◌, Result, Ok, Err, if◌then◌else◌}
use Rattle.interp.specs.declared.outcome.Outcome.{Outcome}
use Rattle.interp.specs.declared.outcome.Outcome.TheVariants as outcome
use Rattle.endorsement_policy.specs.declared.fault.DefinitionFault.{DefinitionFault}
use Rattle.endorsement_policy.specs.declared.fault.DefinitionFault.TheVariants as fault
use Rattle.simulator.specs.declared.refusal.SimRefusal.{SimRefusal}
use Rattle.simulator.specs.declared.refusal.SimRefusal.TheVariants as refusal

-- status 0, or why there is no payload
abbrev pub success_of : Outcome → Result (Unit {0}) SimRefusal
success_of (outcome.Returned status used) = if (status == 0) then Ok tt else Err (refusal.Status status)
success_of (outcome.Trapped kind used) = Err (refusal.Trapped kind used)
success_of outcome.Spent = Err refusal.Spent

-- why an upgrade to a definition that cannot be used is refused
abbrev pub unusable : DefinitionFault → SimRefusal
unusable fault.NotInstalled = refusal.NotInstalled
unusable fault.BadPolicy = refusal.BadPolicy
