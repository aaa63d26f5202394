-- The numbers of the faults of a definition.
use Rattle.std.specs.Prelude.{ℕ}
use Rattle.endorsement_policy.specs.declared.fault.DefinitionFault.{DefinitionFault}
use Rattle.endorsement_policy.specs.declared.fault.DefinitionFault.TheVariants.{NotInstalled, BadPolicy}

-- the number of a fault of a definition
abbrev pub definition_number : DefinitionFault → ℕ
definition_number NotInstalled = 406
definition_number BadPolicy = 407
