use Rattle.std.proofs.Common.{◌≡◌, ◌++◌, drop}
use Rattle.endorsement_policy.specs.Installed.{org_names}
use Rattle.endorsement_policy.proofs.organisations.names_of.Given as goal

abbrev pub invariant-loop-organisation : goal.invariant-loop-organisation
invariant-loop-organisation l = l.names.items ++ org_names (drop l.organisation-index l.organisations) ≡ org_names l.organisations
