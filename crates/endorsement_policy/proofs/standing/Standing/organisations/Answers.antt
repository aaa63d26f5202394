use Rattle.std.proofs.Common.{ap}
use Rattle.endorsement_policy.specs.Membership.{Standing}
use Rattle.endorsement_policy.proofs.standing.Standing.organisations.Goals as goal

pub returns-in-Some : goal.returns-in-Some
returns-in-Some c = let seen = ap (λ (s : Standing). s.orgs) c.self.view_is in cc
