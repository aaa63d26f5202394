use Rattle.std.proofs.Common.{◌≡◌, map}
use Rattle.org_keys.specs.Ledgers.{org_in}
use Rattle.endorsement_policy.proofs.members.in_ledger.Given as goal

abbrev pub invariant-organisations : goal.invariant-organisations
invariant-organisations l = l.bound.items ≡ map (org_in l.fn.rules.edition l.fn.rules.ledger) l.yielded
