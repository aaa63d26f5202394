use Rattle.fab_types.specs.Limits.{is_digit}
use Rattle.policy_language.proofs.Fronts.{front_passes}
use Rattle.policy_language.proofs.reader.Reader.threshold.Goals as goal

pub decimal-requires-clause-digits : goal.decimal-requires-clause-digits
decimal-requires-clause-digits c = rw (c.split_at.ensures.front, c.digits-count.ensures.count) (front_passes is_digit c.self.inside.rest.now)
