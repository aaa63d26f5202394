use Rattle.std.proofs.Common.{◌+◌, ◌*◌}
use Rattle.endorsement_policy.proofs.tags.+parts.Given as goal

abbrev pub decreases-right_orgs_by_parts : goal.decreases-right_orgs_by_parts
decreases-right_orgs_by_parts g l = 2 * l.workers

abbrev pub decreases-front_part : goal.decreases-front_part
decreases-front_part g l = 2 * l.front_workers + 1

abbrev pub decreases-back_part : goal.decreases-back_part
decreases-back_part g l = 2 * l.back_workers + 1
