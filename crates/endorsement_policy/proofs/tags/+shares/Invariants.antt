use Rattle.std.proofs.Common.{◌+◌, ◌*◌}
use Rattle.endorsement_policy.proofs.tags.+shares.Given as goal

abbrev pub decreases-right_orgs_by_shares : goal.decreases-right_orgs_by_shares
decreases-right_orgs_by_shares g l = 2 * l.workers

abbrev pub decreases-front_share : goal.decreases-front_share
decreases-front_share g l = 2 * l.front_workers + 1

abbrev pub decreases-back_share : goal.decreases-back_share
decreases-back_share g l = 2 * l.back_workers + 1
