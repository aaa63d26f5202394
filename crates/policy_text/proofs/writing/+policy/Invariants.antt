use Rattle.std.proofs.Common.{◌+◌, ◌*◌}
use Rattle.policy_language.specs.Tree.{tree_size}
use Rattle.policy_language.specs.View.{alone, policies_of}
use Rattle.policy_text.proofs.writing.+policy.Given as goal

abbrev pub decreases-write_policy : goal.decreases-write_policy
decreases-write_policy l = 3 * tree_size (alone l.policy.now)

abbrev pub decreases-write_children : goal.decreases-write_children
decreases-write_children l = 3 * tree_size l.children.now + 2

abbrev pub decreases-write_each : goal.decreases-write_each
decreases-write_each l = 3 * tree_size (policies_of l.policies.now) + 1
