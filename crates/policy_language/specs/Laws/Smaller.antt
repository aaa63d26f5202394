-- A list of policies is larger than each inside it.
use Rattle.std.specs.Prelude.{◌≤◌, List, [], ◌∷◌}
use Rattle.std.proofs.Common.{arith}
use denote.Param.Weighed.{most}
use Rattle.policy_language.specs.Tree.{tree_size}
use Rattle.policy_language.specs.View.{policies_of}
use Rattle.policy_language.specs.declared.policy.Policy.{Policy}
use Rattle.policy_language.specs.declared.policy.Policy.TheVariants.{Org, And, Or, OutOf}
use Rattle.policy_language.specs.declared.policy.Policies.TheDeep.{deep-Policy}

pub most_le-size : (ps : List Policy) → most deep-Policy ps ≤ tree_size (policies_of ps)
most_le-size [] = omega arith
most_le-size (Org name ∷ ps) = omega (arith, most_le-size ps)
most_le-size (And children ∷ ps) = omega (arith, most_le-size ps)
most_le-size (Or children ∷ ps) = omega (arith, most_le-size ps)
most_le-size (OutOf threshold children ∷ ps) = omega (arith, most_le-size ps)
