-- The tree that a list of policies is.
use Rattle.std.specs.Prelude.{List, [], ◌∷◌}
use Rattle.policy_language.specs.Tree as tree
use Rattle.policy_language.specs.Tree.{Policies}
use Rattle.policy_language.specs.declared.policy.Policy.{Policy}
use Rattle.policy_language.specs.declared.policy.Policy.TheVariants.{Org, And, Or, OutOf}

-- one policy before others
abbrev pub then_policy : Policy → Policies → Policies
then_policy (Org name) ps = tree.Org name ps
then_policy (And children) ps = tree.Of tree.And children ps
then_policy (Or children) ps = tree.Of tree.Or children ps
then_policy (OutOf threshold children) ps = tree.Of (tree.OutOf threshold) children ps

-- policies in order
abbrev pub policies_of : List Policy → Policies
policies_of [] = tree.End
policies_of (p ∷ ps) = then_policy p (policies_of ps)

-- one policy alone
abbrev pub alone : Policy → Policies
alone p = then_policy p tree.End
