-- The rule that an operator stands for.
use Rattle.policy_language.specs.Tree as tree
use Rattle.policy_language.specs.Tree.{Rule}
use Rattle.policy_language.specs.declared.operator.Operator.{Operator}
use Rattle.policy_language.specs.declared.operator.Operator.TheVariants.{And, Or, OutOf}

abbrev pub rule_of : Operator → Rule
rule_of And = tree.And
rule_of Or = tree.Or
rule_of (OutOf n) = tree.OutOf n
