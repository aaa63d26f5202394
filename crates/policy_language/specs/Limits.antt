-- Which policies a text may spell, where these organisations are known.
use Rattle.std.specs.Prelude.{◌≡◌, ℕ, suc, ◌≤◌, true, max, List, length}
use Rattle.policy_language.specs.Tree.{Rule, And, Or, OutOf, Policies, End, Org, Of}
use Rattle.policy_language.specs.View.{alone}
use Rattle.policy_language.specs.GoodSets.{Names, is_among}
use Rattle.policy_language.specs.Evaluation.{count}
use Rattle.policy_language.specs.Spelling.{IsSpelled}
use Rattle.policy_language.specs.declared.policy.Policy.{Policy}

-- a threshold is at least 1 and at most the number of children
abbrev pub IsRule : Rule → ℕ → Type 0
IsRule And children = Unit {0}
IsRule Or children = Unit {0}
IsRule (OutOf n) children = (1 ≤ n) × (n ≤ children)

abbrev pub HasRules : Policies → Type 0
HasRules End = Unit {0}
HasRules (Org name after) = HasRules after
HasRules (Of rule children after) = IsRule rule (count children) × HasRules children × HasRules after

-- each name is that of a known organisation
abbrev pub HasKnown : Names → Policies → Type 0
HasKnown orgs End = Unit {0}
HasKnown orgs (Org name after) = (is_among orgs name ≡ true) × HasKnown orgs after
HasKnown orgs (Of rule children after) = HasKnown orgs children × HasKnown orgs after

-- a name has depth 0, and an operator one more than its deepest child
abbrev pub depth : Policies → ℕ
depth End = 0
depth (Org name after) = depth after
depth (Of rule children after) = max (suc (depth children)) (depth after)

-- The policy that a text of at most 1,024 bytes spells, with known organisations, thresholds that can be met, and at most 8 operators inside one another.
pub record IsText (orgs : Names) (policy : Policy) (text : List ℕ) : Type 0 where
  pub spelled : IsSpelled policy text
  pub length : length text ≤ 1024
  pub organisations : HasKnown orgs (alone policy)
  pub thresholds : HasRules (alone policy)
  pub depth : depth (alone policy) ≤ 8
