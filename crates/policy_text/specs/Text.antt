-- The shortest text that spells a policy.
use Rattle.std.specs.Prelude.{ℕ, List, [], ◌∷◌, ◌++◌, codes, decimal}
use Rattle.policy_language.specs.Tree.{Rule, And, Or, OutOf, Policies, End, Org, Of}
use Rattle.policy_language.specs.View.{alone}
use Rattle.policy_language.specs.declared.policy.Policy.{Policy}

-- a name in single quotes
abbrev pub name_text : List ℕ → List ℕ
name_text name = 39 ∷ (name ++ 39 ∷ [])

-- an operator up to its first child
abbrev pub opening_text : Rule → List ℕ
opening_text And = codes "AND("
opening_text Or = codes "OR("
opening_text (OutOf n) = codes "OutOf(" ++ (decimal n ++ codes ",")

-- behind a comma, unless there is nothing
abbrev pub behind : Policies → List ℕ → List ℕ
behind End text = []
behind (Org name after) text = 44 ∷ text
behind (Of rule children after) text = 44 ∷ text

-- policies with commas between
abbrev pub each_text : Policies → List ℕ
each_text End = []
each_text (Org name after) = name_text name ++ behind after (each_text after)
each_text (Of rule children after) = (opening_text rule ++ (each_text children ++ codes ")")) ++ behind after (each_text after)

abbrev pub policy_text : Policy → List ℕ
policy_text p = each_text (alone p)
