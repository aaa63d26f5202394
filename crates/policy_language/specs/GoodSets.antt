-- Which sets of organisations satisfy a policy. A set is a list of names, in which order and repetition mean nothing.
use Rattle.std.specs.Prelude.{ℕ, zero, suc, Bool, List, [], ◌∷◌, ◌++◌, map, nat_eq, not}
use Rattle.std.specs.List.{flat_map, list_any, list_all}
use Rattle.std.specs.Cmp.Lexicographic.{pointwise}
use Rattle.policy_language.specs.Tree.{Rule, And, Or, OutOf, Policies, End, Org, Of}
use Rattle.policy_language.specs.View.{alone}
use Rattle.policy_language.specs.declared.policy.Policy.{Policy}

abbrev pub Name : Type 0
Name = List ℕ

abbrev pub Names : Type 0
Names = List Name

-- the ways to choose n of the items, each in their order
abbrev pub choices : {A : Type 0} → ℕ → List A → List (List A)
choices zero xs = [] ∷ []
choices (suc n) [] = []
choices (suc n) (x ∷ xs) = map (λ ys. x ∷ ys) (choices n xs) ++ choices (suc n) xs

-- for each item the sets that are good for it: the unions of one from each
abbrev pub unions : List (List Names) → List Names
unions [] = [] ∷ []
unions (sets ∷ others) = flat_map (λ set. map (λ union. set ++ union) (unions others)) sets

-- the good sets of an operator, from those of each child
abbrev pub good_by_rule : Rule → List (List Names) → List Names
good_by_rule And children = unions children
good_by_rule Or children = flat_map (λ sets. sets) children
good_by_rule (OutOf threshold) children = flat_map unions (choices threshold children)

-- the good sets of each policy
abbrev pub good_sets_of_each : Policies → List (List Names)
good_sets_of_each End = []
good_sets_of_each (Org name after) = ((name ∷ []) ∷ []) ∷ good_sets_of_each after
good_sets_of_each (Of rule children after) = good_by_rule rule (good_sets_of_each children) ∷ good_sets_of_each after

-- the good sets of a policy
abbrev pub good_sets : Policy → List Names
good_sets policy = flat_map (λ sets. sets) (good_sets_of_each (alone policy))

-- a name is one of the names
abbrev pub is_among : Names → Name → Bool
is_among names name = list_any (λ other. pointwise nat_eq other name) names

-- each name of a set is one of the names
abbrev pub is_within : Names → Names → Bool
is_within names set = list_all (is_among names) set

-- some good set of the policy lies within the names
abbrev pub is_satisfied : Policy → Names → Bool
is_satisfied policy names = list_any (is_within names) (good_sets policy)

-- the policy needs at least one endorsement: no name at all does not satisfy it
abbrev pub needs_someone : Policy → Bool
needs_someone policy = not (is_satisfied policy [])
