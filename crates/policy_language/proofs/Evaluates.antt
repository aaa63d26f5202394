-- What the code counts is what the good sets say.
use Rattle.std.proofs.Common.{◌≡◌, ℕ, zero, suc, ◌+◌, ◌<◌, ◌≤◌, get_or, Bool, true, false, cond, ◌&&◌, ◌||◌, leb, eqb, List, [], ◌∷◌, ◌++◌, length, map, refl}
use Rattle.std.proofs.Common.{sym, ap, ap₂, ◌∙◌, arith}
use Rattle.std.specs.Prelude.{nat_le}
use Rattle.std.specs.List.{flat_map, list_any, list_all}
use Rattle.std.proofs.lemmas.List.Folds.{list_all-append, list_any-append}
use Rattle.std.proofs.lemmas.Bool.{le-leb}
use Rattle.std.proofs.lemmas.Bool.Decides.{nat_tests}
use Rattle.policy_language.specs.Tree.{Rule, And, Or, OutOf, Policies, End, Org, Of, tree_size}
use Rattle.policy_language.specs.View.{then_policy, policies_of, alone}
use Rattle.policy_language.specs.declared.policy.Policy.{Policy}
use Rattle.policy_language.specs.declared.policy.Policy.TheVariants as policy
use Rattle.policy_language.specs.GoodSets.{Names, choices, unions, good_by_rule, good_sets_of_each, is_among, is_within, is_satisfied}
use Rattle.policy_language.specs.Evaluation.{count, is_met, count_satisfied}

module _ (names : Names) where
  -- some set lies within the names
  abbrev pub some_within : List Names → Bool
  some_within sets = list_any (is_within names) sets

  pub within-map : (set : Names) (sets : List Names) → some_within (map (λ union. set ++ union) sets) ≡ (is_within names set && some_within sets)
  within-map set [] = decided (is_within names set)
    where
      decided : (b : Bool) → false ≡ (b && false)
      decided true = refl
      decided false = refl
  within-map set (s ∷ sets) =
      ap₂ (λ (a b : Bool). a || b) (list_all-append (is_among names) set s) (within-map set sets)
      ∙ factor (is_within names set) (is_within names s) (some_within sets)
    where
      factor : (a b c : Bool) → ((a && b) || (a && c)) ≡ (a && (b || c))
      factor true b c = refl
      factor false b c = refl

  pub within-joined : (sets others : List Names) →
      some_within (flat_map (λ set. map (λ union. set ++ union) others) sets) ≡ (some_within sets && some_within others)
  within-joined [] others = refl
  within-joined (s ∷ sets) others =
      list_any-append (is_within names) (map (λ union. s ++ union) others) (flat_map (λ set. map (λ union. set ++ union) others) sets)
      ∙ ap₂ (λ (a b : Bool). a || b) (within-map s others) (within-joined sets others)
      ∙ factor (is_within names s) (some_within sets) (some_within others)
    where
      factor : (a b c : Bool) → ((a && c) || (b && c)) ≡ ((a || b) && c)
      factor true true true = refl
      factor true true false = refl
      factor true false true = refl
      factor true false false = refl
      factor false b c = refl

  pub within-unions : (children : List (List Names)) → some_within (unions children) ≡ list_all some_within children
  within-unions [] = refl
  within-unions (sets ∷ others) = within-joined sets (unions others) ∙ ap (λ (b : Bool). some_within sets && b) (within-unions others)

  pub within-flat_map : {A : Type 0} (f : A → List Names) (xs : List A) → some_within (flat_map f xs) ≡ list_any (λ x. some_within (f x)) xs
  within-flat_map f [] = refl
  within-flat_map f (x ∷ xs) = list_any-append (is_within names) (f x) (flat_map f xs) ∙ ap (λ (b : Bool). some_within (f x) || b) (within-flat_map f xs)

  -- some of the lists has each item within
  abbrev pub some_all : List (List (List Names)) → Bool
  some_all lists = list_any (λ children. list_all some_within children) lists

  pub all-map : (sets : List Names) (lists : List (List (List Names))) → some_all (map (λ ys. sets ∷ ys) lists) ≡ (some_within sets && some_all lists)
  all-map sets [] = decided (some_within sets)
    where
      decided : (b : Bool) → false ≡ (b && false)
      decided true = refl
      decided false = refl
  all-map sets (l ∷ lists) =
      ap (λ (b : Bool). (some_within sets && list_all some_within l) || b) (all-map sets lists)
      ∙ factor (some_within sets) (list_all some_within l) (some_all lists)
    where
      factor : (a b c : Bool) → ((a && b) || (a && c)) ≡ (a && (b || c))
      factor true b c = refl
      factor false b c = refl

  -- how many have a set within
  abbrev pub counted : List (List Names) → ℕ
  counted [] = 0
  counted (sets ∷ others) = cond (some_within sets) 1 0 + counted others

  pub all-choices : (n : ℕ) (children : List (List Names)) → some_all (choices n children) ≡ nat_le n (counted children)
  all-choices zero children = sym (le-leb 0 (counted children) (omega arith))
  all-choices (suc n) [] = grind (arith, nat_tests)
  all-choices (suc n) (sets ∷ others) =
      list_any-append (λ children. list_all some_within children) (map (λ ys. sets ∷ ys) (choices n others)) (choices (suc n) others)
      ∙ ap₂ (λ (a b : Bool). a || b) (all-map sets (choices n others) ∙ ap (λ (b : Bool). some_within sets && b) (all-choices n others))
      (all-choices (suc n) others)
      ∙ decided (some_within sets) (counted others)
    where
      decided : (b : Bool) (m : ℕ) → ((b && nat_le n m) || nat_le (suc n) m) ≡ nat_le (suc n) (cond b 1 0 + m)
      decided true m = grind (arith, nat_tests)
      decided false m = grind (arith, nat_tests)

  counted-length : (children : List (List Names)) → counted children ≤ length children
  counted-length [] = omega arith
  counted-length (sets ∷ others) = decided (some_within sets) (counted-length others)
    where
      decided : (b : Bool) → counted others ≤ length others → cond b 1 0 + counted others ≤ suc (length others)
      decided true h = omega arith
      decided false h = omega arith

  all-counted : (children : List (List Names)) → list_all some_within children ≡ eqb (counted children) (length children)
  all-counted [] = refl
  all-counted (sets ∷ others) =
      ap (λ (b : Bool). some_within sets && b) (all-counted others) ∙ decided (some_within sets) (counted others) (length others) (counted-length others)
    where
      decided : (b : Bool) (m n : ℕ) → m ≤ n → (b && eqb m n) ≡ eqb (cond b 1 0 + m) (suc n)
      decided true m n h = grind (arith, nat_tests)
      decided false m n h = grind (arith, nat_tests)

  any-counted : (children : List (List Names)) → list_any some_within children ≡ leb 1 (counted children)
  any-counted [] = refl
  any-counted (sets ∷ others) = ap (λ (b : Bool). some_within sets || b) (any-counted others) ∙ decided (some_within sets) (counted others)
    where
      decided : (b : Bool) (m : ℕ) → (b || leb 1 m) ≡ leb 1 (cond b 1 0 + m)
      decided true m = grind (arith, nat_tests)
      decided false m = grind (arith, nat_tests)

  any-unions : (lists : List (List (List Names))) → some_within (flat_map unions lists) ≡ some_all lists
  any-unions [] = refl
  any-unions (l ∷ lists) =
      list_any-append (is_within names) (unions l) (flat_map unions lists) ∙ ap₂ (λ (a b : Bool). a || b) (within-unions l) (any-unions lists)

  met-by_rule : (rule : Rule) (children : List (List Names)) → some_within (good_by_rule rule children) ≡ is_met rule (counted children) (length children)
  met-by_rule And children = within-unions children ∙ all-counted children
  met-by_rule Or children = within-flat_map (λ sets. sets) children ∙ any-counted children
  met-by_rule (OutOf n) children = any-unions (choices n children) ∙ all-choices n children

  length-each : (policies : Policies) → length (good_sets_of_each policies) ≡ count policies
  length-each End = refl
  length-each (Org name after) = omega (arith, length-each after)
  length-each (Of rule children after) = omega (arith, length-each after)

  -- as many policies have a good set within the names as are counted
  pub counted-each : (policies : Policies) → counted (good_sets_of_each policies) ≡ count_satisfied names policies
  counted-each End = refl
  counted-each (Org name after) = ap₂ (λ (b : Bool) (n : ℕ). cond b 1 0 + n) (one_set (is_among names name)) (counted-each after)
    where
      one_set : (b : Bool) → ((b && true) || false) ≡ b
      one_set true = refl
      one_set false = refl
  counted-each (Of rule children after) =
      ap₂ (λ (b : Bool) (n : ℕ). cond b 1 0 + n)
      (met-by_rule rule (good_sets_of_each children) ∙ ap₂ (λ (m n : ℕ). is_met rule m n) (counted-each children) (length-each children))
      (counted-each after)

  -- a policy's good sets say the same as the count of it alone
  pub satisfied_is : (policy : Policy) (b : Bool) → cond b 1 0 ≡ count_satisfied names (alone policy) → b ≡ is_satisfied policy names
  satisfied_is policy b e =
      let each = good_sets_of_each (alone policy) in
      sym (within-flat_map (λ sets. sets) each ∙ any-counted each ∙ ap (leb 1) (counted-each (alone policy) ∙ sym e) ∙ decided b)
    where
      decided : (b : Bool) → leb 1 (cond b 1 0) ≡ b
      decided true = refl
      decided false = refl

-- ---- a list of policies as a tree

pub count_is : (ps : List Policy) → count (policies_of ps) ≡ length ps
count_is [] = refl
count_is (policy.Org name ∷ ps) = omega (arith, count_is ps)
count_is (policy.And children ∷ ps) = omega (arith, count_is ps)
count_is (policy.Or children ∷ ps) = omega (arith, count_is ps)
count_is (policy.OutOf n children ∷ ps) = omega (arith, count_is ps)

size_first : (p : Policy) (ps : Policies) → tree_size (then_policy p ps) ≡ tree_size (alone p) + tree_size ps
size_first (policy.Org name) ps = omega arith
size_first (policy.And children) ps = omega arith
size_first (policy.Or children) ps = omega arith
size_first (policy.OutOf n children) ps = omega arith

pub item_size : (i : ℕ) (ps : List Policy) (p : Policy) → i < length ps → p ≡ get_or ps i p → tree_size (alone p) ≤ tree_size (policies_of ps)
item_size i [] p lt e = absurd (omega arith)
item_size zero (q ∷ ps) p lt e = rw e (omega (arith, size_first q (policies_of ps)))
item_size (suc i) (q ∷ ps) p lt e = omega (arith, size_first q (policies_of ps), item_size i ps p (omega arith) e)
