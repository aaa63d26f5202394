-- Reading gives the policy that a text spells within the limits.
use Rattle.std.proofs.Common.{◌≡◌, ℕ, zero, suc, ◌+◌, ◌-◌, ◌≤◌, Bool, true, false, eqb, List, [], ◌∷◌, ◌++◌, length, Option, Some, refl, ap, ◌∙◌, append_assoc}
use Rattle.std.proofs.Common.{arith}
use Rattle.std.proofs.Math.Nat.{le-max_left, le-max_right}
use Rattle.std.proofs.lemmas.List.{length-append}
use Rattle.grammar.specs.Spelling.{IsByte}
use Rattle.policy_language.specs.Tree.{Rule, And, Or, OutOf, Policies, End, Org, Of}
use Rattle.policy_language.specs.View.{then_policy, policies_of, alone}
use Rattle.policy_language.specs.GoodSets.{Name}
use Rattle.policy_language.specs.Evaluation.{count}
use Rattle.policy_language.specs.Spelling.{IsSpaces, ◌⋯◌, IsLeaf, IsOpening, IsBefore, IsEach, IsSpelled}
use Rattle.policy_language.specs.Limits.{depth}
use Rattle.policy_language.specs.Reading.{after_spaces, children_at, made, is_quoted, policy_at}
use Rattle.policy_language.specs.declared.policy.Policy.{Policy}
use Rattle.policy_language.specs.declared.policy.Policy.TheVariants as policy
use Rattle.policy_language.proofs.Tokens.{spaces_left, leaf_read, opening_read, comma_more, comma_ends}
use Rattle.policy_language.proofs.Levels.{quoted, operated}

-- ---- policies as a tree and as a list

abbrev pub of_rule : Rule → Policies → Policy
of_rule And children = policy.And children
of_rule Or children = policy.Or children
of_rule (OutOf n) children = policy.OutOf n children

abbrev pub list_of : Policies → List Policy
list_of End = []
list_of (Org name after) = policy.Org name ∷ list_of after
list_of (Of rule children after) = of_rule rule children ∷ list_of after

then_of_rule : (rule : Rule) (children after : Policies) → then_policy (of_rule rule children) after ≡ Of rule children after
then_of_rule And children after = refl
then_of_rule Or children after = refl
then_of_rule (OutOf n) children after = refl

pub same_tree : (ps : Policies) → policies_of (list_of ps) ≡ ps
same_tree End = refl
same_tree (Org name after) = ap (Org name) (same_tree after)
same_tree (Of rule children after) = then_of_rule rule children (policies_of (list_of after)) ∙ ap (Of rule children) (same_tree after)

pub same_count : (ps : Policies) → length (list_of ps) ≡ count ps
same_count End = refl
same_count (Org name after) = omega (arith, same_count after)
same_count (Of rule children after) = omega (arith, same_count after)

-- ---- which policies are within the tests of a reading

abbrev pub FitsRule : (ℕ → ℕ → Bool) → Rule → ℕ → Type 0
FitsRule fits And children = Unit {0}
FitsRule fits Or children = Unit {0}
FitsRule fits (OutOf n) children = fits n children ≡ true

abbrev pub FitsAll : (ℕ → ℕ → Bool) → Policies → Type 0
FitsAll fits End = Unit {0}
FitsAll fits (Org name after) = FitsAll fits after
FitsAll fits (Of rule children after) = FitsRule fits rule (count children) × FitsAll fits children × FitsAll fits after

abbrev pub KnowsAll : (Name → Bool) → Policies → Type 0
KnowsAll is_known End = Unit {0}
KnowsAll is_known (Org name after) = (is_known name ≡ true) × KnowsAll is_known after
KnowsAll is_known (Of rule children after) = KnowsAll is_known children × KnowsAll is_known after

pub is_made : (fits : ℕ → ℕ → Bool) (rule : Rule) (children : Policies) → FitsRule fits rule (count children) →
    made fits rule (list_of children) ≡ Some (of_rule rule children)
is_made fits And children r = ap (λ (c : Policies). Some (policy.And c)) (same_tree children)
is_made fits Or children r = ap (λ (c : Policies). Some (policy.Or c)) (same_tree children)
is_made fits (OutOf n) children r = rw (same_count children, r) (ap (λ (c : Policies). Some (policy.OutOf n c)) (same_tree children))

-- ---- how a policy's text begins

-- the first byte is no space, and a quote only for a name
abbrev Begins : Bool → List ℕ → Type 0
Begins quote text = (b : ℕ) × (more : List ℕ) × (text ≡ b ∷ more) × (eqb b 32 ≡ false) × (eqb b 39 ≡ quote)

leaf_begins : (name text : List ℕ) → IsLeaf name text → Begins true text
leaf_begins name text h = (39, name ++ 39 ∷ [], h.1, refl, refl)

opening_begins : (rule : Rule) (text : List ℕ) → IsOpening rule text → Begins false text
opening_begins And text h = (65, 78 ∷ 68 ∷ h.1, rw (h.4, h.2) refl, refl, refl)
opening_begins Or text h = (79, 82 ∷ h.1, rw (h.4, h.2) refl, refl, refl)
opening_begins (OutOf n) text h = (79, 117 ∷ 116 ∷ 79 ∷ 102 ∷ h.1, rw (h.4, h.2) refl, refl, refl)

begins_longer : (quote : Bool) (front back text : List ℕ) → Begins quote front → text ≡ front ++ back → Begins quote text
begins_longer quote front back text h e = (h.0, h.1 ++ back, e ∙ ap (λ (x : List ℕ). x ++ back) h.2, h.3, h.4)

quote_is : (quote : Bool) (text rest : List ℕ) → Begins quote text → is_quoted (text ++ rest) ≡ quote
quote_is quote text rest h = ap (λ (x : List ℕ). is_quoted (x ++ rest)) h.2 ∙ h.4

begin_left : (quote : Bool) (lead text rest : List ℕ) → IsSpaces lead → Begins quote text → after_spaces (lead ++ (text ++ rest)) ≡ text ++ rest
begin_left quote lead text rest s h =
    let is : text ++ rest ≡ h.0 ∷ (h.1 ++ rest) = ap (λ (x : List ℕ). x ++ rest) h.2 in
    rw is (spaces_left lead h.0 (h.1 ++ rest) s h.3)

-- ---- how long a text is

abbrev Operator : Rule → Policies → List ℕ → Type 0
Operator rule children = IsOpening rule ⋯ IsEach children ⋯ IsByte 41

begun : (quote : Bool) (text : List ℕ) → Begins quote text → 1 ≤ length text
begun quote text h = rw h.2 (omega arith)

pub opening_long : (rule : Rule) (text : List ℕ) → IsOpening rule text → 1 ≤ length text
opening_long rule text h = begun false text (opening_begins rule text h)

operator_begins : (rule : Rule) (children : Policies) (text : List ℕ) → Operator rule children text → Begins false text
operator_begins rule children text h = begins_longer false h.0 h.1 text (opening_begins rule h.0 h.2) h.4

first_counts : (IsFirst IsAfter : List ℕ → Type 0) (after : Policies) → ((text : List ℕ) → IsFirst text → 1 ≤ length text) →
    ((text : List ℕ) → IsAfter text → count after ≤ length text) → (text : List ℕ) → IsBefore IsFirst after IsAfter text → 1 + count after ≤ length text
first_counts IsFirst IsAfter End f a text h = omega (arith, f text h)
first_counts IsFirst IsAfter (Org name after) f a text h = more_counts text h
  where
    more_counts : (text : List ℕ) → (IsFirst ⋯ IsByte 44 ⋯ IsAfter) text → 1 + (1 + count after) ≤ length text
    more_counts text h =
        let u = h.3.3 in
        rw (h.4, h.3.4, u.4, u.3.4) (omega (arith, f h.0 h.2, a u.3.1 u.3.3, length-append {A = ℕ}))
first_counts IsFirst IsAfter (Of rule children after) f a text h = more_counts text h
  where
    more_counts : (text : List ℕ) → (IsFirst ⋯ IsByte 44 ⋯ IsAfter) text → 1 + (1 + count after) ≤ length text
    more_counts text h =
        let u = h.3.3 in
        rw (h.4, h.3.4, u.4, u.3.4) (omega (arith, f h.0 h.2, a u.3.1 u.3.3, length-append {A = ℕ}))

pub each_counts : (ps : Policies) (text : List ℕ) → IsEach ps text → count ps ≤ length text
each_counts End text h = absurd h
each_counts (Org name after) text h = first_counts (IsLeaf name) (IsEach after) after (λ t l. begun true t (leaf_begins name t l)) (each_counts after) text h
each_counts (Of rule children after) text h =
    first_counts (Operator rule children) (IsEach after) after (λ t l. begun false t (operator_begins rule children t l)) (each_counts after) text h

-- ---- children are read

abbrev ReadsAll : (List ℕ → Option (Policy × List ℕ)) → (List ℕ → Type 0) → List Policy → Type 0
ReadsAll read IsAll ps =
    (n : ℕ) → length ps ≤ n → (lead text spaces rest : List ℕ) → IsSpaces lead → IsAll text → IsSpaces spaces → length text ≤ 1024
    → children_at read n (lead ++ (text ++ (spaces ++ 41 ∷ rest))) ≡ Some (ps, rest)

module _ (read : List ℕ → Option (Policy × List ℕ)) (p : Policy) (quote : Bool) (IsFirst : List ℕ → Type 0)
    (reads : (text rest : List ℕ) → IsFirst text → length text ≤ 1024 → read (text ++ rest) ≡ Some (p, rest))
    (begins : (text : List ℕ) → IsFirst text → Begins quote text)
  where
    last_read : ReadsAll read IsFirst (p ∷ [])
    unfolding children_at
    last_read zero le lead text spaces rest l h s few = absurd (omega arith)
    last_read (suc n) le lead text spaces rest l h s few =
        rw (begin_left quote lead text (spaces ++ 41 ∷ rest) l (begins text h), reads text (spaces ++ 41 ∷ rest) h few, comma_ends spaces rest s) refl

    more_read : (IsAfter : List ℕ → Type 0) (ps : List Policy) → ReadsAll read IsAfter ps → ReadsAll read (IsFirst ⋯ IsByte 44 ⋯ IsAfter) (p ∷ ps)
    unfolding children_at
    more_read IsAfter ps more zero le lead text spaces rest l h s few = absurd (omega arith)
    more_read IsAfter ps more (suc n) le lead text spaces rest l h s few =
        let u = h.3.3 in
        let tail = u.3.1 ++ (spaces ++ 41 ∷ rest) in
        let behind = h.3.0 ++ 44 ∷ (u.3.0 ++ tail) in
        let text_is : text ≡ h.0 ++ (h.3.0 ++ (u.0 ++ (u.3.0 ++ u.3.1))) = rw (h.4, h.3.4, u.4, u.3.4) refl in
        let len : length text ≡ length h.0 + (length h.3.0 + (length u.0 + (length u.3.0 + length u.3.1))) = rw text_is (simp length-append) in
        let first_few : length h.0 ≤ 1024 = omega arith in
        let after_few : length u.3.1 ≤ 1024 = omega arith in
        let regrouped : text ++ (spaces ++ 41 ∷ rest) ≡ h.0 ++ behind =
        rw (text_is, u.2) (regroup h.0 h.3.0 (44 ∷ []) u.3.0 u.3.1 (spaces ++ 41 ∷ rest)) in
        rw (
          regrouped,
          begin_left quote lead h.0 behind l (begins h.0 h.2),
          reads h.0 behind h.2 first_few,
          comma_more h.3.0 (u.3.0 ++ tail) h.3.2,
          more n (omega arith) u.3.0 u.3.1 spaces rest u.3.2 u.3.3 s after_few,
        ) refl
      where
        regroup : (a b c d e rest : List ℕ) → (a ++ (b ++ (c ++ (d ++ e)))) ++ rest ≡ a ++ (b ++ (c ++ (d ++ (e ++ rest))))
        regroup a b c d e rest = simp append_assoc

    before_read : (after : Policies) → ReadsAll read (IsEach after) (list_of after) → ReadsAll read (IsBefore IsFirst after (IsEach after)) (p ∷ list_of after)
    before_read End more = last_read
    before_read (Org name after) more = more_read (IsEach (Org name after)) (list_of (Org name after)) more
    before_read (Of rule children after) more = more_read (IsEach (Of rule children after)) (list_of (Of rule children after)) more

module _ (is_known : Name → Bool) (fits : ℕ → ℕ → Bool) where
  named_read : (levels : ℕ) (name text rest : List ℕ) → is_known name ≡ true → IsLeaf name text →
      policy_at is_known fits levels (text ++ rest) ≡ Some (policy.Org name, rest)
  named_read levels name text rest known h =
      quoted is_known fits levels (text ++ rest) (quote_is true text rest (leaf_begins name text h)) ∙ leaf_read is_known name text rest h known

  operator_read : (levels inner : ℕ) (rule : Rule) (children : Policies) → levels ≡ suc inner → FitsRule fits rule (count children) →
      ReadsAll (policy_at is_known fits inner) (IsEach children) (list_of children)
      → (text rest : List ℕ) → Operator rule children text → length text ≤ 1024 →
      policy_at is_known fits levels (text ++ rest) ≡ Some (of_rule rule children, rest)
  operator_read levels inner rule children one r all text rest h few =
      let u = h.3.3 in
      let behind = h.3.0 ++ (u.0 ++ (u.3.0 ++ 41 ∷ rest)) in
      let text_is : text ≡ h.0 ++ (h.3.0 ++ (u.0 ++ (u.3.0 ++ u.3.1))) = rw (h.4, h.3.4, u.4, u.3.4) refl in
      let len : length text ≡ length h.0 + (length h.3.0 + (length u.0 + (length u.3.0 + length u.3.1))) = rw text_is (simp length-append) in
      let inner_few : length u.0 ≤ 1024 = omega arith in
      let counts : count children ≤ length u.0 = each_counts children u.0 u.2 in
      let listed : length (list_of children) ≡ count children = same_count children in
      let regrouped : text ++ rest ≡ h.0 ++ behind = rw (text_is, u.3.3) (regroup h.0 h.3.0 u.0 u.3.0 (41 ∷ []) rest) in
      operated is_known fits levels inner (text ++ rest) (quote_is false text rest (operator_begins rule children text h)) one
      ∙ rw (regrouped, opening_read rule h.0 behind h.2, all 1024 (omega arith) h.3.0 u.0 u.3.0 rest h.3.2 u.2 u.3.2 inner_few, is_made fits rule children r)
      refl
    where
      regroup : (a b c d e rest : List ℕ) → (a ++ (b ++ (c ++ (d ++ e)))) ++ rest ≡ a ++ (b ++ (c ++ (d ++ (e ++ rest))))
      regroup a b c d e rest = simp append_assoc

  pub each_read : (ps : Policies) (levels : ℕ) → depth ps ≤ levels → KnowsAll is_known ps → FitsAll fits ps →
      ReadsAll (policy_at is_known fits levels) (IsEach ps) (list_of ps)
  each_read End levels d k r = λ n le lead text spaces rest l h s few. absurd h
  each_read (Org name after) levels d k r =
      before_read (policy_at is_known fits levels) (policy.Org name) true (IsLeaf name) (λ text rest h few. named_read levels name text rest k.0 h)
      (leaf_begins name) after (each_read after levels d k.1 r)
  each_read (Of rule children after) levels d k r =
      let left = le-max_left (suc (depth children)) (depth after) in
      let right = le-max_right (suc (depth children)) (depth after) in
      let one : levels ≡ suc (levels - 1) = omega arith in
      let inner : depth children ≤ levels - 1 = omega arith in
      let outer : depth after ≤ levels = omega arith in
      before_read (policy_at is_known fits levels) (of_rule rule children) false (Operator rule children)
      (operator_read levels (levels - 1) rule children one r.0 (each_read children (levels - 1) inner k.0 r.1))
      (operator_begins rule children) after (each_read after levels outer k.1 r.2)

  alone_read : (levels : ℕ) (rule : Rule) (children : Policies) → depth (Of rule children End) ≤ levels → KnowsAll is_known (Of rule children End) →
      FitsAll fits (Of rule children End)
      → (text rest : List ℕ) → Operator rule children text → length text ≤ 1024 →
      policy_at is_known fits levels (text ++ rest) ≡ Some (of_rule rule children, rest)
  alone_read levels rule children d k r =
      let left = le-max_left (suc (depth children)) 0 in
      let one : levels ≡ suc (levels - 1) = omega arith in
      let inner : depth children ≤ levels - 1 = omega arith in
      operator_read levels (levels - 1) rule children one r.0 (each_read children (levels - 1) inner k.0 r.1)

  pub policy_read : (p : Policy) (levels : ℕ) (text rest : List ℕ) → IsSpelled p text → depth (alone p) ≤ levels → KnowsAll is_known (alone p) →
      FitsAll fits (alone p) → length text ≤ 1024
      → policy_at is_known fits levels (text ++ rest) ≡ Some (p, rest)
  policy_read (policy.Org name) levels text rest h d k r few = named_read levels name text rest k.0 h
  policy_read (policy.And children) levels text rest h d k r few = alone_read levels And children d k r text rest h few
  policy_read (policy.Or children) levels text rest h d k r few = alone_read levels Or children d k r text rest h few
  policy_read (policy.OutOf n children) levels text rest h d k r few = alone_read levels (OutOf n) children d k r text rest h few
