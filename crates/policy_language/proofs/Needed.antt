-- A policy that a text spells needs at least one endorsement.
use Rattle.std.proofs.Common.{◌≡◌, ℕ, ◌≤◌, true, false, not, List, [], refl, sym, ap, arith}
use Rattle.std.proofs.lemmas.Bool.Decides.{nat_tests}
use Rattle.grammar.specs.Spelling.{IsByte}
use Rattle.policy_language.specs.Tree.{Rule, And, Or, OutOf, Policies, End, Org, Of}
use Rattle.policy_language.specs.View.{alone}
use Rattle.policy_language.specs.Evaluation.{count, is_met, count_satisfied}
use Rattle.policy_language.specs.Spelling.{◌⋯◌, IsOpening, IsLeaf, IsBefore, IsEach, IsSpelled}
use Rattle.policy_language.specs.Limits.{IsRule, HasRules}
use Rattle.policy_language.specs.declared.policy.Policy.{Policy}
use Rattle.policy_language.specs.GoodSets.{needs_someone}
use Rattle.policy_language.proofs.Evaluates.{satisfied_is}

second : (P Q : List ℕ → Type 0) (text : List ℕ) → (P ⋯ Q) text → (back : List ℕ) × Q back
second P Q text h = (h.3.1, h.3.3)

first : (P Q : List ℕ → Type 0) (text : List ℕ) → (P ⋯ Q) text → (front : List ℕ) × P front
first P Q text h = (h.0, h.2)

first_of : (IsFirst : List ℕ → Type 0) (after : Policies) (text : List ℕ) → IsBefore IsFirst after (IsEach after) text → (front : List ℕ) × IsFirst front
first_of IsFirst End text h = (text, h)
first_of IsFirst (Org name after) text h = first IsFirst (IsByte 44 ⋯ IsEach (Org name after)) text h
first_of IsFirst (Of rule children after) text h = first IsFirst (IsByte 44 ⋯ IsEach (Of rule children after)) text h

none_after : (IsFirst : List ℕ → Type 0) (after : Policies) (text : List ℕ) → IsBefore IsFirst after (IsEach after) text →
    ((t : List ℕ) → IsEach after t → count_satisfied [] after ≡ 0) → count_satisfied [] after ≡ 0
none_after IsFirst End text h none = refl
none_after IsFirst (Org name after) text h none =
    let rest = second IsFirst (IsByte 44 ⋯ IsEach (Org name after)) text h in
    let last = second (IsByte 44) (IsEach (Org name after)) rest.0 rest.1 in none last.0 last.1
none_after IsFirst (Of rule children after) text h none =
    let rest = second IsFirst (IsByte 44 ⋯ IsEach (Of rule children after)) text h in
    let last = second (IsByte 44) (IsEach (Of rule children after)) rest.0 rest.1 in none last.0 last.1

some_child : (ps : Policies) (text : List ℕ) → IsEach ps text → 1 ≤ count ps
some_child End text h = absurd h
some_child (Org name after) text h = omega arith
some_child (Of rule children after) text h = omega arith

unmet : (operator : Rule) (n : ℕ) → IsRule operator n → 1 ≤ n → is_met operator 0 n ≡ false
unmet And n r some = grind (arith, nat_tests)
unmet Or n r some = refl
unmet (OutOf t) n r some = let least = r.0 in grind (arith, nat_tests)

none_satisfied : (ps : Policies) (text : List ℕ) → IsEach ps text → HasRules ps → count_satisfied [] ps ≡ 0
none_satisfied End text h r = refl
none_satisfied (Org name after) text h r = rw (none_after (IsLeaf name) after text h (λ t e. none_satisfied after t e r)) refl
none_satisfied (Of rule children after) text h r =
    let operator = first_of (IsOpening rule ⋯ IsEach children ⋯ IsByte 41) after text h in
    let rest = second (IsOpening rule) (IsEach children ⋯ IsByte 41) operator.0 operator.1 in
    let inside = first (IsEach children) (IsByte 41) rest.0 rest.1 in
    let none = none_satisfied children inside.0 inside.1 r.1 in
    let later = none_after (IsOpening rule ⋯ IsEach children ⋯ IsByte 41) after text h (λ t e. none_satisfied after t e r.2) in
    let not_met = unmet rule (count children) r.0 (some_child children inside.0 inside.1) in
    rw (none, not_met, later) refl

pub spelled_needs : (policy : Policy) (text : List ℕ) → IsSpelled policy text → HasRules (alone policy) → needs_someone policy ≡ true
spelled_needs policy text h r = ap not (sym (satisfied_is [] policy false (sym (none_satisfied (alone policy) text h r))))
