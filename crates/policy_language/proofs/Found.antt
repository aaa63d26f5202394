-- What reading gives is spelled by the text, within the limits.
use Rattle.std.proofs.Common.{◌≡◌, ℕ, zero, suc, ◌≤◌, max, Bool, true, false, cond, List, [], ◌∷◌, ◌++◌, length, Option, Some, refl, sym, ap, subst, ◌∙◌}
use Rattle.std.proofs.Common.{append_assoc, arith}
use Rattle.std.specs.Prelude.{◌&&◌, nat_le}
use Rattle.std.proofs.Math.Nat.{max-le, le-max_left}
use Rattle.std.proofs.lemmas.Bool.{leb-true}
use Rattle.std.proofs.lemmas.Option.{some_pair_parts, same_Some}
use Rattle.grammar.specs.Spelling.{IsByte}
use Rattle.grammar.specs.Reading.{◌>>=◌}
use Rattle.grammar.specs.Laws.Steps.{bind_some, guarded, either}
use Rattle.policy_language.specs.Tree.{Rule, And, Or, OutOf, Policies, End, Org, Of}
use Rattle.policy_language.specs.View.{then_policy, policies_of, alone}
use Rattle.policy_language.specs.GoodSets.{Names, is_among}
use Rattle.policy_language.specs.Evaluation.{count}
use Rattle.policy_language.specs.Spelling.{IsSpaces, ◌⋯◌, IsLeaf, IsOpening, IsBefore, IsEach, IsSpelled}
use Rattle.policy_language.specs.Limits.{IsRule, HasRules, HasKnown, depth}
use Rattle.policy_language.specs.Reading.{after_spaces, comma_at, before, children_at, made, made_at, is_threshold, operator_at, is_quoted, leaf_at}
use Rattle.policy_language.specs.Reading.{policy_at, opening_at}
use Rattle.policy_language.specs.declared.policy.Policy.{Policy}
use Rattle.policy_language.specs.declared.policy.Policy.TheVariants as policy
use Rattle.policy_language.proofs.Evaluates.{count_is}
use Rattle.policy_language.proofs.Tokens.{seq, both, spaces_taken, leaf_taken, opening_taken, comma_taken}
use Rattle.policy_language.proofs.Texts.{of_rule}

-- known organisations, thresholds that can be met, and not too deep
pub record IsWithin (orgs : Names) (levels : ℕ) (ps : Policies) : Type 0 where
  pub known : HasKnown orgs ps
  pub rules : HasRules ps
  pub deep : depth ps ≤ levels

-- the policy is spelled at the front
pub record Found (orgs : Names) (levels : ℕ) (p : Policy) (bytes rest : List ℕ) : Type 0 where
  pub text : List ℕ
  pub spelled : IsSpelled p text
  pub is : bytes ≡ text ++ rest
  pub within : IsWithin orgs levels (alone p)

-- the policies are spelled at the front, and a bracket after them
pub record FoundAll (orgs : Names) (levels : ℕ) (ps : Policies) (bytes rest : List ℕ) : Type 0 where
  pub lead : List ℕ
  pub text : List ℕ
  pub spaces : List ℕ
  pub lead_is : IsSpaces lead
  pub spelled : IsEach ps text
  pub spaces_is : IsSpaces spaces
  pub is : bytes ≡ lead ++ (text ++ (spaces ++ 41 ∷ rest))
  pub within : IsWithin orgs levels ps

-- ---- one policy before others

before_more : (IsFirst : List ℕ → Type 0) (after : Policies) (text spaces lead u : List ℕ) → IsFirst text → IsSpaces spaces → IsSpaces lead → IsEach after u →
    IsBefore IsFirst after (IsEach after) (text ++ (spaces ++ ((44 ∷ []) ++ (lead ++ u))))
before_more IsFirst End text spaces lead u f s l h = absurd h
before_more IsFirst (Org name after) text spaces lead u f s l h =
    seq IsFirst (IsByte 44 ⋯ IsEach (Org name after)) text spaces ((44 ∷ []) ++ (lead ++ u)) f s
    (seq (IsByte 44) (IsEach (Org name after)) (44 ∷ []) lead u refl l h)
before_more IsFirst (Of rule children after) text spaces lead u f s l h =
    seq IsFirst (IsByte 44 ⋯ IsEach (Of rule children after)) text spaces ((44 ∷ []) ++ (lead ++ u)) f s
    (seq (IsByte 44) (IsEach (Of rule children after)) (44 ∷ []) lead u refl l h)

abbrev Operator : Rule → Policies → List ℕ → Type 0
Operator rule children = IsOpening rule ⋯ IsEach children ⋯ IsByte 41

each_then : (p : Policy) (after : Policies) (text spaces lead u : List ℕ) → IsSpelled p text → IsSpaces spaces → IsSpaces lead → IsEach after u →
    IsEach (then_policy p after) (text ++ (spaces ++ ((44 ∷ []) ++ (lead ++ u))))
each_then (policy.Org name) after = before_more (IsLeaf name) after
each_then (policy.And children) after = before_more (Operator And children) after
each_then (policy.Or children) after = before_more (Operator Or children) after
each_then (policy.OutOf n children) after = before_more (Operator (OutOf n) children) after

deeper : (a levels : ℕ) → max a 0 ≤ levels → a ≤ levels
deeper a levels h = let l = le-max_left a 0 in omega arith

within_then : (orgs : Names) (levels : ℕ) (p : Policy) (after : Policies) → IsWithin orgs levels (alone p) → IsWithin orgs levels after →
    IsWithin orgs levels (then_policy p after)
within_then orgs levels (policy.Org name) after h k = record { known = (h.known.0, k.known); rules = k.rules; deep = k.deep }
within_then orgs levels (policy.And children) after h k =
    record { known = (h.known.0, k.known); rules = (h.rules.0, h.rules.1, k.rules); deep = max-le (deeper (suc (depth children)) levels h.deep) k.deep }
within_then orgs levels (policy.Or children) after h k =
    record { known = (h.known.0, k.known); rules = (h.rules.0, h.rules.1, k.rules); deep = max-le (deeper (suc (depth children)) levels h.deep) k.deep }
within_then orgs levels (policy.OutOf n children) after h k =
    record { known = (h.known.0, k.known); rules = (h.rules.0, h.rules.1, k.rules); deep = max-le (deeper (suc (depth children)) levels h.deep) k.deep }

spelled_of_rule : (rule : Rule) (children : Policies) (text : List ℕ) → Operator rule children text → IsSpelled (of_rule rule children) text
spelled_of_rule And children text h = h
spelled_of_rule Or children text h = h
spelled_of_rule (OutOf n) children text h = h

within_of_rule : (orgs : Names) (levels : ℕ) (rule : Rule) (children : Policies) → IsRule rule (count children) → IsWithin orgs levels children →
    IsWithin orgs (suc levels) (alone (of_rule rule children))
within_of_rule orgs levels And children r h =
    record { known = (h.known, tt); rules = (r, h.rules, tt); deep = max-le (let d = h.deep in omega arith) (omega arith) }
within_of_rule orgs levels Or children r h =
    record { known = (h.known, tt); rules = (r, h.rules, tt); deep = max-le (let d = h.deep in omega arith) (omega arith) }
within_of_rule orgs levels (OutOf n) children r h =
    record { known = (h.known, tt); rules = (r, h.rules, tt); deep = max-le (let d = h.deep in omega arith) (omega arith) }

made_taken : (rule : Rule) (ps : List Policy) (p : Policy) → made is_threshold rule ps ≡ Some p →
    (p ≡ of_rule rule (policies_of ps)) × IsRule rule (count (policies_of ps))
made_taken And ps p e = (sym (same_Some (policy.And (policies_of ps)) p e), tt)
made_taken Or ps p e = (sym (same_Some (policy.Or (policies_of ps)) p e), tt)
made_taken (OutOf n) ps p e =
    let g = guarded (nat_le 1 n && nat_le n (length ps)) (Some (policy.OutOf n (policies_of ps))) p e in
    let tests = both (nat_le 1 n) (nat_le n (length ps)) g.0 in
    (sym (same_Some (policy.OutOf n (policies_of ps)) p g.1), (leb-true _ _ tests.0, rw (count_is ps) (leb-true _ _ tests.1)))

-- ---- children

module _ (orgs : Names) (levels : ℕ) (read : List ℕ → Option (Policy × List ℕ))
    (reads : (bytes rest : List ℕ) (p : Policy) → read bytes ≡ Some (p, rest) → Found orgs levels p bytes rest) where
  -- the last child
  last_found : (p : Policy) (bytes middle rest : List ℕ) → read (after_spaces bytes) ≡ Some (p, middle) → comma_at middle ≡ Some (false, rest) →
      FoundAll orgs levels (alone p) bytes rest
  last_found p bytes middle rest first ends =
      let l = spaces_taken bytes in
      let f = reads (after_spaces bytes) middle p first in
      let c = comma_taken middle rest false ends in
      record {
        lead = l.0;
        text = f.text;
        spaces = c.0;
        lead_is = l.1;
        spelled = f.spelled;
        spaces_is = c.1;
        is = l.2 ∙ ap (λ (x : List ℕ). l.0 ++ x) (f.is ∙ ap (λ (x : List ℕ). f.text ++ x) c.2);
        within = f.within;
      }

  regroup : (a b c d e rest : List ℕ) → (a ++ (b ++ (c ++ (d ++ e)))) ++ rest ≡ a ++ (b ++ (c ++ (d ++ (e ++ rest))))
  regroup a b c d e rest = simp append_assoc

  -- a child before others
  more_found : (p : Policy) (ps : Policies) (bytes middle behind rest : List ℕ) → read (after_spaces bytes) ≡ Some (p, middle) →
      comma_at middle ≡ Some (true, behind) → FoundAll orgs levels ps behind rest → FoundAll orgs levels (then_policy p ps) bytes rest
  more_found p ps bytes middle behind rest first goes_on others =
      let l = spaces_taken bytes in
      let f = reads (after_spaces bytes) middle p first in
      let c = comma_taken middle behind true goes_on in
      record {
        lead = l.0;
        text = f.text ++ (c.0 ++ ((44 ∷ []) ++ (others.lead ++ others.text)));
        spaces = others.spaces;
        lead_is = l.1;
        spelled = each_then p ps f.text c.0 others.lead others.text f.spelled c.1 others.lead_is others.spelled;
        spaces_is = others.spaces_is;
        is = l.2 ∙ ap (λ (x : List ℕ). l.0 ++ x)
            (f.is ∙ ap (λ (x : List ℕ). f.text ++ x) (c.2 ∙ ap (λ (x : List ℕ). c.0 ++ 44 ∷ x) others.is) ∙
            sym (regroup f.text c.0 (44 ∷ []) others.lead others.text (others.spaces ++ 41 ∷ rest)));
        within = within_then orgs levels p ps f.within others.within;
      }

  pub children_found : (n : ℕ) (bytes rest : List ℕ) (ps : List Policy) → children_at read n bytes ≡ Some (ps, rest) →
      FoundAll orgs levels (policies_of ps) bytes rest
  unfolding children_at
  children_found zero bytes rest ps e = absurd cc
  children_found (suc n) bytes rest ps e =
      let s = bind_some (read (after_spaces bytes)) (λ p. comma_at p.1 >>= λ c. before p.0 (cond c.0 (children_at read n c.1) (Some ([], c.1)))) (ps, rest) e in
      let t = bind_some (comma_at s.0.1) (λ c. before s.0.0 (cond c.0 (children_at read n c.1) (Some ([], c.1)))) (ps, rest) s.2 in
      let u = bind_some (cond t.0.0 (children_at read n t.0.1) (Some ([], t.0.1))) (λ qs. Some (s.0.0 ∷ qs.0, qs.1)) (ps, rest) t.2 in
      let parts = some_pair_parts (s.0.0 ∷ u.0.0) ps u.0.1 rest u.2 in
      subst (λ (qs : List Policy). FoundAll orgs levels (policies_of qs) bytes rest) parts.0
      (subst (λ (r : List ℕ). FoundAll orgs levels (policies_of (s.0.0 ∷ u.0.0)) bytes r) parts.1
      (by_comma t.0.0 s.0.0 s.0.1 t.0.1 u.0.0 u.0.1 s.1 t.1 u.1 (children_found n t.0.1 u.0.1 u.0.0)))
    where
      by_comma : (more : Bool) (p : Policy) (middle behind : List ℕ) (qs : List Policy) (after : List ℕ) → read (after_spaces bytes) ≡ Some (p, middle) →
          comma_at middle ≡ Some (more, behind)
          → cond more (children_at read n behind) (Some ([], behind)) ≡ Some (qs, after) →
          (children_at read n behind ≡ Some (qs, after) → FoundAll orgs levels (policies_of qs) behind after) →
          FoundAll orgs levels (policies_of (p ∷ qs)) bytes after
      by_comma true p middle behind qs after first c o more = more_found p (policies_of qs) bytes middle behind after first c (more o)
      by_comma false p middle behind qs after first c o more =
          let parts = some_pair_parts [] qs behind after o in
          subst (λ (q : List Policy). FoundAll orgs levels (policies_of (p ∷ q)) bytes after) parts.0
          (subst (λ (r : List ℕ). FoundAll orgs levels (alone p) bytes r) parts.1 (last_found p bytes middle behind first c))

  pub operator_found : (bytes rest : List ℕ) (p : Policy) → operator_at is_threshold read bytes ≡ Some (p, rest) → Found orgs (suc levels) p bytes rest
  operator_found bytes rest p e =
      let s = bind_some (opening_at bytes) (λ o. children_at read 1024 o.1 >>= λ ps. made_at is_threshold o.0 ps.0 ps.1) (p, rest) e in
      let t = bind_some (children_at read 1024 s.0.1) (λ ps. made_at is_threshold s.0.0 ps.0 ps.1) (p, rest) s.2 in
      let u = bind_some (made is_threshold s.0.0 t.0.0) (λ q. Some (q, t.0.1)) (p, rest) t.2 in
      let parts = some_pair_parts u.0 p t.0.1 rest u.2 in
      let o = opening_taken bytes s.0.1 s.0.0 s.1 in
      let c = children_found 1024 s.0.1 t.0.1 t.0.0 t.1 in
      let m = made_taken s.0.0 t.0.0 u.0 u.1 in
      let ps = policies_of t.0.0 in
      let text = o.0 ++ (c.lead ++ (c.text ++ (c.spaces ++ 41 ∷ []))) in
      let same : of_rule s.0.0 ps ≡ p = sym m.0 ∙ parts.0 in
      subst (λ (q : Policy). Found orgs (suc levels) q bytes rest) same
      (record {
        text = text;
        spelled = spelled_of_rule s.0.0 ps text
            (seq (IsOpening s.0.0) (IsEach ps ⋯ IsByte 41) o.0 c.lead (c.text ++ (c.spaces ++ 41 ∷ [])) o.1 c.lead_is
            (seq (IsEach ps) (IsByte 41) c.text c.spaces (41 ∷ []) c.spelled c.spaces_is refl));
        is = o.2 ∙ ap (λ (x : List ℕ). o.0 ++ x) (c.is ∙ ap (λ (x : List ℕ). c.lead ++ (c.text ++ (c.spaces ++ 41 ∷ x))) parts.1) ∙
            sym (regroup o.0 c.lead c.text c.spaces (41 ∷ []) rest);
        within = within_of_rule orgs levels s.0.0 ps m.1 c.within;
      })

-- ---- policies

leaf_found : (orgs : Names) (levels : ℕ) (bytes rest : List ℕ) (p : Policy) → leaf_at (is_among orgs) bytes ≡ Some (p, rest) → Found orgs levels p bytes rest
leaf_found orgs levels bytes rest p e =
    let l = leaf_taken (is_among orgs) bytes rest p e in
    subst (λ (q : Policy). Found orgs levels q bytes rest) (sym l.1)
    (record { text = l.3; spelled = l.4; is = l.5; within = record { known = (l.2, tt); rules = tt; deep = omega arith } })

pub policy_found : (orgs : Names) (levels : ℕ) (bytes rest : List ℕ) (p : Policy) → policy_at (is_among orgs) is_threshold levels bytes ≡ Some (p, rest) →
    Found orgs levels p bytes rest
unfolding policy_at
policy_found orgs zero bytes rest p e = leaf_found orgs 0 bytes rest p e
policy_found orgs (suc levels) bytes rest p e =
    either (is_quoted bytes) (leaf_at (is_among orgs) bytes) (operator_at is_threshold (policy_at (is_among orgs) is_threshold levels) bytes) (p, rest)
    (Found orgs (suc levels) p bytes rest)
    (λ q. leaf_found orgs (suc levels) bytes rest p)
    (λ q. operator_found orgs levels (policy_at (is_among orgs) is_threshold levels) (policy_found orgs levels) bytes rest p) e
