-- Reading the whole of a text gives the policy that it spells, and no other.
use Rattle.std.proofs.Common.{◌≡◌, ℕ, ◌+◌, ◌≤◌, Bool, true, false, cond, eqb, List, [], ◌++◌, length, Option, Some, None, inl, inr, refl, sym, ap}
use Rattle.std.proofs.Common.{subst, ◌∙◌, arith, Result, Ok, Err}
use Rattle.std.specs.Prelude.{IfOk, IfErr}
use Rattle.std.proofs.lemmas.Bool.{eqb-true, ne_eqb, le-leb, cases_lt, cond-false}
use Rattle.std.proofs.lemmas.Option.{same_Some}
use Rattle.std.proofs.lemmas.List.{append-nil, nil_from_length}
use Rattle.grammar.specs.Reading.{◌>>=◌, whole_at}
use Rattle.grammar.specs.Laws.Steps.{bind_some, guarded}
use Rattle.policy_language.specs.Tree.{Rule, And, Or, OutOf, Policies, End, Org, Of}
use Rattle.policy_language.specs.View.{alone}
use Rattle.policy_language.specs.Evaluation.{count}
use Rattle.policy_language.specs.GoodSets.{Name, Names, is_among, needs_someone}
use Rattle.policy_language.specs.Spelling.{IsSpelled}
use Rattle.policy_language.specs.Limits.{IsText, IsRule, HasKnown, HasRules, depth}
use Rattle.policy_language.specs.Leniency.{Leniency, strict}
use Rattle.policy_language.specs.Reading.{policy_at, policy_by, policy_in_text, is_known_by, fits_by, is_threshold}
use Rattle.policy_language.specs.Faults.{Fails, Finds, HasCause}
use Rattle.policy_language.specs.Parsing.{MakesBy, Keeps}
use Rattle.policy_language.specs.declared.policy.Policy.{Policy}
use Rattle.policy_language.specs.declared.fault.PolicyFault.{PolicyFault}
use Rattle.policy_language.specs.declared.fault.PolicyFault.TheVariants.{Memory, Syntax, UnknownOrganisation, Threshold, TooDeep}
use Rattle.policy_language.proofs.Needed.{spelled_needs}
use Rattle.policy_language.proofs.Texts.{FitsRule, FitsAll, KnowsAll, policy_read}
use Rattle.policy_language.proofs.Found.{policy_found}

-- ---- what a reading overlooks

all_known : (is_known : Name → Bool) → ((name : Name) → is_known name ≡ true) → (ps : Policies) → KnowsAll is_known ps
all_known is_known any End = tt
all_known is_known any (Org name after) = (any name, all_known is_known any after)
all_known is_known any (Of rule children after) = (all_known is_known any children, all_known is_known any after)

known_by : (orgs : Names) (is_known : Name → Bool) → ((name : Name) → is_among orgs name ≡ true → is_known name ≡ true) → (ps : Policies) → HasKnown orgs ps →
    KnowsAll is_known ps
known_by orgs is_known f End h = tt
known_by orgs is_known f (Org name after) h = (f name h.0, known_by orgs is_known f after h.1)
known_by orgs is_known f (Of rule children after) h = (known_by orgs is_known f children h.0, known_by orgs is_known f after h.1)

rule_fits : (fits : ℕ → ℕ → Bool) → ((n children : ℕ) → fits n children ≡ true) → (rule : Rule) (children : ℕ) → FitsRule fits rule children
rule_fits fits any And children = tt
rule_fits fits any Or children = tt
rule_fits fits any (OutOf n) children = any n children

all_fit : (fits : ℕ → ℕ → Bool) → ((n children : ℕ) → fits n children ≡ true) → (ps : Policies) → FitsAll fits ps
all_fit fits any End = tt
all_fit fits any (Org name after) = all_fit fits any after
all_fit fits any (Of rule children after) = (rule_fits fits any rule (count children), all_fit fits any children, all_fit fits any after)

rule_kept : (rule : Rule) (children : ℕ) → IsRule rule children → FitsRule is_threshold rule children
rule_kept And children h = tt
rule_kept Or children h = tt
rule_kept (OutOf n) children h = rw (le-leb 1 n h.0, le-leb n children h.1) refl

rules_kept : (ps : Policies) → HasRules ps → FitsAll is_threshold ps
rules_kept End h = tt
rules_kept (Org name after) h = rules_kept after h
rules_kept (Of rule children after) h = (rule_kept rule (count children) h.0, rules_kept children h.1, rules_kept after h.2)

-- bytes that are left over are no part of a whole
pub left_over : {A : Type 0} (read : List ℕ → Option (A × List ℕ)) (bytes rest : List ℕ) (x : A) → read bytes ≡ Some (x, rest) → (rest ≡ [] → ⊥) →
    whole_at read bytes ≡ None
left_over {A = A} read bytes rest x e more =
    let some : eqb (length rest) 0 ≡ false = ne_eqb (length rest) 0 (λ none. more (nil_from_length rest none)) in
    ap (λ (o : Option (A × List ℕ)). o >>= λ y. cond (eqb (length y.1) 0) (Some y.0) None) e ∙ cond-false (eqb (length rest) 0) (Some x) None some

module _ (orgs : Names) where
  pub whole_found : (text : List ℕ) (p : Policy) → length text ≤ 1024 → whole_at (policy_by orgs strict 8) text ≡ Some p → IsText orgs p text
  whole_found text p few e =
      let s = bind_some (policy_at (is_among orgs) is_threshold 8 text) (λ x. cond (eqb (length x.1) 0) (Some x.0) None) p e in
      let g = guarded (eqb (length s.0.1) 0) (Some s.0.0) p s.2 in
      let none : s.0.1 ≡ [] = nil_from_length s.0.1 (eqb-true _ _ g.0) in
      let f = policy_found orgs 8 text s.0.1 s.0.0 s.1 in
      let is : f.text ≡ text = sym (f.is ∙ ap (λ (x : List ℕ). f.text ++ x) none ∙ append-nil f.text) in
      subst (λ (q : Policy). IsText orgs q text) (same_Some s.0.0 p g.1)
      (record {
        spelled = rw is at f.spelled;
        length = few;
        organisations = f.within.known;
        thresholds = f.within.rules;
        depth = f.within.deep;
      })

  module _ (text : List ℕ) (p : Policy) (spelled : IsSpelled p text) (few : length text ≤ 1024) where
    whole_read : (m : Leniency) → KnowsAll (is_known_by orgs m) (alone p) → FitsAll (fits_by m) (alone p) → depth (alone p) ≤ 8 + m.more →
        whole_at (policy_by orgs m 8) text ≡ Some p
    whole_read m known fit deep =
        let all : policy_by orgs m 8 text ≡ Some (p, []) =
        ap (policy_by orgs m 8) (sym (append-nil text)) ∙ policy_read (is_known_by orgs m) (fits_by m) p (8 + m.more) text [] spelled deep known fit few in
        rw all refl

    read_anyway : (m : Leniency) → KnowsAll (is_known_by orgs m) (alone p) → FitsAll (fits_by m) (alone p) → depth (alone p) ≤ 8 + m.more →
        whole_at (policy_by orgs m 8) text ≡ None → ⊥
    read_anyway m known fit deep none = let some = whole_read m known fit deep in let clash : Some p ≡ None = sym some ∙ none in cc

    -- a fault says what is at fault in the policy that the text spells
    pub blamed : (e : PolicyFault) → Fails e ((m : Leniency) → Keeps e m → whole_at (policy_by orgs m 8) text ≡ None) → HasCause orgs e p
    blamed Memory none = tt
    blamed (Syntax o) none =
        let m : Leniency = record { any_name = true; any_threshold = true; more = depth (alone p) } in
        read_anyway m (all_known _ (λ name. refl) (alone p)) (all_fit _ (λ n c. refl) (alone p)) (omega arith) (none m tt)
    blamed UnknownOrganisation none = λ known.
        (let m : Leniency = record { any_name = false; any_threshold = true; more = depth (alone p) } in
        read_anyway m (known_by orgs _ (λ name h. h) (alone p) known) (all_fit _ (λ n c. refl) (alone p)) (omega arith) (none m refl))
    blamed Threshold none = λ rules.
        (let m : Leniency = record { any_name = true; any_threshold = false; more = depth (alone p) } in
        read_anyway m (all_known _ (λ name. refl) (alone p)) (rules_kept (alone p) rules) (omega arith) (none m refl))
    blamed TooDeep none =
        elim (cases_lt 8 (depth (alone p))) [
          | inl deep ↦ deep
          | inr flat ↦ (let m : Leniency = record { any_name = true; any_threshold = true; more = 0 } in
              absurd (read_anyway m (all_known _ (λ name. refl) (alone p)) (all_fit _ (λ n c. refl) (alone p)) (omega arith) (none m refl)))
        ]

  pub strictly : (text : List ℕ) (p : Policy) → IsText orgs p text → whole_at (policy_by orgs strict 8) text ≡ Some p
  strictly text p h = whole_read text p h.spelled h.length strict (known_by orgs _ (λ name k. k) (alone p) h.organisations) (rules_kept (alone p) h.thresholds)
      h.depth

  pub same : (text : List ℕ) (p q : Policy) → IsText orgs p text → IsText orgs q text → p ≡ q
  same text p q h k = same_Some p q (sym (strictly text p h) ∙ strictly text q k)

  -- a fault is at odds with a policy within the limits
  refused : (e : PolicyFault) (text : List ℕ) (p : Policy) → HasCause orgs e p → IsText orgs p text → Fails e ⊥
  refused Memory text p cause h = tt
  refused (Syntax o) text p cause h = cause
  refused UnknownOrganisation text p cause h = cause h.organisations
  refused Threshold text p cause h = cause h.thresholds
  refused TooDeep text p cause h = let d = h.depth in omega arith

-- ---- what reading the whole of a text says of its result

module _ (orgs : Names) (text : List ℕ) (few : length text ≤ 1024) where
  abbrev IsRead : Result Policy PolicyFault → Type 0
  IsRead result = MakesBy result (λ m. whole_at (policy_by orgs m 8) text)

  pub is_text : (result : Result Policy PolicyFault) → IsRead result → IfOk result (λ p. IsText orgs p text)
  is_text (Ok p) read = whole_found orgs text p few (read strict)
  is_text (Err e) read = tt

  pub is_only : (result : Result Policy PolicyFault) → IsRead result → (p : Policy) → IsText orgs p text → Finds result p
  is_only (Ok q) read p h = same orgs text q p (whole_found orgs text q few (read strict)) h
  is_only (Err e) read p h = refused orgs e text p (blamed orgs text p h.spelled few e read) h

  pub is_caused : (result : Result Policy PolicyFault) → IsRead result →
      IfErr result (λ e. (p : Policy) → IsSpelled p text → length text ≤ 1024 → HasCause orgs e p)
  is_caused (Ok p) read = tt
  is_caused (Err e) read = λ p spelled within. blamed orgs text p spelled within e read

  pub is_needed : (result : Result Policy PolicyFault) → IsRead result → IfOk result (λ p. needs_someone p ≡ true)
  is_needed (Ok p) read = let h = whole_found orgs text p few (read strict) in spelled_needs p text h.spelled h.thresholds
  is_needed (Err e) read = tt

-- a text that is a policy needs somebody
pub text_needs : (orgs : Names) (text : List ℕ) (p : Policy) → policy_in_text orgs text ≡ Some p → needs_someone p ≡ true
text_needs orgs text p e =
    let s = bind_some (policy_at (is_among orgs) is_threshold 8 text) (λ x. cond (eqb (length x.1) 0) (Some x.0) None) p e in
    let g = guarded (eqb (length s.0.1) 0) (Some s.0.0) p s.2 in
    let f = policy_found orgs 8 text s.0.1 s.0.0 s.1 in
    subst (λ (q : Policy). needs_someone q ≡ true) (same_Some s.0.0 p g.1) (spelled_needs s.0.0 f.text f.spelled f.within.rules)
