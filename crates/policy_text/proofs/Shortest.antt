-- The text that is written spells the policy where any text does, and no such text is shorter.
use Rattle.std.proofs.Common.{◌≡◌, ℕ, ◌<◌, ◌≤◌, ◌^◌, get_or, true, false, List, [], ◌∷◌, ◌++◌, length, refl, sym, ap, subst, ◌∙◌, arith, codes, rules}
use Rattle.std.specs.Prelude.{decimal}
use Rattle.std.specs.List.{list_all}
use Rattle.std.proofs.lemmas.Fmt.{decimal-digits_value}
use Rattle.std.proofs.lemmas.List.{append-nil, length-append}
use Rattle.std.proofs.lemmas.Str.Parse.{IsNumeralModel, numerals_by_fold, digits_value_short}
use Rattle.std.proofs.lemmas.Bool.Decides.{nat_tests}
use Rattle.grammar.specs.Spelling as spelling
use Rattle.grammar.specs.Spelling.{IsByte}
use Rattle.fab_types.specs.Limits.{is_digit}
use Rattle.policy_language.specs.GoodSets.{Names}
use Rattle.policy_language.specs.Tree.{Rule, And, Or, OutOf, Policies, End, Org, Of}
use Rattle.policy_language.specs.View.{alone}
use Rattle.policy_language.specs.Limits.{IsText}
use Rattle.policy_language.specs.Spelling.{IsSpaces, ◌⋯◌, IsLeaf, IsOpening, IsBefore, IsEach, IsThreshold, decimal_after, leads_with_zero}
use Rattle.policy_language.specs.declared.policy.Policy.{Policy}
use Rattle.policy_text.specs.Text.{name_text, opening_text, behind, each_text, policy_text}

own : IsNumeralModel (λ ds. list_all is_digit ds ≡ true) (decimal_after 0)
own = numerals_by_fold _ (search rules) decimal_after (search rules)

lead_zero : (t : List ℕ) → leads_with_zero t ≡ false → 1 ≤ length t → get_or t 0 0 ≡ 48 → length t ≡ 1
lead_zero [] plain some is = absurd (omega arith)
lead_zero (d ∷ []) plain some is = refl
lead_zero (d ∷ e ∷ ds) plain some is = absurd (grind (arith, nat_tests))

-- a threshold has one spelling
threshold_is : (n : ℕ) (t : List ℕ) → IsThreshold n t → decimal n ≡ t
threshold_is n t h =
    let few : decimal_after 0 t < 10 ^ 4 = digits_value_short own t 4 h.digits h.greatest in
    ap decimal h.value ∙ decimal-digits_value own t h.digits h.least (lead_zero t h.plain h.least) (omega arith)

-- the first text spells what the second does, and is no longer
record Shortens (P : List ℕ → Type 0) (short long : List ℕ) : Type 0 where
  spells : P short
  shorter : length short ≤ length long

no_spaces : IsSpaces []
no_spaces = refl

-- two parts, with nothing between
joined : (P Q : List ℕ → Type 0) (a b text : List ℕ) → ((t : List ℕ) → P t → Shortens P a t) → ((t : List ℕ) → Q t → Shortens Q b t) →
    (P ⋯ Q) text → Shortens (P ⋯ Q) (a ++ b) text
joined P Q a b text p q h =
    let u = h.3 in
    let first = p h.0 h.2 in
    let second = q u.1 u.3 in
    record {
      spells = (a, b, first.spells, ([], b, no_spaces, second.spells, refl), refl);
      shorter = rw (h.4, u.4) (omega (arith, first.shorter, second.shorter, length-append {A = ℕ}));
    }

byte_same : (b : ℕ) (t : List ℕ) → IsByte b t → Shortens (IsByte b) (b ∷ []) t
byte_same b t h = record { spells = refl; shorter = rw h (omega arith) }

text_same : (bytes t : List ℕ) → spelling.IsText bytes t → Shortens (spelling.IsText bytes) bytes t
text_same bytes t h = record { spells = refl; shorter = rw h (omega arith) }

leaf_same : (name t : List ℕ) → IsLeaf name t → Shortens (IsLeaf name) (name_text name) t
leaf_same name t h = record { spells = (h.0, refl); shorter = rw h.1 (omega arith) }

threshold_same : (n : ℕ) (t : List ℕ) → IsThreshold n t → Shortens (IsThreshold n) (decimal n) t
threshold_same n t h = subst (λ (s : List ℕ). Shortens (IsThreshold n) s t) (sym (threshold_is n t h)) (record { spells = h; shorter = omega arith })

opening_shortens : (rule : Rule) (t : List ℕ) → IsOpening rule t → Shortens (IsOpening rule) (opening_text rule) t
opening_shortens And t h = joined (spelling.IsText (codes "AND")) (IsByte 40) (codes "AND") (40 ∷ []) t (text_same (codes "AND")) (byte_same 40) h
opening_shortens Or t h = joined (spelling.IsText (codes "OR")) (IsByte 40) (codes "OR") (40 ∷ []) t (text_same (codes "OR")) (byte_same 40) h
opening_shortens (OutOf n) t h =
    joined (spelling.IsText (codes "OutOf")) (IsByte 40 ⋯ IsThreshold n ⋯ IsByte 44) (codes "OutOf") (40 ∷ (decimal n ++ 44 ∷ [])) t (text_same (codes "OutOf"))
    (λ u. joined (IsByte 40) (IsThreshold n ⋯ IsByte 44) (40 ∷ []) (decimal n ++ 44 ∷ []) u (byte_same 40)
    (λ v. joined (IsThreshold n) (IsByte 44) (decimal n) (44 ∷ []) v (threshold_same n) (byte_same 44))) h

module _ (IsFirst IsAfter : List ℕ → Type 0) (a b : List ℕ) (first : (t : List ℕ) → IsFirst t → Shortens IsFirst a t)
    (next : (t : List ℕ) → IsAfter t → Shortens IsAfter b t)
  where
    more_shortens : (t : List ℕ) → (IsFirst ⋯ IsByte 44 ⋯ IsAfter) t → Shortens (IsFirst ⋯ IsByte 44 ⋯ IsAfter) (a ++ 44 ∷ b) t
    more_shortens t h =
        joined IsFirst (IsByte 44 ⋯ IsAfter) a (44 ∷ b) t first (λ u. joined (IsByte 44) IsAfter (44 ∷ []) b u (byte_same 44) next) h

    before_shortens : (after : Policies) (t : List ℕ) → IsBefore IsFirst after IsAfter t →
        Shortens (IsBefore IsFirst after IsAfter) (a ++ behind after b) t
    before_shortens End t h = subst (λ (s : List ℕ). Shortens IsFirst s t) (sym (append-nil a)) (first t h)
    before_shortens (Org name after) t h = more_shortens t h
    before_shortens (Of rule children after) t h = more_shortens t h

each_shortens : (ps : Policies) (t : List ℕ) → IsEach ps t → Shortens (IsEach ps) (each_text ps) t
each_shortens End t h = absurd h
each_shortens (Org name after) t h =
    before_shortens (IsLeaf name) (IsEach after) (name_text name) (each_text after) (leaf_same name) (each_shortens after) after t h
each_shortens (Of rule children after) t h =
    before_shortens (IsOpening rule ⋯ IsEach children ⋯ IsByte 41) (IsEach after) (opening_text rule ++ (each_text children ++ 41 ∷ [])) (each_text after)
    (λ u. joined (IsOpening rule) (IsEach children ⋯ IsByte 41) (opening_text rule) (each_text children ++ 41 ∷ []) u (opening_shortens rule)
    (λ v. joined (IsEach children) (IsByte 41) (each_text children) (41 ∷ []) v (each_shortens children) (byte_same 41)))
    (each_shortens after) after t h

-- where a text spells the policy within the limits, the written one does too
pub text_stands : (orgs : Names) (p : Policy) (text : List ℕ) → IsText orgs p text → IsText orgs p (policy_text p)
text_stands orgs p text h =
    let s = each_shortens (alone p) text h.spelled in
    record {
      spelled = s.spells;
      length = omega (arith, s.shorter, h.length);
      organisations = h.organisations;
      thresholds = h.thresholds;
      depth = h.depth;
    }
