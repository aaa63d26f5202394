-- What stands at the front of a text, by its first byte and the operators that may still come.
use Rattle.std.proofs.Common.{◌≡◌, ℕ, zero, suc, Bool, true, false, cond, ◌&&◌, ◌||◌, List, [], ◌∷◌, Option, Some, None, refl, ◌∙◌, arith}
use Rattle.std.specs.Prelude.{nat_le, length}
use Rattle.std.specs.List.{list_all}
use Rattle.std.proofs.lemmas.Bool.{le-leb, leb-true}
use Rattle.fab_types.specs.Limits.{IsOrgName, is_org_name_byte}
use Rattle.grammar.specs.Reading.{◌>>=◌}
use Rattle.policy_language.specs.Tree.{Rule, And, Or, OutOf}
use Rattle.policy_language.specs.View.{policies_of}
use Rattle.policy_language.specs.GoodSets.{Name, Names, is_among}
use Rattle.policy_language.specs.Leniency.{Leniency}
use Rattle.policy_language.specs.Reading.{leaf_at, quoted_at, is_org_name, is_known_by, fits_by, is_threshold, opening_at, children_at, operator_at, made}
use Rattle.policy_language.specs.Reading.{is_quoted, policy_at}
use Rattle.policy_language.specs.declared.policy.Policy.{Policy}
use Rattle.policy_language.specs.declared.policy.Policy.TheVariants as policy

module _ (is_known : Name → Bool) (fits : ℕ → ℕ → Bool) where
  pub quoted : (levels : ℕ) (bytes : List ℕ) → is_quoted bytes ≡ true → policy_at is_known fits levels bytes ≡ leaf_at is_known bytes
  unfolding policy_at
  quoted zero bytes q = refl
  quoted (suc levels) bytes q = rw q refl

  no_leaf : (bytes : List ℕ) → is_quoted bytes ≡ false → leaf_at is_known bytes ≡ None
  unfolding leaf_at quoted_at
  no_leaf [] q = refl
  no_leaf (b ∷ bytes) q = rw q refl

  pub unopened : (levels : ℕ) (bytes : List ℕ) → is_quoted bytes ≡ false → opening_at bytes ≡ None → policy_at is_known fits levels bytes ≡ None
  unfolding policy_at
  unopened zero bytes q none = no_leaf bytes q
  unopened (suc levels) bytes q none = rw (q, none) refl

  pub at_bottom : (levels : ℕ) (bytes : List ℕ) → is_quoted bytes ≡ false → levels ≡ 0 → policy_at is_known fits levels bytes ≡ None
  unfolding policy_at
  at_bottom zero bytes q e = no_leaf bytes q
  at_bottom (suc levels) bytes q e = absurd (omega arith)

  pub operated : (levels inner : ℕ) (bytes : List ℕ) → is_quoted bytes ≡ false → levels ≡ suc inner →
      policy_at is_known fits levels bytes ≡ operator_at fits (policy_at is_known fits inner) bytes
  unfolding policy_at
  operated levels inner bytes q e = rw (e, q) refl

  module _ (levels inner : ℕ) (bytes : List ℕ) (q : is_quoted bytes ≡ false) (one : levels ≡ suc inner) (rule : Rule) (rest : List ℕ)
      (opened : opening_at bytes ≡ Some (rule, rest)) where
    pub unfed : children_at (policy_at is_known fits inner) 1024 rest ≡ None → policy_at is_known fits levels bytes ≡ None
    unfed none = operated levels inner bytes q one ∙ rw (opened, none) refl

    pub fed : (children : List Policy) (after : List ℕ) → children_at (policy_at is_known fits inner) 1024 rest ≡ Some (children, after) →
        policy_at is_known fits levels bytes ≡ (made fits rule children >>= λ p. Some (p, after))
    fed children after some = operated levels inner bytes q one ∙ rw (opened, some) refl

-- ---- names

pub unquoted : (is_known : Name → Bool) (bytes : List ℕ) → quoted_at bytes ≡ None → leaf_at is_known bytes ≡ None
unfolding leaf_at
unquoted is_known bytes none = rw none refl

not_named : (name : List ℕ) → (IsOrgName name → ⊥) → is_org_name name ≡ false
not_named name wrong = decided (nat_le 1 (length name)) (nat_le (length name) 32) (list_all is_org_name_byte name) refl refl refl
  where
    decided : (a b c : Bool) → nat_le 1 (length name) ≡ a → nat_le (length name) 32 ≡ b → list_all is_org_name_byte name ≡ c → ((a && b) && c) ≡ false
    decided true true true e f g = absurd (wrong (leb-true _ _ e, leb-true _ _ f, g))
    decided true true false e f g = refl
    decided true false c e f g = refl
    decided false b c e f g = refl

pub misnamed : (is_known : Name → Bool) (bytes name rest : List ℕ) → quoted_at bytes ≡ Some (name, rest) → (IsOrgName name → ⊥) → leaf_at is_known bytes ≡ None
unfolding leaf_at
misnamed is_known bytes name rest some wrong = rw (some, not_named name wrong) refl

module _ (orgs : Names) (m : Leniency) (bytes name rest : List ℕ) (some : quoted_at bytes ≡ Some (name, rest)) where
  pub unknown : is_among orgs name ≡ false → m.any_name ≡ false → leaf_at (is_known_by orgs m) bytes ≡ None
  unfolding leaf_at
  unknown none e = rw (some, e, none) (decided (is_org_name name))
    where
      decided : (b : Bool) → cond {A = Option (Policy × List ℕ)} (b && false) (Some (policy.Org name, rest)) None ≡ None
      decided true = refl
      decided false = refl

  pub known : IsOrgName name → is_among orgs name ≡ true → leaf_at (is_known_by orgs m) bytes ≡ Some (policy.Org name, rest)
  unfolding leaf_at
  known right is = rw (some, le-leb 1 (length name) right.0, le-leb (length name) 32 right.1, right.2, is) (decided m.any_name)
    where
      decided : (b : Bool) → cond {A = Option (Policy × List ℕ)} (b || true) (Some (policy.Org name, rest)) None ≡ Some (policy.Org name, rest)
      decided true = refl
      decided false = refl

-- ---- operators

pub made_by : (m : Leniency) (rule : Rule) (children : List Policy) (p : Policy) → made is_threshold rule children ≡ Some p →
    made (fits_by m) rule children ≡ Some p
made_by m And children p e = e
made_by m Or children p e = e
made_by m (OutOf n) children p e = decided m.any_threshold (is_threshold n (length children)) e
  where
    decided : (any b : Bool) → cond b (Some (policy.OutOf n (policies_of children))) None ≡ Some p →
        cond (any || b) (Some (policy.OutOf n (policies_of children))) None ≡ Some p
    decided true true e = e
    decided true false e = absurd cc
    decided false b e = e

pub not_made : (m : Leniency) (rule : Rule) (children : List Policy) → made is_threshold rule children ≡ None → m.any_threshold ≡ false →
    made (fits_by m) rule children ≡ None
not_made m And children e none = absurd cc
not_made m Or children e none = absurd cc
not_made m (OutOf n) children e none = rw none e
