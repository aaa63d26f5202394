-- How texts spell policies.
use Rattle.std.specs.Prelude.{◌≡◌, ℕ, ◌+◌, ◌-◌, ◌*◌, ◌≤◌, ◌==◌, Bool, true, false, List, [], ◌∷◌, ◌++◌, length, codes}
use Rattle.std.specs.List.{list_all}
use Rattle.grammar.specs.Spelling.{◌⟫◌, IsByte, IsText}
use Rattle.fab_types.specs.Limits.{IsOrgName, is_digit}
use Rattle.policy_language.specs.Tree.{Rule, And, Or, OutOf, Policies, End, Org, Of}
use Rattle.policy_language.specs.View.{alone}
use Rattle.policy_language.specs.declared.policy.Policy.{Policy}

-- any number of spaces
abbrev pub IsSpaces : List ℕ → Type 0
IsSpaces text = list_all (λ b. b == 32) text ≡ true

-- one token, any spaces, and what comes after them
infixr 5 ◌⋯◌
abbrev pub ◌⋯◌ : (List ℕ → Type 0) → (List ℕ → Type 0) → List ℕ → Type 0
(P ⋯ Q) = P ⟫ (IsSpaces ⟫ Q)

-- the name of an organisation in single quotes
abbrev pub IsLeaf : List ℕ → List ℕ → Type 0
IsLeaf name text = IsOrgName name × (text ≡ 39 ∷ (name ++ 39 ∷ []))

-- what decimal digits stand for, after others that stand for n
abbrev pub decimal_after : ℕ → List ℕ → ℕ
decimal_after n [] = n
decimal_after n (d ∷ ds) = decimal_after (10 * n + (d - 48)) ds

-- a digit 0 before others
abbrev pub leads_with_zero : List ℕ → Bool
leads_with_zero [] = false
leads_with_zero (d ∷ []) = false
leads_with_zero (d ∷ e ∷ ds) = d == 48

-- one to four decimal digits, which begin with 0 only as 0
pub record IsThreshold (n : ℕ) (text : List ℕ) : Type 0 where
  pub least : 1 ≤ length text
  pub greatest : length text ≤ 4
  pub digits : list_all is_digit text ≡ true
  pub plain : leads_with_zero text ≡ false
  pub value : n ≡ decimal_after 0 text

-- an operator with its bracket, and with its threshold and a comma
abbrev pub IsOpening : Rule → List ℕ → Type 0
IsOpening And = IsText (codes "AND") ⋯ IsByte 40
IsOpening Or = IsText (codes "OR") ⋯ IsByte 40
IsOpening (OutOf n) = IsText (codes "OutOf") ⋯ IsByte 40 ⋯ IsThreshold n ⋯ IsByte 44

-- one policy, and those after it behind a comma
abbrev pub IsBefore : (List ℕ → Type 0) → (after : Policies) → (List ℕ → Type 0) → List ℕ → Type 0
IsBefore IsFirst End IsAfter = IsFirst
IsBefore IsFirst (Org name after) IsAfter = IsFirst ⋯ IsByte 44 ⋯ IsAfter
IsBefore IsFirst (Of rule children after) IsAfter = IsFirst ⋯ IsByte 44 ⋯ IsAfter

-- policies, at least one, with commas between
abbrev pub IsEach : Policies → List ℕ → Type 0
IsEach End = λ text. ⊥
IsEach (Org name after) = IsBefore (IsLeaf name) after (IsEach after)
IsEach (Of rule children after) = IsBefore (IsOpening rule ⋯ IsEach children ⋯ IsByte 41) after (IsEach after)

-- the text spells the policy
abbrev pub IsSpelled : Policy → List ℕ → Type 0
IsSpelled policy = IsEach (alone policy)
