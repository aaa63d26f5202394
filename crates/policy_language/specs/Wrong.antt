-- Where a text is wrong: behind tokens that may stand where they do, where none stands that may.
use Rattle.std.specs.Prelude.{◌≡◌, ℕ, zero, suc, ◌+◌, ◌⊎◌, List, [], ◌∷◌, ◌++◌, length, codes}
use Rattle.std.specs.List.{prefix_len}
use Rattle.fab_types.specs.Limits.{is_digit}
use Rattle.policy_language.specs.Spelling.{IsSpaces, IsLeaf, IsThreshold}
use Rattle.policy_language.specs.declared.fault.PolicyFault.{PolicyFault}
use Rattle.policy_language.specs.declared.fault.PolicyFault.TheVariants.{Memory, Syntax, UnknownOrganisation, Threshold, TooDeep}

-- What may come next inside so many operators: the start of a policy; the bracket of AND or OR, or of OutOf; a threshold, or the comma behind it; and
-- behind a policy more of them or the operator's end, or nothing more inside none.
pub data Next : Type 0 where
  Start : (inside : ℕ) → Next
  Bracket : (inside : ℕ) → Next
  CountBracket : (inside : ℕ) → Next
  Count : (inside : ℕ) → Next
  CountComma : (inside : ℕ) → Next
  More : (inside : ℕ) → Next

-- the token may come next, with those bytes behind it, and what may come then; digits are one token as far as they go
abbrev pub Takes : Next → (token behind : List ℕ) → Next → Type 0
Takes (Start n) token behind next =
    ((name : List ℕ) × IsLeaf name token × (next ≡ More n))
    ⊎ ((token ≡ codes "AND") × (next ≡ Bracket n))
    ⊎ ((token ≡ codes "OR") × (next ≡ Bracket n))
    ⊎ ((token ≡ codes "OutOf") × (next ≡ CountBracket n))
Takes (Bracket n) token behind next = (token ≡ codes "(") × (next ≡ Start (suc n))
Takes (CountBracket n) token behind next = (token ≡ codes "(") × (next ≡ Count (suc n))
Takes (Count n) token behind next =
    (threshold : ℕ) × IsThreshold threshold token × (prefix_len is_digit behind ≡ 0) × (next ≡ CountComma n)
Takes (CountComma n) token behind next = (token ≡ codes ",") × (next ≡ Start n)
Takes (More zero) token behind next = ⊥
Takes (More (suc n)) token behind next =
    ((token ≡ codes ",") × (next ≡ Start (suc n))) ⊎ ((token ≡ codes ")") × (next ≡ More n))

-- Behind these pieces of the text, the last one first, those bytes are left, and this may come next: a piece is spaces, or a token that may stand
-- where it does.
abbrev pub Leads : (pieces : List (List ℕ)) → (text : List ℕ) → Next → (left : List ℕ) → Type 0
Leads [] text next left = (next ≡ Start 0) × (left ≡ text)
Leads (piece ∷ pieces) text next left =
    (before : Next) × Leads pieces text before (piece ++ left) × ((IsSpaces piece × (next ≡ before)) ⊎ Takes before piece left next)

-- no token that may come next stands in front of the bytes
abbrev pub NoToken : Next → List ℕ → Type 0
NoToken next bytes = (token behind : List ℕ) (after : Next) → Takes next token behind after → bytes ≡ token ++ behind → ⊥

-- what stands before the offset is spaces, and tokens that may stand where they do, and at the offset stands no token that may
pub record IsWrongAt (text : List ℕ) (offset : ℕ) : Type 0 where
  pub pieces : List (List ℕ)
  pub next : Next
  pub left : List ℕ
  pub leads : Leads pieces text next left
  pub none : NoToken next left
  pub place : offset + length left ≡ length text

-- what a fault says of a place in the text
abbrev pub Says : PolicyFault → List ℕ → Type 0
Says Memory text = Unit {0}
Says (Syntax offset) text = IsWrongAt text offset
Says UnknownOrganisation text = Unit {0}
Says Threshold text = Unit {0}
Says TooDeep text = Unit {0}
