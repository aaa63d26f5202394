-- The blocks that are shown of a chain, and one block more.
use Rattle.std.proofs.Common.{◌≡◌, ◌<◌, ◌≤◌, ℕ, suc, ◌+◌, ◌-◌, List, [], ◌∷◌, ◌++◌, ◌⊎◌, inl, inr, Option, None, length, take, drop, refl, sym, ap, ◌∙◌, subst, arith, length-append}
use Rattle.std.proofs.lemmas.List.{drop-append-le, drop_all, length-take, take-append-le, take_all}
use Rattle.fab_types.specs.Committed.{Committed}
use Rattle.fab_types.specs.declared.membership.Membership.{Membership}
use Rattle.ledger_model.specs.Chain.{Bytes, Chain}
use Rattle.endorsement_policy.specs.Endorsed.{Listed}
use Rattle.endorsement_policy.specs.Membership.{standing_by}
use Rattle.serde_json.specs.Data.{Data}
use Rattle.json_chain.specs.Blocks.{block_json}
use Rattle.json_chain.specs.JsonText.{IsJsonText}
use Rattle.json_chain.specs.Standing.{amended_by, blocks_json, membership_behind}
use Rattle.cli_lines.specs.Texts.{line}
use Rattle.cli_show.specs.Lines.{AreLines, IsShown}
use Rattle.cli_show.specs.Spans.{within}
use Rattle.cli_show.proofs.Behind.{lines_more}

-- one item more, where it is one of those from one number to another
within_more : {A : Type 0} (from to n : ℕ) (xs : List A) (y : A) → n ≡ length xs + 1 → from ≤ n → n ≤ to →
    within from to (xs ++ y ∷ []) ≡ within from to xs ++ y ∷ []
within_more {A} from to n xs y is low high =
    let longer : take to (xs ++ y ∷ []) ≡ xs ++ y ∷ [] = take_all to (xs ++ y ∷ []) (omega (arith, is, high, length-append xs (y ∷ []))) in
    let all : take to xs ≡ xs = take_all to xs (omega (arith, is, high)) in
    ap (λ (zs : List A). drop (from - 1) zs) longer ∙ drop-append-le (from - 1) xs (y ∷ []) (omega (arith, is, low))
    ∙ ap (λ (zs : List A). drop (from - 1) zs ++ y ∷ []) (sym all)

-- where it is before them
within_before : {A : Type 0} (from to n : ℕ) (xs : List A) (y : A) → n ≡ length xs + 1 → n < from → within from to (xs ++ y ∷ []) ≡ within from to xs
within_before {A} from to n xs y is low =
    let longer : length (take to (xs ++ y ∷ [])) ≤ from - 1 =
    omega (arith, is, low, length-take to (xs ++ y ∷ []), length-append xs (y ∷ [])) in
    let shorter : length (take to xs) ≤ from - 1 = omega (arith, is, low, length-take to xs) in
    drop_all (from - 1) (take to (xs ++ y ∷ [])) longer ∙ sym (drop_all (from - 1) (take to xs) shorter)

-- where it is behind them
within_behind : {A : Type 0} (from to n : ℕ) (xs : List A) (y : A) → n ≡ length xs + 1 → to < n →
    within from to (xs ++ y ∷ []) ≡ within from to xs
within_behind {A} from to n xs y is high =
    ap (λ (zs : List A). drop (from - 1) zs) (take-append-le to xs (y ∷ []) (omega (arith, is, high)))

module _ (r : Listed) where
  json_length : (was : Option Membership) (cs : Chain) → length (blocks_json r was cs) ≡ length cs
  json_length was [] = refl
  json_length was (c ∷ cs) = ap suc (json_length (amended_by was c.block.envelopes c.flags) cs)

  json_more : (was : Option Membership) (cs : Chain) (c : Committed) →
      blocks_json r was (cs ++ c ∷ []) ≡ blocks_json r was cs ++ block_json (standing_by r (membership_behind was cs)).orgs c ∷ []
  json_more was [] c = refl
  json_more was (x ∷ cs) c =
      ap (λ (ds : List Data). block_json (standing_by r was).orgs x ∷ ds) (json_more (amended_by was x.block.envelopes x.flags) cs c)

-- the membership behind one block more
pub behind_more : (was : Option Membership) (cs : Chain) (c : Committed) →
    membership_behind was (cs ++ c ∷ []) ≡ amended_by (membership_behind was cs) c.block.envelopes c.flags
behind_more was [] c = refl
behind_more was (x ∷ cs) c = behind_more (amended_by was x.block.envelopes x.flags) cs c

module _ (r : Listed) (from to n : ℕ) (membership : Option Membership) (text : Bytes) (chain : Chain) (c : Committed) where
  -- the line of a block that is shown
  pub shown_more : (json after : Bytes) → n ≡ length chain + 1 → from ≤ n → n ≤ to → IsShown r from to membership text chain →
      IsJsonText (block_json (standing_by r membership).orgs c) json → after ≡ text ++ line json →
      AreLines (within from to (blocks_json r None (chain ++ c ∷ []))) after
  shown_more json after is low high shown spells grown =
      let ds = blocks_json r None chain in
      let d = block_json (standing_by r (membership_behind None chain)).orgs c in
      let same : within from to (blocks_json r None (chain ++ c ∷ [])) ≡ within from to ds ++ d ∷ [] =
      ap (λ (es : List Data). within from to es) (json_more r None chain c)
      ∙ within_more from to n ds d (omega (arith, is, json_length r None chain)) low high in
      let one : IsJsonText d json =
      subst (λ (m : Option Membership). IsJsonText (block_json (standing_by r m).orgs c) json) shown.1 spells in
      subst (λ (es : List Data). AreLines es after) (sym same) (lines_more (within from to ds) d text json after shown.0 one grown)

  -- no line of another
  pub shown_same : n ≡ length chain + 1 → (n < from) ⊎ (to < n) → IsShown r from to membership text chain →
      AreLines (within from to (blocks_json r None (chain ++ c ∷ []))) text
  shown_same is out shown =
      let ds = blocks_json r None chain in
      let d = block_json (standing_by r (membership_behind None chain)).orgs c in
      let number : n ≡ length ds + 1 = omega (arith, is, json_length r None chain) in
      let kept : within from to (ds ++ d ∷ []) ≡ within from to ds = elim out [
        | inl low ↦ within_before from to n ds d number low
        | inr high ↦ within_behind from to n ds d number high
      ] in
      subst (λ (es : List Data). AreLines es text) (sym (ap (λ (es : List Data). within from to es) (json_more r None chain c) ∙ kept)) shown.0
