-- Which tokens stand before a place, and where none stands that may.
use Rattle.std.proofs.Common.{◌≡◌, ℕ, suc, ◌+◌, ◌-◌, ◌≤◌, ◌<◌, take, drop, Bool, true, false, cond, List, [], ◌∷◌, ◌++◌, length, Some, None, inl, inr}
use Rattle.std.proofs.Common.{refl, sym, ap, subst, ◌∙◌, append_assoc, arith}
use Rattle.std.specs.Prelude.{nat_eq, codes}
use Rattle.std.specs.Cmp.Lexicographic.{pointwise}
use Rattle.std.proofs.lemmas.List.{length-append}
use Rattle.std.proofs.lemmas.Option.{none-some, same_Some}
use Rattle.fab_types.specs.Limits.{IsOrgName}
use Rattle.grammar.specs.Laws.Steps.{guarded}
use Rattle.policy_language.specs.GoodSets.{Names}
use Rattle.policy_language.specs.Leniency.{strict}
use Rattle.policy_language.specs.Tree.{Rule}
use Rattle.policy_language.specs.Place.{Place, beginning, offset_of}
use Rattle.policy_language.specs.Wrong.{Next, Start, Bracket, CountBracket, Count, CountComma, More, Takes, Leads, NoToken, Says}
use Rattle.policy_language.specs.Parsing.{IsAt}
use Rattle.policy_language.specs.Reading.{after_spaces, comma_at, is_quoted, opening_at, policy_by, quoted_at, tag_at, threshold_at, token_at, word_at}
use Rattle.policy_language.specs.declared.policy.Policy.{Policy}
use Rattle.policy_language.specs.declared.fault.PolicyFault.{PolicyFault}
use Rattle.policy_language.specs.declared.fault.PolicyFault.TheVariants.{Syntax}
use Rattle.policy_language.proofs.Tokens.{comma_taken, opening_taken, quoted_read, spaces_taken, tag_passed, threshold_ends, threshold_found, threshold_taken}
use Rattle.policy_language.proofs.Tokens.{delimiter, quoted_taken, token_taken, word_taken}
use Rattle.policy_language.proofs.Texts.{opening_long}
use Rattle.policy_language.proofs.Found.{policy_found}

-- ---- what was passed

module _ (text : List ℕ) where
  pub at_start : IsAt text (Start 0) (beginning text)
  at_start = (refl, [], (refl, refl))

  pub passed_spaces : (next : Next) (old new : Place) → new.total ≡ old.total → new.rest ≡ after_spaces old.rest → IsAt text next old → IsAt text next new
  passed_spaces next old new total rest at =
      let s = spaces_taken old.rest in
      let is : old.rest ≡ s.0 ++ new.rest = s.2 ∙ ap (λ (x : List ℕ). s.0 ++ x) (sym rest) in
      (total ∙ at.0, s.0 ∷ at.1, (next, subst (Leads at.1 text next) is at.2, inl (s.1, refl)))

  pub passed_token : (before next : Next) (old new : Place) (token : List ℕ) → new.total ≡ old.total → old.rest ≡ token ++ new.rest →
      Takes before token new.rest next → IsAt text before old → IsAt text next new
  passed_token before next old new token total is takes at = (total ∙ at.0, token ∷ at.1, (before, subst (Leads at.1 text before) is at.2, inr takes))

  -- a token of one byte behind spaces
  pub passed_byte : (b : ℕ) (before next : Next) (old new : Place) → new.total ≡ old.total → token_at b old.rest ≡ Some new.rest →
      Takes before (b ∷ []) new.rest next → IsAt text before old → IsAt text next new
  passed_byte b before next old new total some takes at =
      let s = token_taken b old.rest new.rest some in
      let spaced = subst (Leads at.1 text before) s.2 at.2 in
      (total ∙ at.0, (b ∷ []) ∷ (s.0 ∷ at.1), (before, (before, spaced, inl (s.1, refl)), inr takes))

  pub passed_word : (word : List ℕ) (before next : Next) (old new : Place) → new.total ≡ old.total → word_at word old.rest ≡ Some new.rest →
      Takes before word new.rest next → IsAt text before old → IsAt text next new
  passed_word word before next old new total some takes at =
      let g = guarded (pointwise nat_eq (take (length word) old.rest) word) (Some (drop (length word) old.rest)) new.rest some in
      let is : old.rest ≡ word ++ new.rest = word_taken word old.rest g.0 ∙ ap (λ (x : List ℕ). word ++ x) (same_Some _ new.rest g.1) in
      passed_token before next old new word total is takes at

  pub passed_leaf : (name : List ℕ) (n : ℕ) (old new : Place) → new.total ≡ old.total → quoted_at old.rest ≡ Some (name, new.rest) → IsOrgName name →
      IsAt text (Start n) old → IsAt text (More n) new
  passed_leaf name n old new total some right at =
      let is = quoted_taken old.rest name new.rest some ∙ ap (λ (x : List ℕ). 39 ∷ x) (sym (append_assoc name (39 ∷ []) new.rest)) in
      passed_token (Start n) (More n) old new (39 ∷ (name ++ 39 ∷ [])) total is (inl (name, (right, refl), refl)) at

  pub passed_count : (threshold n : ℕ) (old new : Place) → new.total ≡ old.total → threshold_at old.rest ≡ Some (threshold, new.rest) →
      IsAt text (Count n) old → IsAt text (CountComma n) new
  passed_count threshold n old new total some at =
      let t = threshold_taken old.rest new.rest threshold some in
      passed_token (Count n) (CountComma n) old new t.0 total t.2 (threshold, t.1, threshold_ends old.rest new.rest threshold some, refl) at

  pub passed_comma : (more : Bool) (n : ℕ) (old new : Place) → new.total ≡ old.total → comma_at old.rest ≡ Some (more, new.rest) →
      IsAt text (More (suc n)) old → IsAt text (cond more (Start (suc n)) (More n)) new
  passed_comma true n old new total some at =
      let s = comma_taken old.rest new.rest true some in
      let spaced = subst (Leads at.1 text (More (suc n))) s.2 at.2 in
      (total ∙ at.0, (44 ∷ []) ∷ (s.0 ∷ at.1), (More (suc n), (More (suc n), spaced, inl (s.1, refl)), inr (inl (refl, refl))))
  passed_comma false n old new total some at =
      let s = comma_taken old.rest new.rest false some in
      let spaced = subst (Leads at.1 text (More (suc n))) s.2 at.2 in
      (total ∙ at.0, (41 ∷ []) ∷ (s.0 ∷ at.1), (More (suc n), (More (suc n), spaced, inl (s.1, refl)), inr (inr (refl, refl))))

  left_within : (pieces : List (List ℕ)) (next : Next) (left : List ℕ) → Leads pieces text next left → length left ≤ length text
  left_within [] next left h = omega (arith, ap (λ (x : List ℕ). length x) h.1)
  left_within (piece ∷ pieces) next left h = omega (arith, left_within pieces h.0 (piece ++ left) h.1, length-append piece left)

  pub is_wrong : (next : Next) (here : Place) (e : PolicyFault) → NoToken next here.rest → e ≡ Syntax (offset_of here) → IsAt text next here → Says e text
  is_wrong next here e none is at =
      let total = at.0 in
      let within = left_within at.1 next here.rest at.2 in
      subst (λ (x : PolicyFault). Says x text) (sym is)
      (record { pieces = at.1; next = next; left = here.rest; leads = at.2; none = none; place = omega arith })

  -- a token of one byte is missed behind spaces
  pub missed_byte : (b : ℕ) (next : Next) (old new : Place) (e : PolicyFault) → new.total ≡ old.total → new.rest ≡ after_spaces old.rest →
      (e ≡ Syntax (offset_of new)) × (token_at b old.rest ≡ None) → (tag_at b new.rest ≡ None → NoToken next new.rest) → IsAt text next old → Says e text
  unfolding token_at
  missed_byte b next old new e total rest missed none at =
      is_wrong next new e (none (ap (tag_at b) rest ∙ missed.1)) missed.0 (passed_spaces next old new total rest at)

-- ---- where no token stands

no_byte : (b : ℕ) (bytes behind : List ℕ) → tag_at b bytes ≡ None → bytes ≡ b ∷ behind → ⊥
no_byte b bytes behind none is = none-some behind (sym none ∙ ap (tag_at b) is ∙ tag_passed b behind)

no_word : (word bytes behind : List ℕ) → pointwise nat_eq (take (length word) (word ++ behind)) word ≡ true → word_at word bytes ≡ None →
    bytes ≡ word ++ behind → ⊥
no_word word bytes behind stands none is =
    let some : word_at word (word ++ behind) ≡ Some (drop (length word) (word ++ behind)) = rw stands refl in
    none-some (drop (length word) (word ++ behind)) (sym none ∙ ap (word_at word) is ∙ some)

-- what stands in front, where the token is known
fronted : (bytes token known behind : List ℕ) → bytes ≡ token ++ behind → token ≡ known → bytes ≡ known ++ behind
fronted bytes token known behind is same = is ∙ ap (λ (x : List ℕ). x ++ behind) same

module _ (n : ℕ) (bytes : List ℕ) where
  pub no_bracket : tag_at 40 bytes ≡ None → NoToken (Bracket n) bytes
  no_bracket none = λ token behind after takes is. no_byte 40 bytes behind none (fronted bytes token (codes "(") behind is takes.0)

  pub no_count_bracket : tag_at 40 bytes ≡ None → NoToken (CountBracket n) bytes
  no_count_bracket none = λ token behind after takes is. no_byte 40 bytes behind none (fronted bytes token (codes "(") behind is takes.0)

  pub no_count_comma : tag_at 44 bytes ≡ None → NoToken (CountComma n) bytes
  no_count_comma none = λ token behind after takes is. no_byte 44 bytes behind none (fronted bytes token (codes ",") behind is takes.0)

  pub no_count : threshold_at bytes ≡ None → NoToken (Count n) bytes
  no_count none = λ token behind after takes is.
      none-some {A = ℕ × List ℕ} (takes.0, behind) (sym none ∙ ap threshold_at is ∙ threshold_found takes.0 token behind takes.1 takes.2)

  pub no_more : comma_at bytes ≡ None → NoToken (More (suc n)) (after_spaces bytes)
  unfolding comma_at
  no_more none = λ token behind after takes is.
      elim takes [
        | inl comma ↦ (let here : after_spaces bytes ≡ 44 ∷ behind = fronted (after_spaces bytes) token (codes ",") behind is comma.0 in
            let some : comma_at bytes ≡ Some (true, behind) = rw here refl in
            none-some {A = Bool × List ℕ} (true, behind) (sym none ∙ some))
        | inr ends ↦ (let here : after_spaces bytes ≡ 41 ∷ behind = fronted (after_spaces bytes) token (codes ")") behind is ends.0 in
            let some : comma_at bytes ≡ Some (false, behind) = rw here refl in
            none-some {A = Bool × List ℕ} (false, behind) (sym none ∙ some))
      ]

  pub no_start : is_quoted bytes ≡ false → word_at (codes "AND") bytes ≡ None → word_at (codes "OR") bytes ≡ None → word_at (codes "OutOf") bytes ≡ None →
      NoToken (Start n) bytes
  no_start unquoted no_and no_or no_out_of = λ token behind after takes is.
      elim takes [
        | inl leaf ↦ (let clash : false ≡ true = sym unquoted ∙ ap is_quoted (fronted bytes token (39 ∷ (leaf.0 ++ 39 ∷ [])) behind is leaf.1.1) in cc)
        | inr word ↦ elim word [
          | inl w ↦ no_word (codes "AND") bytes behind refl no_and (fronted bytes token (codes "AND") behind is w.0)
          | inr others ↦ elim others [
            | inl w ↦ no_word (codes "OR") bytes behind refl no_or (fronted bytes token (codes "OR") behind is w.0)
            | inr w ↦ no_word (codes "OutOf") bytes behind refl no_out_of (fronted bytes token (codes "OutOf") behind is w.0)
          ]
        ]
      ]

  pub no_leaf : is_quoted bytes ≡ true → ((name rest : List ℕ) → quoted_at bytes ≡ Some (name, rest) → IsOrgName name → ⊥) → NoToken (Start n) bytes
  no_leaf is_leaf none = λ token behind after takes is.
      elim takes [
        | inl leaf ↦ (let front = fronted bytes token (39 ∷ (leaf.0 ++ 39 ∷ [])) behind is leaf.1.1 in
            let regrouped = front ∙ ap (λ (x : List ℕ). 39 ∷ x) (append_assoc leaf.0 (39 ∷ []) behind) in
            none leaf.0 behind (ap quoted_at regrouped ∙ quoted_read leaf.0 behind leaf.1.0.2) leaf.1.0)
        | inr word ↦ elim word [
          | inl w ↦ (let clash : true ≡ false = sym is_leaf ∙ ap is_quoted (fronted bytes token (codes "AND") behind is w.0) in cc)
          | inr others ↦ elim others [
            | inl w ↦ (let clash : true ≡ false = sym is_leaf ∙ ap is_quoted (fronted bytes token (codes "OR") behind is w.0) in cc)
            | inr w ↦ (let clash : true ≡ false = sym is_leaf ∙ ap is_quoted (fronted bytes token (codes "OutOf") behind is w.0) in cc)
          ]
        ]
      ]

-- behind the outermost policy
pub no_end : (bytes : List ℕ) → NoToken (More 0) bytes
no_end bytes = λ token behind after takes is. takes

-- ---- what is left is less

pub spaces_less : (bytes rest : List ℕ) → rest ≡ after_spaces bytes → length rest ≤ length bytes
spaces_less bytes rest is =
    let s = spaces_taken bytes in
    omega (arith, ap (λ (x : List ℕ). length x) s.2, ap (λ (x : List ℕ). length x) is, length-append s.0 (after_spaces bytes))

pub opening_less : (rule : Rule) (bytes rest : List ℕ) → opening_at bytes ≡ Some (rule, rest) → length rest < length bytes
opening_less rule bytes rest e =
    let o = opening_taken bytes rest rule e in
    omega (arith, opening_long rule o.0 o.1, ap (λ (x : List ℕ). length x) o.2, length-append o.0 rest)

pub policy_less : (orgs : Names) (levels : ℕ) (p : Policy) (bytes rest : List ℕ) → policy_by orgs strict levels bytes ≡ Some (p, rest) →
    length rest ≤ length bytes
policy_less orgs levels p bytes rest e =
    let f = policy_found orgs (levels + 0) bytes rest p e in
    omega (arith, ap (λ (x : List ℕ). length x) f.is, length-append f.text rest)

pub comma_less : (more : Bool) (bytes rest : List ℕ) → comma_at bytes ≡ Some (more, rest) → length rest < length bytes
comma_less more bytes rest e =
    let s = comma_taken bytes rest more e in
    omega (arith, ap (λ (x : List ℕ). length x) s.2, length-append s.0 (delimiter more ∷ rest))
