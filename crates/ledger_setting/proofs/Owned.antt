-- Under rules 2 a key below the name of a chaincode was put by a VALID call of that chaincode, whose policy was met.
use Rattle.std.proofs.Common.{◌≡◌, ℕ, true, false, cond, ◌&&◌, List, [], ◌∷◌, ◌++◌, length, take, drop, Option, Some, None, inl, inr, refl}
use Rattle.std.proofs.Common.{sym, ap, ◌∙◌, arith, append_assoc}
use Rattle.std.specs.List.{list_all}
use Rattle.std.specs.Option.{option_or}
use Rattle.std.specs.Ordering.{eq_by_cmp}
use Rattle.std.proofs.lemmas.Bool.{and_parts}
use Rattle.std.proofs.lemmas.List.{take-append-drop}
use Rattle.std.proofs.lemmas.Slice.Eq.{bytes_eq-Decides}
use Rattle.fab_types.specs.Limits.{IsName, is_name_byte}
use Rattle.fab_types.specs.Memberships.{membership_key}
use Rattle.fab_types.specs.Namespaces.{is_in_namespace, namespace}
use Rattle.fab_types.specs.Proposals.{definition_key}
use Rattle.fab_types.specs.Spelling.{definition_bytes, membership_bytes}
use Rattle.fab_types.specs.Within.{IsProposal}
use Rattle.fab_types.specs.declared.edition.Edition.{Edition}
use Rattle.fab_types.specs.declared.edition.Edition.TheVariants.{Second}
use Rattle.fab_types.specs.declared.items.WriteItem.{WriteItem}
use Rattle.fab_types.specs.declared.proposal.Proposal.{Proposal}
use Rattle.fab_types.specs.declared.proposal.Proposal.TheVariants as proposal
use Rattle.ledger_model.specs.Chain.{Bytes, Chain, Placed, history}
use Rattle.ledger_model.specs.State.{state, write_to}
use Rattle.ledger_model.specs.Views.{key_cmp}
use Rattle.ledger_model.proofs.Keys.{by_key}
use Rattle.ledger_model.proofs.Versions.{none_some}
use Rattle.endorsement_policy.specs.Endorsed.{Listed, is_endorsed_as, is_met_by, names_no_other, policy_in, reads_own, right_orgs, writes_own}
use Rattle.endorsement_policy.specs.Judge.{plain_after}
use Rattle.endorsement_policy.specs.Membership.{listed_in}
use Rattle.endorsement_policy.proofs.Parts.{amend_met, paid, upgrade_met}
use Rattle.ledger_setting.specs.Owned.{AreOwned, IsOwnCall}
use Rattle.ledger_setting.proofs.Amended.{each_proposes}
use Rattle.ledger_setting.proofs.Standing.{last_is, of_member}
use Rattle.ledger_setting.proofs.Written.{IsOwn, own_put, true_false}

-- ---- writes in a namespace

module _ (front key : Bytes) where
  none_outside : is_in_namespace front key ≡ false → (ws : List WriteItem) → list_all (λ w. is_in_namespace front w.key) ws ≡ true → write_to ws key ≡ None
  none_outside outside [] h = refl
  none_outside outside (w ∷ ws) h =
      let parts = and_parts (is_in_namespace front w.key) (list_all (λ x. is_in_namespace front x.key) ws) h in
      let other : eq_by_cmp key_cmp key w.key ≡ false =
      by_key (λ b. b ≡ false) key w.key (λ same. absurd (true_false (sym parts.0 ∙ ap (is_in_namespace front) (sym same) ∙ outside))) (λ e. refl) in
      λ i. option_or (none_outside outside ws parts.1 i) (cond (other i) (Some w.value) None)

  written_inside : (ws : List WriteItem) (value : Bytes) → list_all (λ w. is_in_namespace front w.key) ws ≡ true → write_to ws key ≡ Some (Some value) →
      is_in_namespace front key ≡ true
  written_inside ws value h wrote =
      elim (is_in_namespace front key) as (λ b. is_in_namespace front key ≡ b → b ≡ true) [
        | true ↦ λ _. refl
        | false ↦ λ outside. absurd (none_some (Some value) (sym (none_outside outside ws h) ∙ wrote))
      ] refl

  begins : is_in_namespace front key ≡ true → key ≡ front ++ drop (length front) key
  begins inside =
      let same : front ≡ take (length front) key = (bytes_eq-Decides front (take (length front) key)).0 inside in
      sym (take-append-drop (length front) key) ∙ ap (λ l. l ++ drop (length front) key) (sym same)

-- ---- names before a '/'

no_slash : (b : ℕ) (bs : Bytes) → 47 ≡ b → list_all is_name_byte (b ∷ bs) ≡ true → ⊥
no_slash b bs same named =
    let byte = (and_parts (is_name_byte b) (list_all is_name_byte bs) named).0 in
    true_false (sym byte ∙ ap is_name_byte (sym same))

one_name : (a b x y : Bytes) → list_all is_name_byte a ≡ true → list_all is_name_byte b ≡ true → a ++ 47 ∷ x ≡ b ++ 47 ∷ y → a ≡ b
one_name [] [] x y h k e = refl
one_name [] (d ∷ b) x y h k e = let head : 47 ≡ d = cc in absurd (no_slash d b head k)
one_name (c ∷ a) [] x y h k e = let head : c ≡ 47 = cc in absurd (no_slash c a (sym head) h)
one_name (c ∷ a) (d ∷ b) x y h k e =
    let head : c ≡ d = cc in
    let tail : a ++ 47 ∷ x ≡ b ++ 47 ∷ y = cc in
    let rest = one_name a b x y (and_parts (is_name_byte c) (list_all is_name_byte a) h).1 (and_parts (is_name_byte d) (list_all is_name_byte b) k).1 tail in
    λ i. head i ∷ rest i

-- no such key is that of a definition, or of the membership
not_hidden : (name rest other : Bytes) → IsName name → name ++ 47 ∷ rest ≡ 0 ∷ other → ⊥
not_hidden [] rest other named e = absurd omega (arith, named.0)
not_hidden (c ∷ name) rest other named e =
    let head : c ≡ 0 = cc in
    true_false (sym (and_parts (is_name_byte c) (list_all is_name_byte name) named.2).0 ∙ ap is_name_byte head)

-- ---- who writes there

-- a call is of a chaincode that has a name
abbrev IsOfName : Proposal → Type 0
IsOfName (proposal.Call c) = IsName c.chaincode
IsOfName (proposal.Upgrade u) = Unit {0}
IsOfName (proposal.Amend a) = Unit {0}

of_name : (q : Proposal) → IsProposal q → IsOfName q
of_name (proposal.Call c) known = known.chaincode
of_name (proposal.Upgrade u) known = tt
of_name (proposal.Amend a) known = tt

module _ (listed : Listed) (second : listed.edition ≡ Second) (name rest : Bytes) (named : IsName name) (before : Chain) where
  abbrev key : Bytes
  key = name ++ 47 ∷ rest

  abbrev here : Listed
  here = listed_in listed (plain_after before)

  -- what puts one value at a key that is not shown
  not_put : (other bytes value : Bytes) (o : Option (Option Bytes)) → IsOwn key (0 ∷ other) bytes o → o ≡ Some (Some value) → ⊥
  not_put other bytes value o own wrote =
      elim own [ inl none ↦ none_some (Some value) (sym none ∙ wrote) | inr put ↦ not_hidden name rest other named put.0 ]

  owns : (q : Proposal) (t : Placed) → t.envelope.payload.proposal ≡ q → IsOfName q →
      is_endorsed_as q here (state (history before)) t.envelope ≡ true →
      (value : Bytes) → write_to t.envelope.payload.writes key ≡ Some (Some value) → IsOwnCall listed name key value before t
  owns (proposal.Call c) t is of met value wrote =
      let p = t.envelope.payload in
      let tags = right_orgs here.orgs t.envelope in
      let whole = and_parts (reads_own p && names_no_other p && writes_own here.edition c.chaincode p)
      (is_met_by tags (policy_in here (plain_after before) c.chaincode)) met in
      let own = (and_parts (reads_own p && names_no_other p) (writes_own here.edition c.chaincode p) whole.0).1 in
      let all : writes_own Second c.chaincode p ≡ true = ap (λ (e : Edition). writes_own e c.chaincode p) (sym second) ∙ own in
      let front = namespace Second c.chaincode in
      let left = drop (length front) key in
      let begun : key ≡ c.chaincode ++ 47 ∷ left =
      begins front key (written_inside front key p.writes value all wrote) ∙ append_assoc c.chaincode (47 ∷ []) left in
      let same : c.chaincode ≡ name = sym (one_name name c.chaincode rest left named.2 of.2 begun) in
      record {
        call = c;
        proposed = is;
        chaincode = same;
        put = wrote;
        met = ap (λ n. is_met_by tags (policy_in here (plain_after before) n)) (sym same) ∙ whole.1;
      }
  owns (proposal.Upgrade u) t is of met value wrote =
      let other = definition_key u.chaincode in
      let bytes = definition_bytes u.definition in
      let put = (paid other bytes t.envelope.payload (upgrade_met here (state (history before)) u t.envelope met).payload).put in
      absurd (not_put u.chaincode bytes value _ (own_put key other bytes t.envelope.payload.writes put) wrote)
  owns (proposal.Amend a) t is of met value wrote =
      let bytes = membership_bytes a.membership in
      let put = (paid membership_key bytes t.envelope.payload (amend_met here (state (history before)) a t.envelope met).payload).put in
      absurd (not_put [] bytes value _ (own_put key membership_key bytes t.envelope.payload.writes put) wrote)

pub owned : (listed : Listed) → AreOwned listed
owned listed second chain known flags name rest value named is =
    last_is listed (IsOwnCall listed name (name ++ 47 ∷ rest) value) chain (name ++ 47 ∷ rest) value flags is (λ before t member met wrote.
    owns listed second name rest named before t.envelope.payload.proposal t refl
    (of_member (λ (x : Placed). IsOfName x.envelope.payload.proposal) t (history chain) (each_proposes IsOfName of_name chain known) member) met value wrote)
