-- What an endorsed transaction writes at a key that is not shown: nothing, or the value of its own upgrade or amendment.
use Rattle.std.proofs.Common.{◌≡◌, Bool, true, false, cond, ◌&&◌, List, [], ◌∷◌, Option, Some, None, ◌⊎◌, inl, inr, refl, sym, ap, ◌∙◌}
use Rattle.std.specs.List.{list_all}
use Rattle.std.specs.Option.{option_or}
use Rattle.std.specs.Ordering.{eq_by_cmp}
use Rattle.std.proofs.lemmas.Bool.{and_parts}
use Rattle.fab_types.specs.Memberships.{membership_key}
use Rattle.fab_types.specs.Order.{is_shown}
use Rattle.fab_types.specs.Proposals.{definition_key}
use Rattle.fab_types.specs.Spelling.{definition_bytes, membership_bytes}
use Rattle.fab_types.specs.declared.envelope.Envelope.{Envelope}
use Rattle.fab_types.specs.declared.items.WriteItem.{WriteItem}
use Rattle.fab_types.specs.declared.proposal.Proposal.{Proposal}
use Rattle.fab_types.specs.declared.proposal.Proposal.TheVariants as proposal
use Rattle.ledger_model.specs.Chain.{Bytes, Flag, Valid, EndorsementPolicyFailure, MvccReadConflict, PhantomReadConflict, DuplicateTxid, is_valid}
use Rattle.ledger_model.specs.State.{write_to}
use Rattle.ledger_model.specs.Views.{Versioned, key_cmp, values_of}
use Rattle.ledger_model.proofs.Keys.{by_key, tie_self}
use Rattle.endorsement_policy.specs.Endorsed.{Listed, is_endorsed_as, is_met_by, names_no_other, policy_in, reads_no_other, reads_own, right_orgs}
use Rattle.endorsement_policy.specs.Endorsed.{writes_own, writes_shown}
use Rattle.endorsement_policy.proofs.Parts.{IsOnePut, amend_met, paid, upgrade_met}

pub valid_flag : (f : Flag) → is_valid f ≡ true → f ≡ Valid
valid_flag Valid e = refl
valid_flag EndorsementPolicyFailure e = absurd cc
valid_flag MvccReadConflict e = absurd cc
valid_flag PhantomReadConflict e = absurd cc
valid_flag DuplicateTxid e = absurd cc

pub true_false : true ≡ false → ⊥
true_false e = cc

-- the one write of an upgrade or an amendment, at its key and at no other
pub written_here : (key value : Bytes) (ws : List WriteItem) → IsOnePut key value ws → write_to ws key ≡ Some (Some value)
written_here key value ws h =
    ap (λ (xs : List WriteItem). write_to xs key) h.only
    ∙ ap (λ (k : Bytes). cond (eq_by_cmp key_cmp key k) (Some h.item.value) None) h.key_is
    ∙ ap (λ (b : Bool). cond b (Some h.item.value) None) (tie_self key)
    ∙ ap Some h.value_is

written_elsewhere : (key other value : Bytes) (ws : List WriteItem) → eq_by_cmp key_cmp key other ≡ false → IsOnePut other value ws →
    write_to ws key ≡ None
written_elsewhere key other value ws apart h =
    ap (λ (xs : List WriteItem). write_to xs key) h.only
    ∙ ap (λ (k : Bytes). cond (eq_by_cmp key_cmp key k) (Some h.item.value) None) h.key_is
    ∙ ap (λ (b : Bool). cond b (Some h.item.value) None) apart

-- nothing, or this value where the keys are the same
abbrev pub IsOwn : (key other value : Bytes) → Option (Option Bytes) → Type 0
IsOwn key other value o = (o ≡ None) ⊎ ((key ≡ other) × (o ≡ Some (Some value)))

pub own_put : (key other value : Bytes) (ws : List WriteItem) → IsOnePut other value ws → IsOwn key other value (write_to ws key)
own_put key other value ws h = by_test (eq_by_cmp key_cmp key other) refl
  where
    here : key ≡ other → IsOwn key other value (write_to ws key)
    here same = inr (same, ap (write_to ws) same ∙ written_here other value ws h)

    by_test : (b : Bool) → eq_by_cmp key_cmp key other ≡ b → IsOwn key other value (write_to ws key)
    by_test true e = here (by_key (λ b. b ≡ true → key ≡ other) key other (λ same _. same) (λ _ f. absurd (true_false (sym f))) e)
    by_test false e = inl (written_elsewhere key other value ws e h)

module _ (key : Bytes) (hidden : is_shown key ≡ false) where
  apart_from_shown : (other : Bytes) → is_shown other ≡ true → eq_by_cmp key_cmp key other ≡ false
  apart_from_shown other shown =
      by_key (λ b. b ≡ false) key other (λ same. absurd (true_false (sym shown ∙ ap is_shown (sym same) ∙ hidden))) (λ e. refl)

  none_by_shown : (ws : List WriteItem) → list_all (λ w. is_shown w.key) ws ≡ true → write_to ws key ≡ None
  none_by_shown [] h = refl
  none_by_shown (w ∷ ws) h =
      let parts = and_parts (is_shown w.key) (list_all (λ x. is_shown x.key) ws) h in
      λ i. option_or (none_by_shown ws parts.1 i) (cond (apart_from_shown w.key parts.0 i) (Some w.value) None)

  -- what a proposal may write there
  abbrev pub IsWritten : Proposal → Option (Option Bytes) → Type 0
  IsWritten (proposal.Call c) o = o ≡ None
  IsWritten (proposal.Upgrade u) o = IsOwn key (definition_key u.chaincode) (definition_bytes u.definition) o
  IsWritten (proposal.Amend a) o = IsOwn key membership_key (membership_bytes a.membership) o

  pub written : (q : Proposal) (r : Listed) (m : Versioned) (e : Envelope) → is_endorsed_as q r m e ≡ true → IsWritten q (write_to e.payload.writes key)
  written (proposal.Call c) r m e met =
      let p = e.payload in
      let whole = and_parts (reads_own p && names_no_other p && writes_own r.edition c.chaincode p)
      (is_met_by (right_orgs r.orgs e) (policy_in r (values_of m) c.chaincode)) met in
      let called = and_parts (reads_own p && names_no_other p) (writes_own r.edition c.chaincode p) whole.0 in
      let names = and_parts (reads_own p) (names_no_other p) called.0 in
      none_by_shown p.writes (and_parts (reads_no_other p) (writes_shown p) names.1).1
  written (proposal.Upgrade u) r m e met =
      let k = definition_key u.chaincode in
      let v = definition_bytes u.definition in
      own_put key k v e.payload.writes (paid k v e.payload (upgrade_met r m u e met).payload).put
  written (proposal.Amend a) r m e met =
      let v = membership_bytes a.membership in
      own_put key membership_key v e.payload.writes (paid membership_key v e.payload (amend_met r m a e met).payload).put
