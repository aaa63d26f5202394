-- A membership in the state was put by a VALID amendment, and a definition by a VALID upgrade, on which those agreed who stood before its block.
use Rattle.std.proofs.Common.{◌≡◌, ℕ, suc, ◌≤◌, true, List, [], ◌∷◌, ◌++◌, length, Option, Some, inl, inr, refl, sym, ap, ◌∙◌, arith}
use Rattle.std.specs.List.{AllByRecursion}
use Rattle.std.proofs.lemmas.Option.{same_Some}
use Rattle.fab_types.specs.BlockWithin.{IsBlock, IsEnvelope}
use Rattle.fab_types.specs.Memberships.{membership_key}
use Rattle.fab_types.specs.Proposals.{definition_key}
use Rattle.fab_types.specs.Spelling.{definition_bytes, membership_bytes}
use Rattle.fab_types.specs.Within.{IsProposal}
use Rattle.fab_types.specs.declared.envelope.Envelope.{Envelope}
use Rattle.fab_types.specs.declared.proposal.Proposal.{Proposal}
use Rattle.fab_types.specs.declared.proposal.Proposal.TheVariants as proposal
use Rattle.ledger_model.specs.Chain.{Bytes, Chain, Committed, Flag, Placed, history, placed_from, transactions_from}
use Rattle.ledger_model.specs.State.{state, write_to}
use Rattle.ledger_model.proofs.Versions.{none_some}
use Rattle.endorsement_policy.specs.Endorsed.{Listed, is_endorsed_as}
use Rattle.endorsement_policy.specs.Judge.{plain_after}
use Rattle.endorsement_policy.specs.Membership.{listed_in}
use Rattle.endorsement_policy.proofs.Parts.{amend_met, upgrade_met}
use Rattle.ledger_setting.specs.Amended.{AreAmended, AreBlocks, AreNamed, AreUpgraded, IsAmendment, IsNamed, IsUpgrade}
use Rattle.ledger_setting.proofs.Standing.{last_is, of_member}
use Rattle.ledger_setting.proofs.Written.{IsOwn, written}

-- what is written is the value of the proposal, at its key
own : (key other bytes value : Bytes) (o : Option (Option Bytes)) → IsOwn key other bytes o → o ≡ Some (Some value) → (key ≡ other) × (value ≡ bytes)
own key other bytes value o h is =
    elim h [
      | inl none ↦ absurd (none_some (Some value) (sym none ∙ is))
      | inr put ↦ (put.0, same_Some value bytes (same_Some (Some value) (Some bytes) (sym is ∙ put.1)))
    ]

same_name : (a b : Bytes) → definition_key a ≡ definition_key b → a ≡ b
same_name a b e = cc

-- ---- who can write a membership

named_apart : (name : Bytes) → 1 ≤ length name → membership_key ≡ definition_key name → ⊥
named_apart name some same = omega (arith, some, ap (λ (key : Bytes). length key) same)

amends : (listed : Listed) (before : Chain) (q : Proposal) (t : Placed) → t.envelope.payload.proposal ≡ q → IsNamed q →
    is_endorsed_as q (listed_in listed (plain_after before)) (state (history before)) t.envelope ≡ true →
    (value : Bytes) → write_to t.envelope.payload.writes membership_key ≡ Some (Some value) → IsAmendment listed value before t
amends listed before (proposal.Call c) t is named met value wrote =
    absurd (none_some (Some value)
    (sym (written membership_key refl (proposal.Call c) (listed_in listed (plain_after before)) (state (history before)) t.envelope met) ∙ wrote))
amends listed before (proposal.Upgrade u) t is named met value wrote =
    let put = written membership_key refl (proposal.Upgrade u) (listed_in listed (plain_after before)) (state (history before)) t.envelope met in
    absurd (named_apart u.chaincode named
    (own membership_key (definition_key u.chaincode) (definition_bytes u.definition) value (write_to t.envelope.payload.writes membership_key) put wrote).0)
amends listed before (proposal.Amend a) t is named met value wrote =
    let put = written membership_key refl (proposal.Amend a) (listed_in listed (plain_after before)) (state (history before)) t.envelope met in
    let agreed = amend_met (listed_in listed (plain_after before)) (state (history before)) a t.envelope met in
    record {
      amend = a;
      proposed = is;
      put = (own membership_key membership_key (membership_bytes a.membership) value (write_to t.envelope.payload.writes membership_key) put wrote).1;
      next = agreed.next;
      agreed = agreed.agreed;
    }

pub amended : (listed : Listed) → AreAmended listed
amended listed chain named flags value is =
    last_is listed (IsAmendment listed value) chain membership_key value flags is (λ before t member met wrote.
    amends listed before t.envelope.payload.proposal t refl
    (of_member (λ (x : Placed). IsNamed x.envelope.payload.proposal) t (history chain) named member) met value wrote)

-- ---- who can write a definition

upgrades : (listed : Listed) (name : Bytes) → 1 ≤ length name → (before : Chain) (q : Proposal) (t : Placed) → t.envelope.payload.proposal ≡ q →
    is_endorsed_as q (listed_in listed (plain_after before)) (state (history before)) t.envelope ≡ true →
    (value : Bytes) → write_to t.envelope.payload.writes (definition_key name) ≡ Some (Some value) → IsUpgrade listed name value before t
upgrades listed name some before (proposal.Call c) t is met value wrote =
    absurd (none_some (Some value)
    (sym (written (definition_key name) refl (proposal.Call c) (listed_in listed (plain_after before)) (state (history before)) t.envelope met) ∙ wrote))
upgrades listed name some before (proposal.Upgrade u) t is met value wrote =
    let put = written (definition_key name) refl (proposal.Upgrade u) (listed_in listed (plain_after before)) (state (history before)) t.envelope met in
    let agreed = upgrade_met (listed_in listed (plain_after before)) (state (history before)) u t.envelope met in
    let here = own (definition_key name) (definition_key u.chaincode) (definition_bytes u.definition) value
    (write_to t.envelope.payload.writes (definition_key name)) put wrote in
    record {
      upgrade = u;
      proposed = is;
      chaincode = sym (same_name name u.chaincode here.0);
      put = here.1;
      usable = agreed.usable;
      known = agreed.known;
      agreed = agreed.agreed;
    }
upgrades listed name some before (proposal.Amend a) t is met value wrote =
    let put = written (definition_key name) refl (proposal.Amend a) (listed_in listed (plain_after before)) (state (history before)) t.envelope met in
    absurd (named_apart name some
    (sym (own (definition_key name) membership_key (membership_bytes a.membership) value (write_to t.envelope.payload.writes (definition_key name)) put
    wrote).0))

pub upgraded : (listed : Listed) → AreUpgraded listed
upgraded listed chain flags name value some is =
    last_is listed (IsUpgrade listed name value) chain (definition_key name) value flags is (λ before t member met wrote.
    upgrades listed name some before t.envelope.payload.proposal t refl met value wrote)

-- ---- what holds of each proposal within the limits

module _ (P : Proposal → Type 0) (by : (q : Proposal) → IsProposal q → P q) where
  abbrev Proposes : Placed → Type 0
  Proposes t = P t.envelope.payload.proposal

  -- the transactions of a block, and later ones
  block_proposes : (block place : ℕ) (es : List Envelope) (fs : List Flag) (later : List Placed) → AllByRecursion IsEnvelope es →
      AllByRecursion Proposes later → AllByRecursion Proposes (transactions_from block place es fs ++ later)
  block_proposes block place [] fs later known h = h
  block_proposes block place (e ∷ es) [] later known h = h
  block_proposes block place (e ∷ es) (f ∷ fs) later known h =
      (by e.payload.proposal known.0.payload.proposal, block_proposes block (suc place) es fs later known.1 h)

  chain_proposes : (block : ℕ) (cs : Chain) → AllByRecursion (λ (c : Committed). IsBlock c.block) cs → AllByRecursion Proposes (placed_from block cs)
  chain_proposes block [] known = tt
  chain_proposes block (c ∷ cs) known =
      block_proposes block 0 c.block.envelopes c.flags (placed_from (suc block) cs) known.0.each_envelope (chain_proposes (suc block) cs known.1)

  pub each_proposes : (chain : Chain) → AreBlocks chain → AllByRecursion Proposes (history chain)
  each_proposes chain h = chain_proposes 1 chain h

-- upgrades are of chaincodes with names
named_by : (q : Proposal) → IsProposal q → IsNamed q
named_by (proposal.Call c) known = tt
named_by (proposal.Upgrade u) known = known.chaincode.0
named_by (proposal.Amend a) known = tt

pub named_blocks : (chain : Chain) → AreBlocks chain → AreNamed chain
named_blocks chain h = each_proposes IsNamed named_by chain h
