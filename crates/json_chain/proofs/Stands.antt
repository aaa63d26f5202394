-- Who is shown as standing before a block is who stands in the state there.
use Rattle.std.proofs.Common.{◌≡◌, ℕ, zero, suc, ◌+◌, ◌≤◌, true, List, [], ◌∷◌, ◌++◌, length, take, Option, Some, None, inl, inr}
use Rattle.std.proofs.Common.{refl, sym, ap, ◌∙◌, arith, slice_get, option_map}
use Rattle.std.specs.FinMap.{get}
use Rattle.std.specs.List.{AllByRecursion}
use Rattle.std.specs.Option.{option_or}
use Rattle.std.proofs.lemmas.Bool.{and_parts}
use Rattle.fab_types.specs.BlockWithin.{IsBlock, IsEnvelope}
use Rattle.fab_types.specs.Committed.{Committed}
use Rattle.fab_types.specs.Memberships.{membership_key}
use Rattle.fab_types.specs.Proposals.{definition_key}
use Rattle.fab_types.specs.Spelling.{membership_bytes}
use Rattle.fab_types.specs.Within.{IsMembership, IsProposal}
use Rattle.fab_types.specs.declared.envelope.Envelope.{Envelope}
use Rattle.fab_types.specs.declared.membership.Membership.{Membership}
use Rattle.fab_types.specs.declared.proposal.Proposal.{Proposal}
use Rattle.fab_types.specs.declared.proposal.Proposal.TheVariants as proposal
use Rattle.wire.specs.Ids.{id_of}
use Rattle.wire.specs.Reading.{membership_at}
use Rattle.wire.proofs.Codec.{whole_read}
use Rattle.wire.proofs.MembershipLaws.{membership}
use Rattle.ledger_model.specs.Chain.{Bytes, Version, Flag, Valid, EndorsementPolicyFailure, MvccReadConflict, PhantomReadConflict, DuplicateTxid}
use Rattle.ledger_model.specs.Chain.{Chain, Placed, history, placed_from, transactions_from}
use Rattle.ledger_model.specs.Judged.{AllEndorsed, AreEndorsed, AreFlagsBy}
use Rattle.ledger_model.specs.State.{last_write, state, value_and_version, write_of, write_to}
use Rattle.ledger_model.specs.Views.{Versioned, values_of}
use Rattle.ledger_model.proofs.Judged.{judged_endorsed}
use Rattle.org_keys.specs.declared.organisation.Organisation.{Organisation}
use Rattle.endorsement_policy.specs.Endorsed.{Listed, is_endorsed, is_endorsed_as}
use Rattle.endorsement_policy.specs.Judge.{orgs_behind, plain_after}
use Rattle.endorsement_policy.specs.Membership.{is_usable, listed_in, standing_by, usable_membership}
use Rattle.endorsement_policy.proofs.Parts.{amend_met, paid}
use Rattle.endorsement_policy.proofs.Sources.{value_after}
use Rattle.ledger_setting.specs.Rule.{table_of}
use Rattle.ledger_setting.proofs.Written.{written as wrote, written_here}
use Rattle.json_chain.specs.Blocks.{block_json}
use Rattle.json_chain.specs.Standing.{IsChainOf, amended, amended_by, blocks_json, membership_behind}

apart_named : (name : Bytes) → 1 ≤ length name → membership_key ≡ definition_key name → ⊥
apart_named name some same = omega (arith, some, ap (λ (key : Bytes). length key) same)

-- ---- what a key holds then

-- what was done to the key, by which version
abbrev Done : Type 0
Done = Option (Version × Option Bytes)

-- by the writes of a transaction of this version
abbrev did : Version → Option (Option Bytes) → Done
did version wrote = option_map (λ value. (version, value)) wrote

-- the value behind what was done
abbrev held : Done → Option Bytes → Option Bytes
held None old = old
held (Some w) old = w.1

held_then : (later here : Done) (old : Option Bytes) → held (option_or later here) old ≡ held later (held here old)
held_then None here old = refl
held_then (Some w) here old = refl

held_one : (version : Version) (value : Option Bytes) → option_map (λ e. e.0) (value_and_version (Some (version, value))) ≡ value
held_one version None = refl
held_one version (Some bytes) = refl

held_first : (w : Done) → option_map (λ e. e.0) (value_and_version w) ≡ held w None
held_first None = refl
held_first (Some w) = held_one w.0 w.1

-- the membership that is left, by the one before
abbrev Left : Type 0
Left = Option Membership → Option Membership

module _ (r : Listed) where
  abbrev usable : Option Bytes → Option Membership
  usable value = usable_membership r.installed.orgs value

  read_back : (s : Membership) → IsMembership s → is_usable r.installed.orgs s ≡ true → usable (Some (membership_bytes s)) ≡ Some s
  read_back s known good = rw (whole_read IsMembership membership_bytes membership_at membership (membership_bytes s) s known refl, good) refl

  -- whichever membership stood, the one that stands then is the one that is left
  abbrev Leaves : Done → Left → Type 0
  Leaves done left = (old : Option Bytes) → usable (held done old) ≡ left (usable old)

  leaves_then : (here later : Done) (first next : Left) → Leaves here first → Leaves later next → Leaves (option_or later here) (λ was. next (first was))
  leaves_then here later first next h k old = ap usable (held_then later here old) ∙ k (held here old) ∙ ap next (h old)

  unwritten : (version : Version) (wrote : Option (Option Bytes)) → wrote ≡ None → Leaves (did version wrote) (λ was. was)
  unwritten version wrote none old = ap (λ (w : Option (Option Bytes)). usable (held (did version w) old)) none

  written : (version : Version) (wrote : Option (Option Bytes)) (s : Membership) → wrote ≡ Some (Some (membership_bytes s)) → IsMembership s →
      is_usable r.installed.orgs s ≡ true → Leaves (did version wrote) (λ was. Some s)
  written version wrote s put known good old = ap (λ (w : Option (Option Bytes)). usable (held (did version w) old)) put ∙ read_back s known good

  -- ---- what a VALID transaction leaves

  by_proposal : (q : Proposal) (there : Versioned) (e : Envelope) (version : Version) → IsProposal q →
      is_endorsed_as q (listed_in r (values_of there)) there e ≡ true →
      Leaves (did version (write_to e.payload.writes membership_key)) (λ was. amended was Valid q)
  by_proposal (proposal.Call c) there e version known met =
      unwritten version (write_to e.payload.writes membership_key) (wrote membership_key refl (proposal.Call c) (listed_in r (values_of there)) there e met)
  by_proposal (proposal.Upgrade u) there e version known met =
      elim (wrote membership_key refl (proposal.Upgrade u) (listed_in r (values_of there)) there e met) [
        | inl none ↦ unwritten version (write_to e.payload.writes membership_key) none
        | inr put ↦ absurd (apart_named u.chaincode known.chaincode.0 put.0)
      ]
  by_proposal (proposal.Amend a) there e version known met =
      let p = e.payload in
      let s = a.membership in
      let bytes = membership_bytes s in
      let h = amend_met (listed_in r (values_of there)) there a e met in
      let put = written_here membership_key bytes p.writes (paid membership_key bytes p h.payload).put in
      written version (write_to p.writes membership_key) s put known.membership (and_parts _ (is_usable r.installed.orgs s) h.next).1

  -- whatever its flag is
  by_flag : (f : Flag) (there : Versioned) (block place : ℕ) (e : Envelope) → IsEnvelope e → (f ≡ Valid → is_endorsed r there e ≡ true) →
      Leaves (write_of (record { version = record { block = block; place = place }; envelope = e; flag = f }) membership_key)
      (λ was. amended was f e.payload.proposal)
  by_flag Valid there block place e known met =
      by_proposal e.payload.proposal there e (record { block = block; place = place }) known.payload.proposal (met refl)
  by_flag EndorsementPolicyFailure there block place e known met = λ old. refl
  by_flag MvccReadConflict there block place e known met = λ old. refl
  by_flag PhantomReadConflict there block place e known met = λ old. refl
  by_flag DuplicateTxid there block place e known met = λ old. refl

  -- ---- along a chain

  -- the transactions of a block, and later ones
  in_block : (there : Versioned) (judged block place : ℕ) (es : List Envelope) (fs : List Flag) (later : List Placed) (next : Left) →
      AllByRecursion IsEnvelope es → AllEndorsed (is_endorsed r there) (transactions_from judged place es fs) → Leaves (last_write later membership_key) next →
      Leaves (last_write (transactions_from block place es fs ++ later) membership_key) (λ was. next (amended_by was es fs))
  in_block there judged block place [] fs later next known met h = h
  in_block there judged block place (e ∷ es) [] later next known met h = h
  in_block there judged block place (e ∷ es) (f ∷ fs) later next known met h =
      let here : Placed = record { version = record { block = block; place = place }; envelope = e; flag = f } in
      let rest = transactions_from block (suc place) es fs ++ later in
      leaves_then (write_of here membership_key) (last_write rest membership_key) (λ was. amended was f e.payload.proposal) (λ was. next (amended_by was es fs))
      (by_flag f there block place e known.0 met.0) (in_block there judged block (suc place) es fs later next known.1 met.1 h)

  behind_all : (block : ℕ) (before cs : Chain) → AllByRecursion (λ (c : Committed). IsBlock c.block) cs →
      AreEndorsed (λ ts. is_endorsed r (state ts)) before cs →
      Leaves (last_write (placed_from block cs) membership_key) (λ was. membership_behind was cs)
  behind_all block before [] known met = λ old. refl
  behind_all block before (c ∷ cs) known met =
      in_block (state (history before)) (length before + 1) block 0 c.block.envelopes c.flags (placed_from (suc block) cs) (λ was. membership_behind was cs)
      known.0.each_envelope met.0 (behind_all (suc block) (before ++ c ∷ []) cs known.1 met.1)

  pub behind : (chain : Chain) → IsChainOf r chain → membership_behind None chain ≡ usable (get (plain_after chain) membership_key)
  behind chain h =
      let endorsed = judged_endorsed r.edition id_of (λ before. is_endorsed r (state before)) [] chain h.flags in
      let value = value_after chain membership_key ∙ held_first (last_write (history chain) membership_key) in
      sym (ap usable value ∙ behind_all 1 [] chain h.blocks endorsed None)

  -- ---- before a block

  blocks_taken : (n : ℕ) (cs : Chain) → AllByRecursion (λ (c : Committed). IsBlock c.block) cs → AllByRecursion (λ (c : Committed). IsBlock c.block) (take n cs)
  blocks_taken zero cs h = tt
  blocks_taken (suc n) [] h = tt
  blocks_taken (suc n) (c ∷ cs) h = (h.0, blocks_taken n cs h.1)

  flags_taken : (n : ℕ) (before cs : Chain) → AreFlagsBy (table_of r) before cs → AreFlagsBy (table_of r) before (take n cs)
  flags_taken zero before cs h = tt
  flags_taken (suc n) before [] h = tt
  flags_taken (suc n) before (c ∷ cs) h = (h.0, flags_taken n (before ++ c ∷ []) cs h.1)

  pub taken : (chain : Chain) → IsChainOf r chain → (n : ℕ) →
      (standing_by r (membership_behind None (take n chain))).orgs ≡ orgs_behind r (take n chain)
  taken chain h n =
      ap (λ (m : Option Membership). (standing_by r m).orgs)
      (behind (take n chain) (record { blocks = blocks_taken n chain h.blocks; flags = flags_taken n [] chain h.flags }))

  shown_at : (was : Option Membership) (cs : Chain) (place : ℕ) →
      slice_get (blocks_json r was cs) place
      ≡ option_map (block_json (standing_by r (membership_behind was (take place cs))).orgs) (slice_get cs place)
  shown_at was [] place = refl
  shown_at was (c ∷ cs) zero = refl
  shown_at was (c ∷ cs) (suc place) = shown_at (amended_by was c.block.envelopes c.flags) cs place

  pub shown : (chain : Chain) → IsChainOf r chain → (place : ℕ) →
      slice_get (blocks_json r None chain) place ≡ option_map (block_json (orgs_behind r (take place chain))) (slice_get chain place)
  shown chain h place =
      shown_at None chain place ∙ ap (λ (orgs : List Organisation). option_map (block_json orgs) (slice_get chain place)) (taken chain h place)
