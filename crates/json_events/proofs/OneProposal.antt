-- A line spells at most one proposal, and that of a call no other.
use Rattle.std.proofs.Common.{◌≡◌, ℕ, List, Some, Ok, sym, ap, subst, ◌∙◌}
use Rattle.serde_json.specs.Data.{Data, object}
use Rattle.serde_json.specs.Read.{read}
use Rattle.hex.specs.Hex.{decode_sized}
use Rattle.fab_types.specs.declared.definition.Definition.{Definition}
use Rattle.fab_types.specs.declared.proposal.Amend.{Amend}
use Rattle.fab_types.specs.declared.proposal.Call.{Call}
use Rattle.fab_types.specs.declared.proposal.Upgrade.{Upgrade}
use Rattle.fab_types.specs.declared.proposal.Proposal.{Proposal}
use Rattle.fab_types.specs.declared.proposal.Proposal.TheVariants as proposal
use Rattle.json_events.specs.Spelling.{IsArgumentOrDash, IsCall, IsDefinition, IsMembership, IsProposal, SpellsProposal, call_members}
use Rattle.json_events.proofs.Arguments.{one_argument}
use Rattle.json_events.proofs.Forms.{one_form}
use Rattle.json_events.proofs.Memberships.{one_membership, same_ok}

same_call : (a b : Call) → a.chaincode ≡ b.chaincode → a.argument ≡ b.argument → a.nonce ≡ b.nonce → a ≡ b
same_call a b c x n =
    ap (λ y. record a { chaincode = y }) c ∙ ap (λ y. record a { chaincode = b.chaincode; argument = y }) x ∙ ap (λ y. record b { nonce = y }) n

same_definition : (a b : Definition) → (a.is_open ≡ b.is_open) × (a.profile ≡ b.profile) → a.digest ≡ b.digest → a.fuel ≡ b.fuel → a.policy ≡ b.policy → a ≡ b
same_definition a b r d f p =
    ap (λ y. record a { is_open = y }) r.0 ∙ ap (λ y. record a { is_open = b.is_open; profile = y }) r.1
    ∙ ap (λ y. record b { digest = y; fuel = a.fuel; policy = a.policy }) d ∙ ap (λ y. record b { fuel = y; policy = a.policy }) f
    ∙ ap (λ y. record b { policy = y }) p

same_upgrade : (a b : Upgrade) → a.chaincode ≡ b.chaincode → a.definition ≡ b.definition → a.nonce ≡ b.nonce → a ≡ b
same_upgrade a b c d n =
    ap (λ y. record a { chaincode = y }) c ∙ ap (λ y. record a { chaincode = b.chaincode; definition = y }) d ∙ ap (λ y. record b { nonce = y }) n

one_call : (d : Data) (a b : Call) → IsProposal d (proposal.Call a) → IsProposal d (proposal.Call b) → a ≡ b
one_call d a b h k =
    let e = sym h.3 ∙ k.3 in
    let arg : h.0 ≡ k.0 = cc in
    let chaincode : h.1 ≡ k.1 = cc in
    let nonce : h.2 ≡ k.2 = cc in
    let argument = one_argument k.0 _ _ (subst (λ x. IsArgumentOrDash x a.argument) arg h.4.2) k.4.2 in
    let bytes = same_ok _ _ _ (subst (λ x. decode_sized x 16 ≡ Ok a.nonce) nonce h.4.3) k.4.3 in
    same_call a b (h.4.0 ∙ chaincode ∙ sym k.4.0) argument bytes

-- where the fields of a call hold none, the data spell no proposal
pub no_call : (d arg : Data) (chaincode nonce : List ℕ) → d ≡ object (call_members arg chaincode nonce) → ((c : Call) → ¬ IsCall arg chaincode nonce c)
    → (p : Proposal) → ¬ IsProposal d p
no_call d arg chaincode nonce is none (proposal.Call c) h =
    let e = sym h.3 ∙ is in
    let args : h.0 ≡ arg = cc in
    let chaincodes : h.1 ≡ chaincode = cc in
    let nonces : h.2 ≡ nonce = cc in
    let spelled : IsCall arg chaincode nonce c = rw (sym args, sym chaincodes, sym nonces) h.4 in
    none c spelled
no_call d arg chaincode nonce is none (proposal.Upgrade u) h = let e = sym h.6 ∙ is in cc
no_call d arg chaincode nonce is none (proposal.Amend a) h = let e = sym h.4 ∙ is in cc

one_definition : (fuel : ℕ) (digest policy : List ℕ) (profile : ℕ) (a b : Definition)
    → IsDefinition fuel digest policy profile a → IsDefinition fuel digest policy profile b → a ≡ b
one_definition fuel digest policy profile a b h k =
    same_definition a b (one_form a b (h.0 ∙ sym k.0)) (same_ok _ _ _ h.1 k.1) (h.2 ∙ sym k.2) (h.4 ∙ sym k.4)

one_upgrade : (d : Data) (a b : Upgrade) → IsProposal d (proposal.Upgrade a) → IsProposal d (proposal.Upgrade b) → a ≡ b
one_upgrade d a b h k =
    let e = sym h.6 ∙ k.6 in
    let fuel : h.0 ≡ k.0 = cc in
    let digest : h.1 ≡ k.1 = cc in
    let nonce : h.2 ≡ k.2 = cc in
    let policy : h.3 ≡ k.3 = cc in
    let profile : h.4 ≡ k.4 = cc in
    let chaincode : h.5 ≡ k.5 = cc in
    let spelled : IsDefinition k.0 k.1 k.3 k.4 a.definition = rw (sym fuel, sym digest, sym policy, sym profile) h.7.2 in
    let definition = one_definition k.0 k.1 k.3 k.4 _ _ spelled k.7.2 in
    let bytes = same_ok _ _ _ (subst (λ x. decode_sized x 16 ≡ Ok a.nonce) nonce h.7.3) k.7.3 in
    same_upgrade a b (h.7.0 ∙ chaincode ∙ sym k.7.0) definition bytes

same_amend : (a b : Amend) → a.membership ≡ b.membership → a.nonce ≡ b.nonce → a ≡ b
same_amend a b m n = ap (λ y. record a { membership = y }) m ∙ ap (λ y. record b { nonce = y }) n

one_amend : (d : Data) (a b : Amend) → IsProposal d (proposal.Amend a) → IsProposal d (proposal.Amend b) → a ≡ b
one_amend d a b h k =
    let e = sym h.4 ∙ k.4 in
    let members : h.0 ≡ k.0 = cc in
    let nonce : h.1 ≡ k.1 = cc in
    let policy : h.2 ≡ k.2 = cc in
    let serial : h.3 ≡ k.3 = cc in
    let spelled : IsMembership k.0 k.2 k.3 a.membership = rw (sym members, sym policy, sym serial) h.5.0 in
    let bytes = same_ok _ _ _ (subst (λ x. decode_sized x 16 ≡ Ok a.nonce) nonce h.5.1) k.5.1 in
    same_amend a b (one_membership k.0 k.2 k.3 _ _ spelled k.5.0) bytes

pub one_proposal : (d : Data) (p q : Proposal) → IsProposal d p → IsProposal d q → p ≡ q
one_proposal d (proposal.Call a) (proposal.Call b) h k = ap proposal.Call (one_call d a b h k)
one_proposal d (proposal.Call a) (proposal.Upgrade b) h k = let e = sym h.3 ∙ k.6 in cc
one_proposal d (proposal.Upgrade a) (proposal.Call b) h k = let e = sym h.6 ∙ k.3 in cc
one_proposal d (proposal.Upgrade a) (proposal.Upgrade b) h k = ap proposal.Upgrade (one_upgrade d a b h k)
one_proposal d (proposal.Call a) (proposal.Amend b) h k = let e = sym h.3 ∙ k.4 in cc
one_proposal d (proposal.Upgrade a) (proposal.Amend b) h k = let e = sym h.6 ∙ k.4 in cc
one_proposal d (proposal.Amend a) (proposal.Call b) h k = let e = sym h.4 ∙ k.3 in cc
one_proposal d (proposal.Amend a) (proposal.Upgrade b) h k = let e = sym h.4 ∙ k.6 in cc
one_proposal d (proposal.Amend a) (proposal.Amend b) h k = ap proposal.Amend (one_amend d a b h k)

pub one_data : (text : List ℕ) (d e : Data) → read text ≡ Some d → read text ≡ Some e → d ≡ e
one_data text d e h k = let same = sym h ∙ k in cc

pub one : (line : List ℕ) (p q : Proposal) → SpellsProposal line p → SpellsProposal line q → p ≡ q
one line p q h k =
    one_proposal h.0 p q h.2 (subst (λ d. IsProposal d q) (sym (one_data line h.0 k.0 h.1 k.1)) k.2)
