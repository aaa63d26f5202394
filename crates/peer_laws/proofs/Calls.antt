-- What a peer says to a call is a machine's answer, or its own.
use Rattle.std.proofs.Common.{◌≡◌, ◌⊎◌, ◌∙◌, inl, inr, ℕ, zero, suc, Bool, true, false, List, [], ◌∷◌, Option, Some, None, IfSome, Result, Ok, Err}
use Rattle.std.proofs.Common.{ap, refl, subst, sym}
use Rattle.fab_types.specs.Payloads.{Payload}
use Rattle.fab_types.specs.declared.envelope.Endorsement.{Endorsement}
use Rattle.fab_types.specs.declared.proposal.Proposal.{Proposal}
use Rattle.chaincode_book.specs.Books.{Book}
use Rattle.endorsement_policy.specs.Endorsed.{seal_of}
use Rattle.endorsement_policy.specs.Judge.{plain_after}
use Rattle.endorser.specs.Endorsing.{endorsed_on, sealed_by, simulated_on}
use Rattle.fabric_core.specs.Headline.{IsAmong}
use Rattle.json_events.specs.Spelling.{SpellsProposal}
use Rattle.ledger_model.specs.Chain.{Bytes, Chain, history}
use Rattle.ledger_model.specs.Execution.{Ending, NotInstalled, Outcome, payload_of}
use Rattle.ledger_model.specs.State.{state}
use Rattle.ledger_model.specs.Views.{Plain, values_of}
use Rattle.ledger_setting.specs.declared.genesis.Genesis.{Genesis}
use Rattle.log_committer.specs.Peering.{Held}
use Rattle.log_system.specs.Machines.{Setting, endorsing_at}
use Rattle.log_system.specs.Peers.{Answers, Deed, DoesDeeds, lines_of}
use Rattle.simulator.specs.Answers.{done_or_refusal}
use Rattle.simulator.specs.Execution.{IsPartOf, exec_of}
use Rattle.simulator.specs.declared.refusal.SimRefusal.{SimRefusal}
use Rattle.simulator.specs.declared.refusal.SimRefusal.TheVariants as refusal
use Rattle.peer_answers.specs.Answering.{Peer}
use Rattle.peer_answers.specs.Calls.{IsCalled, called_words, endorsed_words, endorses_by, is_passed_over, placed_words, standing_words}
use Rattle.peer_answers.specs.Placing.{place_in}
use Rattle.peer_answers.specs.declared.line.Request.TheVariants as request
use Rattle.peer_answers.specs.declared.place.Place.{Place}
use Rattle.peer_answers.specs.declared.place.Place.TheVariants.{Keyless, Stands, Stranger}
use Rattle.cli_peer.specs.Peering.{DoesAsked}
use Rattle.peer_laws.specs.Acting.{AreOfCall, answer_line, own_words}
use Rattle.peer_laws.specs.Together.{GoesBy, SealsAs}

-- who has fewer modules at hand comes to what who has more comes to, or ends as where a module is not at hand
abbrev pub PartsAnswerAlike : Type 0
PartsAnswerAlike =
    (part whole : Book) → IsPartOf part whole → (p : Proposal) (m : Plain) →
    (exec_of part p m ≡ exec_of whole p m) ⊎ ((exec_of part p m).ending ≡ NotInstalled)

abbrev Answer : Type 0
Answer = Result (Payload × Endorsement) SimRefusal

-- ---- what a proposal comes to

sealed_alike : (f h : Payload → Endorsement) (r : Result Payload SimRefusal) → ((payload : Payload) → f payload ≡ h payload) → sealed_by f r ≡ sealed_by h r
sealed_alike f h (Ok payload) same = ap {B = Answer} (λ (e : Endorsement). Ok (payload, e)) (same payload)
sealed_alike f h (Err cause) same = refl

endorsed_alike : PartsAnswerAlike → (s : Setting) (org : Bytes) (g : Genesis) (p : Proposal) (chain : Chain) → IsPartOf g.book.value s.book → SealsAs s org g →
    place_in g chain org ≡ Stands →
    (endorsed_on (endorses_by g org) p chain ≡ Err refusal.NotInstalled)
    ⊎ (endorsed_on (endorses_by g org) p chain ≡ endorsed_on (endorsing_at s org) p chain)
endorsed_alike alike s org g p chain part seals stands =
    let m = state (history chain) in
    let own : Payload → Endorsement = seal_of g.rules.value g.signers.value (plain_after chain) org in
    let one : Payload → Endorsement = s.seal (plain_after chain) org in
    let answer : Outcome → Answer = λ o. sealed_by own (done_or_refusal o.ending (payload_of p m o.seen)) in
    let made = payload_of p m (exec_of g.book.value p (values_of m)).seen in
    elim (alike g.book.value s.book part p (values_of m)) [
      | inl same ↦ inr (ap answer same ∙ sealed_alike own one (simulated_on (endorsing_at s org) p chain) (λ payload. sym (seals chain payload stands)))
      | inr none ↦ inl (ap (λ (e : Ending). sealed_by own (done_or_refusal e made)) none)
    ]

-- ---- what is said

-- the peer's own words, or those of a machine's answer
abbrev IsOwnOr : Setting → (org : Bytes) → Proposal → Chain → (said : Bytes) → Type 0
IsOwnOr s org p chain said =
    IsAmong said own_words ⊎ ((answer : Answer) × (said ≡ endorsed_words answer) × (answer ≡ endorsed_on (endorsing_at s org) p chain))

standing_said : (s : Setting) (org : Bytes) (p : Proposal) (chain : Chain) (said : Bytes) (answer : Answer) (passed_over : Bool) →
    said ≡ standing_words passed_over answer →
    (answer ≡ Err refusal.NotInstalled) ⊎ (answer ≡ endorsed_on (endorsing_at s org) p chain) → IsOwnOr s org p chain said
standing_said s org p chain said answer true is known = inl (suc (suc zero), ap Some (sym is))
standing_said s org p chain said answer false is (inl missing) =
    inl (suc zero, ap Some (sym (is ∙ ap endorsed_words missing)))
standing_said s org p chain said answer false is (inr same) = inr (answer, is, same)

placed_said : PartsAnswerAlike → (s : Setting) (org : Bytes) (g : Genesis) (agreed : Bool) (p : Proposal) (chain : Chain) (said : Bytes) (place : Place) →
    IsPartOf g.book.value s.book → SealsAs s org g → place_in g chain org ≡ place →
    said ≡ placed_words place (standing_words (is_passed_over agreed p) (endorsed_on (endorses_by g org) p chain)) → IsOwnOr s org p chain said
placed_said alike s org g agreed p chain said Stranger part seals stands is = inl (suc (suc (suc zero)), ap Some (sym is))
placed_said alike s org g agreed p chain said Keyless part seals stands is = inl (suc (suc (suc (suc zero))), ap Some (sym is))
placed_said alike s org g agreed p chain said Stands part seals stands is =
    standing_said s org p chain said (endorsed_on (endorses_by g org) p chain) (is_passed_over agreed p) is
    (endorsed_alike alike s org g p chain part seals stands)

called_said : PartsAnswerAlike → (s : Setting) (org : Bytes) (g : Genesis) (own : Option Bytes) (agreed : Bool) (p : Proposal) (chain : Chain) (said : Bytes) →
    IsPartOf g.book.value s.book → IfSome own (λ o. (o ≡ org) × SealsAs s o g) → said ≡ called_words g own agreed p chain → IsOwnOr s org p chain said
called_said alike s org g None agreed p chain said part goes is = inl (suc (suc (suc zero)), ap Some (sym is))
called_said alike s org g (Some o) agreed p chain said part goes is =
    subst (λ (name : Bytes). IsOwnOr s name p chain said) goes.0
    (placed_said alike s o g agreed p chain said (place_in g chain o) part goes.1 refl is)

-- ---- the deeds of a call

-- what the line of a call does where a peer has this, and by what is printed of it; nothing of the log is read
abbrev pub CallActs : Setting → (org : Bytes) → (number : ℕ) → Held → (tag words text : Bytes) → Type 0
CallActs s org number held tag words text =
    (deeds : List Deed) × AreOfCall number held.chain tag words text deeds × DoesDeeds s org held deeds held × (lines_of deeds ≡ [])

said_acts : (s : Setting) (org : Bytes) (number : ℕ) (held : Held) (tag words text said : Bytes) (p : Proposal) → SpellsProposal words p →
    text ≡ answer_line held.chain tag said → IsOwnOr s org p held.chain said → CallActs s org number held tag words text
said_acts s org number held tag words text said p spells is (inl own) = ([], inr (inl (said, own, is), refl), refl, refl)
said_acts s org number held tag words text said p spells is (inr made) = (
  Answers (p, made.0) ∷ [],
  inl ((p, made.0), spells, is ∙ ap (answer_line held.chain tag) made.1, refl),
  (made.2, refl),
  refl,
)

answered_acts : PartsAnswerAlike → (s : Setting) (org : Bytes) (p : Peer) → GoesBy s org p → (number : ℕ) (held : Held) (agreed : Bool)
    (tag words text said : Bytes) → text ≡ answer_line held.chain tag said → IsCalled p.log.genesis p.org agreed held.chain words said →
    CallActs s org number held tag words text
answered_acts alike s org p goes number held agreed tag words text said is (inl called) =
    said_acts s org number held tag words text said called.0 called.1 is
    (called_said alike s org p.log.genesis p.org agreed called.0 held.chain said goes.modules goes.seals called.2)
answered_acts alike s org p goes number held agreed tag words text said is (inr none) =
    ([], inr (inl (said, (zero, ap Some (sym none.1)), is), refl), refl, refl)

pub call_acts : PartsAnswerAlike → (s : Setting) (org : Bytes) (p : Peer) → GoesBy s org p → (number : ℕ) (held : Held) (l : Bytes) (agreed : Bool)
    (tag words text : Bytes) → DoesAsked p number held.chain l (request.Call agreed) tag words text → CallActs s org number held tag words text
call_acts alike s org p goes number held l agreed tag words text (inl asked) =
    answered_acts alike s org p goes number held agreed tag words text asked.1.0 asked.1.2 asked.1.1
call_acts alike s org p goes number held l agreed tag words text (inr none) = ([], inr (inr none.1, refl), refl, refl)
