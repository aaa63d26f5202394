-- What proposals are answered by, and what they come to.
use Rattle.std.specs.Prelude.{◌≡◌, ◌⊎◌, ◌++◌, Bool, true, false, not, Option, Some, None, Result, Ok, Err, codes}
use Rattle.std.specs.Str.{IsUtf8}
use Rattle.hex.specs.Hex.{encode_lower}
use Rattle.fab_types.specs.BlockSpelling.{endorsement_bytes}
use Rattle.fab_types.specs.Payloads.{Payload}
use Rattle.fab_types.specs.Spelling.{payload_bytes}
use Rattle.fab_types.specs.declared.envelope.Endorsement.{Endorsement}
use Rattle.fab_types.specs.declared.proposal.Proposal.{Proposal}
use Rattle.fab_types.specs.declared.proposal.Proposal.TheVariants as proposal
use Rattle.endorsement_policy.specs.Endorsed.{seal_of}
use Rattle.endorser.specs.Endorsing.{Endorsing, endorsed_on}
use Rattle.json_events.specs.Spelling.{SpellsProposal}
use Rattle.ledger_model.specs.Chain.{Bytes, Chain}
use Rattle.ledger_setting.specs.declared.genesis.Genesis.{Genesis}
use Rattle.simulator.specs.RefusalNumber.{refusal_text}
use Rattle.simulator.specs.declared.refusal.SimRefusal.{SimRefusal}
use Rattle.peer_answers.specs.Placing.{place_in}
use Rattle.peer_answers.specs.declared.place.Place.{Place}
use Rattle.peer_answers.specs.declared.place.Place.TheVariants.{Stranger, Keyless, Stands}

-- the chaincodes and the rules by which an organisation endorses, and how it seals
abbrev pub endorses_by : Genesis → Bytes → Endorsing
endorses_by g org = record { book = g.book.value; listed = g.rules.value; seal = λ m. seal_of g.rules.value g.signers.value m org }

-- an amendment is not looked at by who does not agree
abbrev pub is_passed_over : (agrees : Bool) → Proposal → Bool
is_passed_over agrees (proposal.Call p) = false
is_passed_over agrees (proposal.Upgrade p) = false
is_passed_over agrees (proposal.Amend p) = not agrees

-- bytes are text, and spell the proposal
abbrev pub SpellsIn : Bytes → Proposal → Type 0
SpellsIn l p = IsUtf8 l × SpellsProposal l p

-- ---- what a peer answers to a proposal

-- a payload with its endorsement, or why the simulation is refused
abbrev pub endorsed_words : Result (Payload × Endorsement) SimRefusal → Bytes
endorsed_words (Ok e) = codes "endorsed " ++ (encode_lower (payload_bytes e.0) ++ (codes " " ++ encode_lower (endorsement_bytes e.1)))
endorsed_words (Err cause) = refusal_text cause

-- of who stands: an amendment is refused where nobody has agreed to it
abbrev pub standing_words : Bool → Result (Payload × Endorsement) SimRefusal → Bytes
standing_words true endorsed = codes "refused 409"
standing_words false endorsed = endorsed_words endorsed

abbrev pub placed_words : Place → (stands : Bytes) → Bytes
placed_words Stranger stands = codes "refused 806"
placed_words Keyless stands = codes "refused 808"
placed_words Stands stands = stands

-- of an organisation, if the peer is of one, by the chain on which the proposal is simulated
abbrev pub called_words : Genesis → Option Bytes → (agreed : Bool) → Proposal → Chain → Bytes
called_words g None agreed p chain = codes "refused 806"
called_words g (Some org) agreed p chain =
    placed_words (place_in g chain org) (standing_words (is_passed_over agreed p) (endorsed_on (endorses_by g org) p chain))

-- words spell a proposal, and this is said of it; or they spell none
abbrev pub IsCalled : Genesis → Option Bytes → (agreed : Bool) → Chain → (words said : Bytes) → Type 0
IsCalled g org agreed chain words said =
    ((p : Proposal) × SpellsProposal words p × (said ≡ called_words g org agreed p chain))
    ⊎ (((p : Proposal) → ¬ SpellsProposal words p) × (said ≡ codes "bad"))
