-- What a machine beside the log does where a peer does its lines, by what is printed of them.
use Rattle.std.specs.Prelude.{◌≡◌, ◌⊎◌, ℕ, List, [], ◌∷◌, ◌++◌, Option, Some, None, codes, length}
use Rattle.std.specs.Fmt.{decimal}
use Rattle.std.specs.Str.Lossy.{utf8_lossy}
use Rattle.fabric_core.specs.Headline.{IsAmong}
use Rattle.json_events.specs.Spelling.{SpellsProposal}
use Rattle.ledger_model.specs.Chain.{Bytes, Chain}
use Rattle.log_system.specs.Peers.{Answers, Call, Deed, Takes}
use Rattle.simulator.specs.RefusalNumber.{refusal_text}
use Rattle.simulator.specs.declared.refusal.SimRefusal.TheVariants as refusal
use Rattle.peer_answers.specs.Answering.{Peer}
use Rattle.peer_answers.specs.Calls.{endorsed_words}
use Rattle.peer_answers.specs.Lines.{Asks, Logs, Said, said_in}
use Rattle.peer_answers.specs.declared.line.Request.TheVariants as request
use Rattle.cli_peer.specs.Logged.{Reached}
use Rattle.cli_peer.specs.Peering.{DoesLine, bad_text}

-- the line that answers a tag, by a chain
abbrev pub answer_line : Chain → (tag said : Bytes) → Bytes
answer_line chain tag said = codes "answer " ++ (tag ++ (codes " " ++ (decimal (length chain) ++ (codes " " ++ (said ++ codes "\n")))))

-- what a peer says to a call for itself, and as no machine: the words spell no proposal, the module is not at hand, nobody agreed to the amendment, the
-- organisation does not stand, or its seed is not at hand
abbrev pub own_words : List Bytes
own_words = codes "bad" ∷ refusal_text refusal.NotInstalled ∷ codes "refused 409" ∷ codes "refused 806" ∷ codes "refused 808" ∷ []

-- so it says, or the line is no text
abbrev pub SpeaksForItself : (number : ℕ) → Chain → (tag text : Bytes) → Type 0
SpeaksForItself number chain tag text = ((said : Bytes) × IsAmong said own_words × (text ≡ answer_line chain tag said)) ⊎ (text ≡ bad_text number)

-- a call of the proposal that the words spell is answered, in the words that are printed; or the peer speaks for itself
abbrev pub AreOfCall : (number : ℕ) → Chain → (tag words text : Bytes) → List Deed → Type 0
AreOfCall number chain tag words text deeds =
    ((call : Call) × SpellsProposal words call.0 × (text ≡ answer_line chain tag (endorsed_words call.1)) × (deeds ≡ Answers call ∷ []))
    ⊎ (SpeaksForItself number chain tag text × (deeds ≡ []))

-- the deeds of a line by its number, by the chain, and by what it says and what is printed: a line of the log is read, and a call is answered
abbrev pub AreDeeds : (number : ℕ) → Chain → Option Said → (text : Bytes) → List Deed → Type 0
AreDeeds number chain (Some (Logs index said)) text deeds = deeds ≡ Takes said ∷ []
AreDeeds number chain (Some (Asks (request.Call agreed) tag words)) text deeds = AreOfCall number chain tag words text deeds
AreDeeds number chain (Some (Asks request.Question tag words)) text deeds = deeds ≡ []
AreDeeds number chain (Some (Asks request.Seen tag words)) text deeds = deeds ≡ []
AreDeeds number chain None text deeds = deeds ≡ []

-- what a peer has, and its deeds so far
pub record Acting : Type 0 where
  pub reached : Reached
  pub deeds : List Deed

abbrev pub acting : Reached → List Deed → Acting
acting reached deeds = record { reached = reached; deeds = deeds }

-- it does a line, whose deeds come behind the others
abbrev pub ActsLine : Peer → ℕ → Acting → Bytes → Bytes → Acting → Type 0
ActsLine p number old l text new =
    DoesLine p number old.reached l text new.reached
    × ((deeds : List Deed) × AreDeeds number old.reached.held.chain (said_in (utf8_lossy l)) text deeds × (new.deeds ≡ old.deeds ++ deeds))
