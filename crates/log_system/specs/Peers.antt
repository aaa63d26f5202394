-- What a peer of a log does, deed by deed, and the machine that it is.
use Rattle.std.specs.Prelude.{◌≡◌, ℕ, List, [], ◌∷◌, Result}
use Rattle.fab_types.specs.declared.proposal.Proposal.{Proposal}
use Rattle.fab_types.specs.Payloads.{Payload}
use Rattle.fab_types.specs.declared.envelope.Endorsement.{Endorsement}
use Rattle.ledger_model.specs.Chain.{Bytes, Chain}
use Rattle.ledger_setting.specs.Rule.{table_of}
use Rattle.simulator.specs.declared.refusal.SimRefusal.{SimRefusal}
use Rattle.endorser.specs.Endorsing.{endorsed_on}
use Rattle.log_orderer.specs.declared.replica.LineReport.{LineReport}
use Rattle.log_committer.specs.Peering.{Held, ReadsLine}
use Rattle.log_committer.specs.declared.receiving.Received.{Received}
use Rattle.log_system.specs.Machines.{Act, DoesEach, Endorses, Joins, Setting, endorsing_at, unread}

-- a proposal, and what a peer answers
abbrev pub Call : Type 0
Call = Proposal × Result (Payload × Endorsement) SimRefusal

-- what a peer does. A call that wanted memory, or a module that is not at hand there, changes nothing, and is left out
pub data Deed : Type 0 where
  -- it reads the next line of the log
  Takes : List ℕ → Deed
  -- it answers a proposal
  Answers : Call → Deed

-- one deed after another: a line is read by all that it has, and a proposal is answered on the state after its chain
abbrev pub DoesDeeds : Setting → Bytes → Held → List Deed → Held → Type 0
DoesDeeds s org old [] new = new ≡ old
DoesDeeds s org old (Takes line ∷ deeds) new =
    (report : LineReport) × (told : List Received) × (next : Held) × ReadsLine (table_of s.listed) old line report told next ×
    DoesDeeds s org next deeds new
DoesDeeds s org old (Answers call ∷ deeds) new = (call.1 ≡ endorsed_on (endorsing_at s org) call.0 old.chain) × DoesDeeds s org old deeds new

-- who begins with the chain of a store, and has read nothing of the log
abbrev pub begun : Setting → Chain → Held
begun s stored = record { log = unread s; chain = stored }

-- the lines that it reads, and the calls that it answers
abbrev pub lines_of : List Deed → List (List ℕ)
lines_of [] = []
lines_of (Takes line ∷ deeds) = line ∷ lines_of deeds
lines_of (Answers call ∷ deeds) = lines_of deeds

abbrev pub calls_of : List Deed → List Call
calls_of [] = []
calls_of (Takes line ∷ deeds) = calls_of deeds
calls_of (Answers call ∷ deeds) = call ∷ calls_of deeds

-- the calls that a machine answers
abbrev pub calls_in : List Act → List Call
calls_in [] = []
calls_in (Joins c ∷ acts) = calls_in acts
calls_in (Endorses p answer ∷ acts) = (p, answer) ∷ calls_in acts

-- A machine beside these lines comes to this chain from an empty one, and answers these calls, in this order, each on the chain that it has then
pub record IsMachine (s : Setting) (lines : List (List ℕ)) (org : Bytes) (calls : List Call) (chain : Chain) : Type 0 where
  pub acts : List Act
  pub answered : calls_in acts ≡ calls
  pub does : DoesEach s lines org [] acts chain
