-- The rounds of a seat: what each proposes, what it comes to, and how rounds are counted.
use Rattle.std.specs.Prelude.{◌≡◌, ℕ, ◌+◌, ◌==◌, ◌⊎◌, List, [], ◌∷◌, ◌++◌, length, fold, Option, Some, None, Result, Ok, Err, if◌then◌else◌}
use Rattle.std.specs.Int.{w64, to_be_bytes}
use Rattle.fab_types.specs.declared.proposal.Proposal.{Proposal}
use Rattle.fab_types.specs.declared.proposal.Proposal.TheVariants.{Call}
use Rattle.fab_types.specs.declared.envelope.Endorsement.{Endorsement}
use Rattle.fab_types.specs.declared.envelope.Envelope.{Envelope}
use Rattle.simulator.specs.declared.refusal.SimRefusal.{SimRefusal}
use Rattle.simulator.specs.declared.refusal.SimRefusal.TheVariants.{Memory}
use Rattle.peer_node.specs.declared.refusal.FinishRefusal.{FinishRefusal}
use Rattle.peer_node.specs.declared.refusal.FinishRefusal.TheVariants.{Simulation, NotEntered}
use Rattle.endorser.specs.Endorsing.{Endorsing}
use Rattle.peer_node.specs.Refusals.{of_memory}
use Rattle.peer_node.specs.Seats.{Endorses}
use mathlib.Core.List.{IsPrefix}
use Rattle.ledger_model.specs.Chain.{Bytes, Chain}
use Rattle.seat_threads.specs.declared.counts.Counts.{Counts}
use Rattle.seat_threads.specs.declared.refusal.SeatsRefusal.{SeatsRefusal}
use Rattle.seat_threads.specs.declared.refusal.SeatsRefusal.TheVariants.{Memory, NotEntered as EntryRefused}

-- a call without an argument, whose nonce is the numbers of the seat and of the round
abbrev pub proposal_of : Bytes → (seat round : ℕ) → Proposal
proposal_of chaincode seat round = Call (record { chaincode = chaincode; argument = []; nonce = to_be_bytes w64 seat ++ to_be_bytes w64 round })

-- an envelope, or why there is none
abbrev pub Outcome : Type 0
Outcome = Result Envelope FinishRefusal

-- What a proposal comes to: an envelope with this endorser's endorsement alone, or the refusal to endorse, or want of memory for the envelope, before
-- a chain was seen or behind it
abbrev pub ComesTo : Endorsing → Proposal → (before after : Chain) → Outcome → Type 0
ComesTo e p before after (Ok x) = (tag : Endorsement) × Endorses e p before after (Ok (x.payload, tag)) × (x.endorsements ≡ tag ∷ [])
ComesTo e p before after (Err r) = Endorses e p before after (Err r) ⊎ ((r ≡ of_memory) × IsPrefix before after)

-- The rounds of a seat from this one on came to these outcomes: the first one began with the chain `before`, each saw a chain that goes on with what was seen
-- before it, and the last one left `after`
abbrev pub ComeInTurn : Endorsing → Bytes → (seat round : ℕ) → (before after : Chain) → List Outcome → Type 0
ComeInTurn e chaincode seat round before after [] = after ≡ before
ComeInTurn e chaincode seat round before after (outcome ∷ outcomes) =
    (seen : Chain) × IsPrefix before seen × ComesTo e (proposal_of chaincode seat round) before seen outcome
    × ComeInTurn e chaincode seat (round + 1) seen after outcomes

-- all rounds of a seat came to these outcomes
abbrev pub CameTo : Endorsing → Bytes → (seat rounds : ℕ) → (before after : Chain) → List Outcome → Type 0
CameTo e chaincode seat rounds before after outcomes =
    (length outcomes ≡ rounds) × ComeInTurn e chaincode seat 0 before after outcomes

-- the envelopes among these, in their order
abbrev pub envelopes_in : List Outcome → List Envelope
envelopes_in [] = []
envelopes_in (Ok x ∷ outcomes) = x ∷ envelopes_in outcomes
envelopes_in (Err r ∷ outcomes) = envelopes_in outcomes

abbrev pub no_rounds : Counts
no_rounds = record { endorsed = 0; refused = 0; out_of_memory = 0; not_entered = 0 }

-- how many rounds were counted
abbrev pub rounds_in : Counts → ℕ
rounds_in c = c.endorsed + c.refused + c.out_of_memory + c.not_entered

abbrev pub with_endorsed : Counts → Counts
with_endorsed c = record c { endorsed = c.endorsed + 1 }

-- one more round, which was refused: want of memory and of an entry are counted apart from the refusals of the chaincode
abbrev pub with_sim_refused : SimRefusal → Counts → Counts
with_sim_refused Memory c = record c { out_of_memory = c.out_of_memory + 1 }
with_sim_refused refusal c = record c { refused = c.refused + 1 }

abbrev pub with_refused : FinishRefusal → Counts → Counts
with_refused (Simulation refusal) c = with_sim_refused refusal c
with_refused NotEntered c = record c { not_entered = c.not_entered + 1 }

abbrev pub with_outcome : Counts → Outcome → Counts
with_outcome c (Ok x) = with_endorsed c
with_outcome c (Err r) = with_refused r c

abbrev pub counts_of : List Outcome → Counts
counts_of outcomes = fold with_outcome no_rounds outcomes

abbrev pub sum_of : Counts → Counts → Counts
sum_of a b = record {
  endorsed = a.endorsed + b.endorsed;
  refused = a.refused + b.refused;
  out_of_memory = a.out_of_memory + b.out_of_memory;
  not_entered = a.not_entered + b.not_entered;
}

-- want of memory comes before want of an entry
abbrev pub least_refusal : Counts → Option SeatsRefusal
least_refusal c = if c.out_of_memory == 0 then (if c.not_entered == 0 then None else Some EntryRefused) else Some Memory
