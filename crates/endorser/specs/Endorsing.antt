-- What an endorser endorses by, and what comes of a proposal and of a payload.
use Rattle.std.specs.Prelude.{◌≡◌, true, Result, Ok, Err}
use Rattle.std.specs.Arc.{arc_value}
use Rattle.fab_types.specs.declared.proposal.Proposal.{Proposal}
use Rattle.fab_types.specs.Payloads.{Payload}
use Rattle.fab_types.specs.declared.envelope.Endorsement.{Endorsement}
use Rattle.ledger_model.specs.Chain.{Chain, history}
use Rattle.ledger_model.specs.State.{state}
use Rattle.ledger_model.specs.Views.{Plain, Versioned, values_of}
use Rattle.endorsement_policy.specs.Endorsed.{Listed, seal_of}
use Rattle.chaincode_book.specs.Books.{Book}
use Rattle.mvcc_validate.specs.Current.{is_current}
use Rattle.simulator.specs.Execution.{exec_of}
use Rattle.simulator.specs.Answers.{payload_in}
use Rattle.simulator.specs.declared.refusal.SimRefusal.{SimRefusal}
use Rattle.endorser.specs.declared.endorsing.Endorser.{Endorser}

-- the chaincodes, the rules, and what is put on a payload in a state
pub record Endorsing : Type 0 where
  pub book : Book
  pub listed : Listed
  pub seal : Plain → Payload → Endorsement

abbrev pub endorsing_of : Endorser → Endorsing
endorsing_of e =
    record { book = arc_value e.book; listed = arc_value e.rules; seal = λ m. seal_of (arc_value e.rules) (arc_value e.signers) m e.org }

-- what a simulation on a state comes to
abbrev pub simulated_in : Endorsing → Proposal → Versioned → Result Payload SimRefusal
simulated_in e p m = payload_in (exec_of e.book) p m

-- the same on the state after a chain
abbrev pub simulated_on : Endorsing → Proposal → Chain → Result Payload SimRefusal
simulated_on e p chain = simulated_in e p (state (history chain))

-- a payload with its endorsement, or the refusal
abbrev pub sealed_by : (Payload → Endorsement) → Result Payload SimRefusal → Result (Payload × Endorsement) SimRefusal
sealed_by seal (Ok payload) = Ok (payload, seal payload)
sealed_by seal (Err refusal) = Err refusal

-- what a proposal comes to that is simulated and endorsed on a state
abbrev pub endorsed_in : Endorsing → Proposal → Versioned → Result (Payload × Endorsement) SimRefusal
endorsed_in e p m = sealed_by (e.seal (values_of m)) (simulated_in e p m)

-- the same on the state after a chain
abbrev pub endorsed_on : Endorsing → Proposal → Chain → Result (Payload × Endorsement) SimRefusal
endorsed_on e p chain = endorsed_in e p (state (history chain))

-- it is what is put on a payload in a state, in which all that was read is as it is
abbrev pub IsEndorsedIn : Endorsing → Versioned → Payload → Endorsement → Type 0
IsEndorsedIn e m payload tag = (is_current m payload ≡ true) × (tag ≡ e.seal (values_of m) payload)

-- the same of the state after a chain
abbrev pub IsEndorsed : Endorsing → Chain → Payload → Endorsement → Type 0
IsEndorsed e chain payload tag = IsEndorsedIn e (state (history chain)) payload tag
