-- What a clause sees of a seat, and what its calls answer.
use Rattle.std.specs.Prelude.{◌≡◌, ◌⊎◌, false, [], Result, Ok, Err, IsOk, IsSome}
use mathlib.Core.List.{IsPrefix}
use Rattle.std.specs.Arc.{arc_value}
pub use Rattle.logbook.specs.Pages.{Book as PeerId}
use Rattle.fab_types.specs.declared.proposal.Proposal.{Proposal}
use Rattle.fab_types.specs.Payloads.{Payload}
use Rattle.fab_types.specs.declared.envelope.Endorsement.{Endorsement}
use Rattle.ledger_model.specs.Chain.{Bytes, Chain, history}
use Rattle.ledger_model.specs.State.{state, state_at}
use Rattle.mvcc_validate.specs.Current.{is_current}
use Rattle.endorser.specs.Rechecks.{IsRecheckRefused}
use Rattle.simulator.specs.declared.refusal.SimRefusal.{SimRefusal}
use Rattle.simulator.specs.declared.refusal.SimRefusal.TheVariants.{UnknownChaincode, NotInstalled, BadPolicy, BadMembership, Trapped, Spent, Status, Stale, Memory}
use Rattle.endorsement_policy.specs.Endorsed.{seal_of}
use Rattle.ledger_setting.specs.declared.genesis.Genesis.{Genesis}
use Rattle.snapshot_cell.specs.Seats as cell
use Rattle.snapshot_cell.specs.declared.refusal.TakeRefusal.{TakeRefusal}
use Rattle.snapshot_cell.specs.declared.refusal.TakeRefusal.TheVariants as take
use Rattle.endorser.specs.Endorsing as endorser
pub use Rattle.endorser.specs.Endorsing.{Endorsing, simulated_on, IsEndorsed}
use Rattle.peer_node.specs.declared.seat.Seat.{Seat}
use Rattle.peer_node.specs.declared.refusal.FinishRefusal.{FinishRefusal}
use Rattle.peer_node.specs.declared.refusal.FinishRefusal.TheVariants.{Simulation, NotEntered}
use Rattle.peer_node.specs.Refusals.{of_take}

-- the whole blocks that a seat has seen or was told of
abbrev pub seen_chain : Seat → Chain
seen_chain s = cell.seen_list s.reader

-- which peer it is of
abbrev pub peer_of : Seat → PeerId
peer_of s = cell.cell_of_reader s.reader

-- what it endorses by
abbrev pub endorsing_of : Seat → Endorsing
endorsing_of s = endorser.endorsing_of s.endorser

-- what an organisation endorses by, by the chaincodes, the rules and the seeds of a genesis
abbrev pub endorsing_for : Genesis → Bytes → Endorsing
endorsing_for g org =
    record { book = arc_value g.book; listed = arc_value g.rules; seal = λ m. seal_of (arc_value g.rules) (arc_value g.signers) m org }

-- a seat of this peer that endorses by this and has seen these whole blocks
abbrev pub IsSeatBehind : Endorsing → PeerId → Chain → Seat → Type 0
IsSeatBehind e peer chain s = (peer_of s ≡ peer) × (seen_chain s ≡ chain) × (endorsing_of s ≡ e)

-- a seat of this peer that endorses by this and has seen nothing
abbrev pub IsSeat : Endorsing → PeerId → Seat → Type 0
IsSeat e peer s = IsSeatBehind e peer [] s

-- What a refusal says of what was begun on the list `first`: the simulation came to it; or it gave a payload of which something that was read is
-- not as it was after a second list, which begins with all that was seen before and is what is seen afterwards. For want of memory a second list is
-- seen where the simulation gave a payload, and else none
abbrev pub IsFinishRefused : Endorsing → Proposal → (first before after : Chain) → SimRefusal → Type 0
IsFinishRefused e p first before after Stale =
    (payload : Payload) × (simulated_on e p first ≡ Ok payload) × IsPrefix before after × (is_current (state (history after)) payload ≡ false)
IsFinishRefused e p first before after Memory = (after ≡ before) ⊎ (IsOk (simulated_on e p first) × IsPrefix before after)
IsFinishRefused e p first before after UnknownChaincode = (simulated_on e p first ≡ Err UnknownChaincode) × (after ≡ before)
IsFinishRefused e p first before after NotInstalled = (simulated_on e p first ≡ Err NotInstalled) × (after ≡ before)
IsFinishRefused e p first before after BadPolicy = (simulated_on e p first ≡ Err BadPolicy) × (after ≡ before)
IsFinishRefused e p first before after BadMembership = (simulated_on e p first ≡ Err BadMembership) × (after ≡ before)
IsFinishRefused e p first before after (Trapped kind used) = (simulated_on e p first ≡ Err (Trapped kind used)) × (after ≡ before)
IsFinishRefused e p first before after Spent = (simulated_on e p first ≡ Err Spent) × (after ≡ before)
IsFinishRefused e p first before after (Status n) = (simulated_on e p first ≡ Err (Status n)) × (after ≡ before)

-- What was begun on the list `first` is endorsed where the simulation gave a payload, and all that it read is as it was after a second list, which
-- begins with all that was seen before and is what is seen afterwards; it is sealed in the state after that. Where the cell was not entered the simulation
-- had given a payload, and nothing was seen
abbrev pub FinishesBy : Endorsing → Proposal → (first before after : Chain) → Result (Payload × Endorsement) FinishRefusal → Type 0
FinishesBy e p first before after (Ok answer) =
    (simulated_on e p first ≡ Ok answer.0) × IsPrefix before after × IsEndorsed e after answer.0 answer.1
FinishesBy e p first before after (Err (Simulation r)) = IsFinishRefused e p first before after r
FinishesBy e p first before after (Err NotEntered) = IsOk (simulated_on e p first) × (after ≡ before)

-- something that a payload read is not as it is after a chain, or there was no memory
abbrev pub IsNotEndorsed : Chain → Payload → FinishRefusal → Type 0
IsNotEndorsed chain payload (Simulation r) = IsRecheckRefused (state (history chain)) payload r
IsNotEndorsed chain payload NotEntered = ⊥

-- refused as the take of a snapshot was, with nothing seen; or begun on a list that begins with all that was seen, and finished
abbrev pub Endorses : Endorsing → Proposal → (before after : Chain) → Result (Payload × Endorsement) FinishRefusal → Type 0
Endorses e p before after r =
    ((t : TakeRefusal) × (r ≡ Err (of_take t)) × (after ≡ before)) ⊎ ((first : Chain) × IsPrefix before first × FinishesBy e p first first after r)

-- what a refused read leaves: nothing was seen; or the entry that the key has after a list was not copied for want of memory
abbrev pub IsReadRefused : Bytes → (before after : Chain) → TakeRefusal → Type 0
IsReadRefused key before after take.NotEntered = after ≡ before
IsReadRefused key before after take.Memory =
    (after ≡ before) ⊎ (IsPrefix before after × IsSome (state_at (history after) key))
