-- What is reported of seats at work.
use mathlib.Core.List.{IsPrefix}
use Rattle.std.specs.Prelude.{◌≡◌, ℕ, ◌≤◌, ◌+◌, Bool, List, [], ◌∷◌, Some, length, slice_index_or}
use Rattle.fab_types.specs.declared.envelope.Envelope.{Envelope}
use Rattle.batch_cutter.specs.Division.{Limits}
use Rattle.wire.specs.Links.{AreLinked}
use Rattle.orderer.specs.Ordering.{Ordering}
use Rattle.envelope_ordering.specs.Given.{AcceptsEach, AreCut}
use Rattle.intake.specs.declared.rule.Parcel.{Parcel}
use Rattle.intake.specs.Mail.{of}
use Rattle.simulator.specs.Execution.{exec_of}
use Rattle.ledger_model.specs.Chain.{Bytes, Chain, history}
use Rattle.ledger_model.specs.Judged.{judged_chain}
use Rattle.ledger_setting.specs.declared.genesis.Genesis.{Genesis}
use Rattle.ledger_setting.specs.Rule.{table_of}
use Rattle.ledger_setting.specs.declared.verdict.Audit.TheVariants.{Agrees}
use Rattle.fabric_core.specs.Audit.{AuditSays, valid_count}
use Rattle.peer_node.specs.Seats.{endorsing_for}
use Rattle.seat_threads.specs.declared.counts.Counts.{Counts}
use Rattle.seat_threads.specs.declared.refusal.SeatsRefusal.{SeatsRefusal}
use Rattle.seat_threads.specs.declared.refusal.SeatsRefusal.TheVariants.{Memory, NoPlace, NotEntered}
use Rattle.seat_threads.specs.declared.running.Report.{Report}
use Rattle.seat_threads.specs.Desks.{envelopes_got}
use Rattle.seat_threads.specs.Rounds.{Outcome, envelopes_in, least_refusal}
use Rattle.seat_threads.specs.Work.{Task, AllCameTo, total_of}

-- what the seats of the genesis's first peer do
abbrev pub task_of : Genesis → (chaincode : Bytes) → (rounds : ℕ) → Task
task_of g chaincode rounds = record {
  endorsing = endorsing_for g (slice_index_or g.peers.items 0 []);
  chaincode = chaincode;
  rounds = rounds;
}

-- what was got of each seat from this number on is what its rounds endorsed, in their order
abbrev pub AreGot : List Parcel → ℕ → List (List Outcome) → Type 0
AreGot got seat [] = Unit {0}
AreGot got seat (outcomes ∷ others) = (of seat got ≡ envelopes_in outcomes) × AreGot got (seat + 1) others

-- the counts where no round was refused for want of memory or of an entry
abbrev pub counts_told : Report → Counts
counts_told r = record { endorsed = r.endorsed; refused = r.refused; out_of_memory = 0; not_entered = 0 }

-- the chain of an orderer's blocks, each transaction flagged by the table
abbrev pub chain_of : Task → Ordering → Chain
chain_of task now = judged_chain (table_of task.endorsing.listed) now.chain

-- The rounds of so many seats came to some outcomes, and what they endorsed was got and given to an orderer, which ordered it but for what it refused.
-- The chain that came of it was committed, each transaction flagged by the table, and audited. What each seat saw, and this chain, begin one chain, `whole`;
-- so all that is VALID agrees with its rerun
pub record TellsOfSeats (task : Task) (seats : ℕ) (reorder : Bool) (limits : Limits) (r : Report) : Type 0 where
  pub whole : Chain
  pub outcomes : List (List Outcome)
  pub seats_are : length outcomes ≡ seats
  pub came : AllCameTo task whole 0 outcomes
  pub counted : counts_told r ≡ total_of outcomes
  pub got : List Parcel
  pub got_all : AreGot got 0 outcomes
  pub got_alone : (seat : ℕ) → seats ≤ seat → of seat got ≡ []
  pub endorsed : r.endorsed ≡ length got
  pub ordered : List Envelope
  pub refused : List Envelope
  pub each : AcceptsEach task.endorsing.listed.edition limits reorder [] (envelopes_got got) ordered refused
  pub missing : r.missing ≡ length refused
  pub now : Ordering
  pub edition_is : now.edition ≡ task.endorsing.listed.edition
  pub reorder_is : now.reorder ≡ reorder
  pub limits_are : now.limits ≡ limits
  pub cut : AreCut ordered now
  pub linked : AreLinked [] now.chain
  pub blocks : r.blocks ≡ length now.chain
  pub begins : IsPrefix (chain_of task now) whole
  pub audited : AuditSays (exec_of task.endorsing.book) (chain_of task now) r.audit
  pub agrees : r.audit ≡ Agrees (valid_count (history (chain_of task now)))

-- Where each refusal comes: want of an entry only where no round wanted memory. Of want of memory, and of places in the cell, nothing is said
abbrev pub IsSeatsRefused : Task → ℕ → SeatsRefusal → Type 0
IsSeatsRefused task seats Memory = Unit {0}
IsSeatsRefused task seats NoPlace = Unit {0}
IsSeatsRefused task seats NotEntered =
    (whole : Chain) × (outcomes : List (List Outcome)) × (length outcomes ≡ seats) × AllCameTo task whole 0 outcomes
    × (least_refusal (total_of outcomes) ≡ Some NotEntered)

-- a peer opens without a round
abbrev pub IsOpeningRefused : SeatsRefusal → Type 0
IsOpeningRefused Memory = Unit {0}
IsOpeningRefused NoPlace = Unit {0}
IsOpeningRefused NotEntered = ⊥

-- seats at work have their places
abbrev pub IsWorkRefused : Task → ℕ → SeatsRefusal → Type 0
IsWorkRefused task seats Memory = Unit {0}
IsWorkRefused task seats NoPlace = ⊥
IsWorkRefused task seats NotEntered = IsSeatsRefused task seats NotEntered

-- want of an entry is the least refusal that these count
abbrev pub IsCountRefused : Counts → SeatsRefusal → Type 0
IsCountRefused counts Memory = Unit {0}
IsCountRefused counts NoPlace = ⊥
IsCountRefused counts NotEntered = least_refusal counts ≡ Some NotEntered
