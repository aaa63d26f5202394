-- What machines of peers do, each by itself, where all read one log of lines.
use Rattle.std.specs.Prelude.{◌≡◌, ℕ, Bool, List, [], ◌∷◌, ◌++◌, Option, Some, Result, length, slice_get}
use Rattle.std.specs.List.{AllByRecursion}
use Rattle.fab_types.specs.declared.block.Block.{Block}
use Rattle.fab_types.specs.declared.proposal.Proposal.{Proposal}
use Rattle.fab_types.specs.Payloads.{Payload}
use Rattle.fab_types.specs.declared.envelope.Endorsement.{Endorsement}
use Rattle.batch_cutter.specs.Division.{Limits}
use Rattle.orderer.specs.Ordering.{Ordering}
use Rattle.orderer.specs.declared.report.BatchReport.{BatchReport}
use Rattle.ledger_model.specs.Chain.{Bytes, Committed, Chain}
use Rattle.ledger_model.specs.Views.{Plain}
use Rattle.endorsement_policy.specs.Endorsed.{Listed}
use Rattle.ledger_setting.specs.Rule.{table_of}
use Rattle.chaincode_book.specs.Books.{Book}
use Rattle.simulator.specs.declared.refusal.SimRefusal.{SimRefusal}
use Rattle.log_orderer.specs.Log.{ReadsEach}
use Rattle.log_committer.specs.Committing.{Commits}
use Rattle.endorser.specs.Endorsing.{Endorsing, endorsed_on}
use Rattle.fabric_core.specs.System.{fresh_orderer}

-- What is one on all machines: what the genesis fixes with all the modules that any of them has at hand, and what each organisation puts on a
-- payload
pub record Setting : Type 0 where
  pub book : Book
  pub listed : Listed
  -- in a state; a machine has its own organisation's seed alone, and goes by this there alone
  pub seal : Plain → Bytes → Payload → Endorsement
  pub limits : Limits
  pub reorder : Bool

-- by what a machine of an organisation endorses, with a book of its own
abbrev pub endorsing_with : Book → Setting → Bytes → Endorsing
endorsing_with book s org = record { book = book; listed = s.listed; seal = λ m. s.seal m org }

-- and with the book that is one on all machines
abbrev pub endorsing_at : Setting → Bytes → Endorsing
endorsing_at s org = endorsing_with s.book s org

-- who has read nothing of the log
abbrev pub unread : Setting → Ordering
unread s = fresh_orderer s.listed.edition s.limits s.reorder

-- who has read some of the lines, from the first on, has this block at this place of the chain that they make
pub record IsRead (s : Setting) (lines : List (List ℕ)) (place : ℕ) (block : Block) : Type 0 where
  pub front : List (List ℕ)
  pub back : List (List ℕ)
  pub parts : front ++ back ≡ lines
  pub answers : List (Option (List BatchReport))
  pub replica : Ordering
  pub reads : ReadsEach (unread s) front answers replica
  pub there : slice_get replica.chain place ≡ Some block

-- what a machine does, with what comes of it. A call that wanted memory, or a module that is not at hand there, changes nothing, and is left out
pub data Act : Type 0 where
  -- a block with its flags joins its chain
  Joins : Committed → Act
  -- a proposal is answered
  Endorses : Proposal → Result (Payload × Endorsement) SimRefusal → Act

-- one act of a machine of an organisation, by its own chain alone: the block that it commits is the next one of those that the
-- log makes, and a proposal is answered on the state after its chain
abbrev pub Does : Setting → List (List ℕ) → Bytes → Chain → Act → Chain → Type 0
Does s lines org chain (Joins c) new =
    IsRead s lines (length chain) c.block × Commits (table_of s.listed) chain (c.block ∷ []) new × (new ≡ chain ++ c ∷ [])
Does s lines org chain (Endorses p answer) new =
    (answer ≡ endorsed_on (endorsing_at s org) p chain) × (new ≡ chain)

-- one act after another
abbrev pub DoesEach : Setting → List (List ℕ) → Bytes → Chain → List Act → Chain → Type 0
DoesEach s lines org chain [] new = new ≡ chain
DoesEach s lines org chain (act ∷ acts) new = (next : Chain) × Does s lines org chain act next × DoesEach s lines org next acts new

-- a machine: its organisation, what it did from an empty chain on, and its chain then
pub record Machine : Type 0 where
  pub org : Bytes
  pub acts : List Act
  pub chain : Chain

-- so each of these machines did, beside these lines
abbrev pub AreMachines : Setting → List (List ℕ) → List Machine → Type 0
AreMachines s lines machines = AllByRecursion (λ m. DoesEach s lines m.org [] m.acts m.chain) machines
