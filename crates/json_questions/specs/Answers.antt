-- What is answered to a question, by a genesis and a chain.
use Rattle.std.specs.Prelude.{◌≡◌, ℕ, suc, ◌-◌, ◌++◌, List, [], ◌∷◌, Option, Some, None, Result, Ok, Err, Bool, true, false}
use Rattle.std.specs.Prelude.{bytes_eq, codes, drop, is_some, replicate, slice_get, take}
use Rattle.std.specs.Fmt.{decimal, signed_decimal}
use Rattle.std.specs.Int.{w32, cast_signed}
use Rattle.std.specs.List.{filter, find}
use Rattle.serde_json.specs.Data.{Data, null, boolean, string, array, object, member, no_members}
use Rattle.serde_json.specs.View.{items_of}
use Rattle.fab_types.specs.Payloads.{Payload}
use Rattle.fab_types.specs.declared.proposal.Proposal.{Proposal}
use Rattle.fab_types.specs.declared.proposal.Proposal.TheVariants as proposal
use Rattle.wire.specs.Ids.{id_of}
use Rattle.ledger_model.specs.Chain.{Bytes, Chain, Placed, history, placed_from}
use Rattle.ledger_model.specs.State.{state, state_at}
use Rattle.ledger_model.specs.Views.{first}
use Rattle.world_state.specs.Kept.{hashes_of}
use Rattle.store_devices.specs.Blocks.{IsGiven}
use Rattle.policy_language.specs.GoodSets.{Names, is_satisfied}
use Rattle.org_keys.specs.declared.organisation.Organisation.{Organisation}
use Rattle.endorsement_policy.specs.Endorsed.{Listed, is_org, policy_in}
use Rattle.endorsement_policy.specs.Judge.{orgs_behind, plain_after}
use Rattle.wasm_ast.specs.Traps.{trap_number}
use Rattle.simulator.specs.Execution.{exec_of}
use Rattle.simulator.specs.Answers.{payload_or_refusal}
use Rattle.simulator.specs.RefusalNumber.{refusal_number}
use Rattle.simulator.specs.declared.refusal.SimRefusal.{SimRefusal}
use Rattle.simulator.specs.declared.refusal.SimRefusal.TheVariants as refusal
use Rattle.ledger_setting.specs.declared.genesis.Genesis.{Genesis}
use Rattle.json_chain.specs.Blocks.{block_json}
use Rattle.json_chain.specs.Entries.{entries_json, entry_json}
use Rattle.json_chain.specs.Genesis.{genesis_json}
use Rattle.json_chain.specs.Memberships.{standing_behind}
use Rattle.json_chain.specs.Standing.{orgs_before}
use Rattle.json_chain.specs.Transactions.{payload_json, placed_transaction_json}
use Rattle.json_chain.specs.Writes.{writes_json}
use Rattle.json_questions.specs.declared.question.Question.{Question}
use Rattle.json_questions.specs.declared.question.Question.TheVariants.{Setting, Members, Block, Get, Range, History, HistoryPart, Transaction, Satisfied, Call}

-- null where there is nothing to show
abbrev pub or_null : {A : Type 0} → (A → Data) → Option A → Data
or_null json None = null
or_null json (Some x) = json x

-- a transaction of this id
abbrev pub has_id : Bytes → Placed → Bool
has_id id t = bytes_eq (id_of t.envelope.payload.proposal) id

-- a call, with zeros as its nonce
abbrev pub call_of : (chaincode argument : Bytes) → Proposal
call_of chaincode argument = proposal.Call (record { chaincode = chaincode; argument = argument; nonce = replicate 16 0 })

-- a status is a word of 32 bits, and written as a signed number (two's complement)
abbrev pub status_words : ℕ → List ℕ
status_words n = codes "404 status " ++ signed_decimal (cast_signed w32 n)

-- what a line `refused ..` says of it behind that word
abbrev pub refusal_words : SimRefusal → List ℕ
refusal_words (refusal.Trapped kind used) = codes "402 trap " ++ decimal (trap_number kind)
refusal_words (refusal.Status status) = status_words status
refusal_words r = decimal (refusal_number r)

-- the payload of a simulation, or {"refused":"404 status 2"}
abbrev pub outcome_json : Result Payload SimRefusal → Data
outcome_json (Ok payload) = payload_json payload
outcome_json (Err r) = object (member (codes "refused") (string (refusal_words r)) no_members)

-- a transaction at its place in a chain, by who stands before its block
abbrev pub placed_json : Listed → Chain → Placed → Data
placed_json r chain t = placed_transaction_json (orgs_before r t.version.block chain) t

-- the transactions of so many blocks of a chain at the most, from the block of a number on
abbrev pub part_of : (from blocks : ℕ) → Chain → List Placed
part_of from blocks chain = placed_from from (take blocks (drop (from - 1) chain))

-- those of these names that organisations have
abbrev pub names_among : List Organisation → Names → Names
names_among orgs names = filter (λ name. is_some (find (is_org name) orgs)) names

-- The answer to a question after a chain: of its blocks, of the state after them, or of a policy in that state, for whose leaves those count
-- alone who stand there
abbrev pub answer_json : Genesis → Question → Chain → Data
answer_json g Setting chain = genesis_json g
answer_json g Members chain = standing_behind g.rules.value chain
answer_json g (Block n) chain = or_null (block_json (orgs_before g.rules.value n chain)) (slice_get chain (n - 1))
answer_json g (Get key) chain = or_null (λ e. entry_json key e.0 e.1) (state_at (history chain) key)
answer_json g (Range start end limit) chain = array (items_of (entries_json (first (state (history chain)) start end limit)))
answer_json g (History key) chain = array (items_of (writes_json key (history chain)))
answer_json g (HistoryPart key from blocks) chain = array (items_of (writes_json key (part_of from blocks chain)))
answer_json g (Transaction id) chain = or_null (placed_json g.rules.value chain) (find (has_id id) (history chain))
answer_json g (Satisfied chaincode orgs) chain =
    let standing = names_among (orgs_behind g.rules.value chain) orgs in
    or_null (λ p. boolean (is_satisfied p standing)) (policy_in g.rules.value (plain_after chain) chaincode)
answer_json g (Call chaincode argument) chain = outcome_json (payload_or_refusal (exec_of g.book.value) (call_of chaincode argument) chain)

-- ---- where the blocks are read where they lie

-- what a file gives back of a chain: the chain, or else blocks with the hashes of its headers
abbrev pub GivesBack : Bool → Chain → (read : Chain) → Type 0
GivesBack true chain read = read ≡ chain
GivesBack false chain read = hashes_of read ≡ hashes_of chain

-- what it gives back of some blocks alone, from that of a number on
abbrev pub AreGiven : Bool → Chain → ℕ → (read : Chain) → Type 0
AreGiven keeps chain number [] = Unit {0}
AreGiven keeps chain number (c ∷ cs) = IsGiven keeps chain number c × AreGiven keeps chain (suc number) cs

-- the question asks for blocks, and not for the state alone
abbrev pub AsksBlocks : Question → Type 0
AsksBlocks (Block n) = Unit {0}
AsksBlocks (History key) = Unit {0}
AsksBlocks (HistoryPart key from blocks) = Unit {0}
AsksBlocks (Transaction id) = Unit {0}
AsksBlocks q = ⊥

-- the answer to a question after a chain of which these blocks are read
abbrev pub answer_from : Genesis → Question → (chain read : Chain) → Data
answer_from g (Block n) chain read = or_null (block_json (orgs_before g.rules.value n chain)) (slice_get read (n - 1))
answer_from g (History key) chain read = array (items_of (writes_json key (history read)))
answer_from g (HistoryPart key from blocks) chain read = array (items_of (writes_json key (part_of from blocks read)))
answer_from g (Transaction id) chain read = or_null (placed_json g.rules.value chain) (find (has_id id) (history read))
answer_from g q chain read = answer_json g q chain
