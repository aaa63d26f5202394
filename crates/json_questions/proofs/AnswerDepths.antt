-- How deep answers nest.
use Rattle.std.proofs.Common.{ℕ, ◌≤◌, ◌-◌, List, [], ◌∷◌, ◌++◌, Option, Some, None, Result, Ok, Err, arith, option_to_list, slice_get}
use Rattle.std.specs.FinMap.{get}
use Rattle.std.specs.List.{find}
use Rattle.serde_json.specs.Data.{Data, boolean, depth, items_depth}
use Rattle.serde_json.specs.View.{items_of}
use Rattle.fab_types.specs.Memberships.{membership_key}
use Rattle.fab_types.specs.Payloads.{Payload}
use Rattle.ledger_model.specs.Chain.{Bytes, Chain, Placed, Version, history}
use Rattle.ledger_model.specs.State.{state, state_at, write_of}
use Rattle.ledger_model.specs.Views.{first}
use Rattle.policy_language.specs.GoodSets.{is_satisfied}
use Rattle.policy_language.specs.declared.policy.Policy.{Policy}
use Rattle.endorsement_policy.specs.Endorsed.{policy_in}
use Rattle.endorsement_policy.specs.Judge.{orgs_behind, plain_after}
use Rattle.endorsement_policy.specs.Membership.{usable_membership}
use Rattle.simulator.specs.Answers.{payload_or_refusal}
use Rattle.simulator.specs.Execution.{exec_of}
use Rattle.simulator.specs.declared.refusal.SimRefusal.{SimRefusal}
use Rattle.ledger_setting.specs.declared.genesis.Genesis.{Genesis}
use Rattle.json_chain.specs.Blocks.{block_json}
use Rattle.json_chain.specs.Entries.{entry_json}
use Rattle.json_chain.specs.Standing.{orgs_before}
use Rattle.json_chain.specs.Writes.{did_json, write_json, writes_json}
use Rattle.json_chain.proofs.Depths.{block_low, did_low, genesis_low, items_low, payload_low, placed_transaction_low, standing_low}
use Rattle.json_questions.specs.Answers.{answer_from, call_of, has_id, names_among, or_null, outcome_json, part_of, placed_json}
use Rattle.json_questions.specs.declared.question.Question.{Question}
use Rattle.json_questions.specs.declared.question.Question.TheVariants.{Setting, Members, Block, Get, Range, History, HistoryPart, Transaction, Satisfied, Call}

or_null_low : {A : Type 0} (json : A → Data) (n : ℕ) → ((x : A) → depth (json x) ≤ n) → (o : Option A) → depth (or_null json o) ≤ n
or_null_low json n low None = omega arith
or_null_low json n low (Some x) = low x

outcome_low : (r : Result Payload SimRefusal) → depth (outcome_json r) ≤ 5
outcome_low (Ok p) = payload_low p
outcome_low (Err r) = omega arith

joined_low : (n : ℕ) (xs ys : List Data) → items_depth (items_of xs) ≤ n → items_depth (items_of ys) ≤ n → items_depth (items_of (xs ++ ys)) ≤ n
joined_low n [] ys low also = also
joined_low n (x ∷ xs) ys low also = omega (arith, low, joined_low n xs ys (omega (arith, low)) also)

writes_low : (key : Bytes) (ts : List Placed) → items_depth (items_of (writes_json key ts)) ≤ 1
writes_low key [] = omega arith
writes_low key (t ∷ ts) =
    joined_low 1 (write_json key t) (writes_json key ts)
    (items_low (did_json t key) 1 (did_low t key) (option_to_list (write_of t key))) (writes_low key ts)

pub answer_low : (g : Genesis) (q : Question) (chain read : Chain) → depth (answer_from g q chain read) ≤ 7
answer_low g Setting chain read = omega (arith, genesis_low g)
answer_low g Members chain read =
    omega (arith, standing_low g.rules.value (usable_membership g.rules.value.installed.orgs (get (plain_after chain) membership_key)))
answer_low g (Block n) chain read =
    let orgs = orgs_before g.rules.value n chain in
    or_null_low (block_json orgs) 7 (block_low orgs) (slice_get read (n - 1))
answer_low g (Get key) chain read =
    or_null_low (λ (e : Bytes × Version). entry_json key e.0 e.1) 7 (λ e. omega arith) (state_at (history chain) key)
answer_low g (Range start end limit) chain read =
    omega (
      arith,
      items_low (λ (e : Bytes × (Bytes × Version)). entry_json e.0 e.1.0 e.1.1) 1 (λ e. omega arith) (first (state (history chain)) start end limit),
    )
answer_low g (History key) chain read = omega (arith, writes_low key (history read))
answer_low g (HistoryPart key from blocks) chain read = omega (arith, writes_low key (part_of from blocks read))
answer_low g (Transaction id) chain read =
    or_null_low (placed_json g.rules.value chain) 7
    (λ t. omega (arith, placed_transaction_low (orgs_before g.rules.value t.version.block chain) t)) (find (has_id id) (history read))
answer_low g (Satisfied chaincode orgs) chain read =
    let standing = names_among (orgs_behind g.rules.value chain) orgs in
    or_null_low (λ (p : Policy). boolean (is_satisfied p standing)) 7 (λ p. omega arith) (policy_in g.rules.value (plain_after chain) chaincode)
answer_low g (Call chaincode argument) chain read =
    omega (arith, outcome_low (payload_or_refusal (exec_of g.book.value) (call_of chaincode argument) chain))
