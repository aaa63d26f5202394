-- Answers have no floats.
use Rattle.std.proofs.Common.{◌≡◌, ◌-◌, Bool, true, false, List, [], ◌∷◌, ◌++◌, Option, Some, None, Result, Ok, Err, refl, option_to_list, slice_get}
use Rattle.std.specs.Prelude.{◌||◌}
use Rattle.std.specs.FinMap.{get}
use Rattle.std.specs.List.{find}
use Rattle.serde_json.specs.Data.{Data, boolean}
use Rattle.serde_json.specs.View.{items_of}
use Rattle.serde_json.specs.Written.{has_float, items_have_float}
use Rattle.fab_types.specs.Memberships.{membership_key}
use Rattle.fab_types.specs.Payloads.{Payload}
use Rattle.ledger_model.specs.Chain.{Bytes, Chain, Placed, Version, history}
use Rattle.ledger_model.specs.State.{state, state_at, write_of}
use Rattle.ledger_model.specs.Views.{first}
use Rattle.wire.specs.Ids.{id_of}
use Rattle.policy_language.specs.GoodSets.{is_satisfied}
use Rattle.policy_language.specs.declared.policy.Policy.{Policy}
use Rattle.endorsement_policy.specs.Endorsed.{policy_in}
use Rattle.endorsement_policy.specs.Judge.{orgs_behind, plain_after}
use Rattle.endorsement_policy.specs.Membership.{usable_membership}
use Rattle.simulator.specs.Answers.{payload_or_refusal}
use Rattle.simulator.specs.Execution.{exec_of}
use Rattle.simulator.specs.declared.refusal.SimRefusal.{SimRefusal}
use Rattle.ledger_setting.specs.declared.genesis.Genesis.{Genesis}
use Rattle.json_chain.specs.Blocks.{block_json}
use Rattle.json_chain.specs.Entries.{entry_json}
use Rattle.json_chain.specs.Standing.{orgs_before}
use Rattle.json_chain.specs.Writes.{did_json, write_json, writes_json}
use Rattle.json_chain.proofs.Floats.{block_plain, genesis_plain, items_plain, payload_plain, placed_transaction_plain, placed_write_plain, standing_plain}
use Rattle.json_questions.specs.Answers.{answer_from, call_of, has_id, names_among, or_null, outcome_json, part_of, placed_json}
use Rattle.json_questions.specs.declared.question.Question.{Question}
use Rattle.json_questions.specs.declared.question.Question.TheVariants.{Setting, Members, Block, Get, Range, History, HistoryPart, Transaction, Satisfied, Call}

or_null_plain : {A : Type 0} (json : A → Data) → ((x : A) → has_float (json x) ≡ false) → (o : Option A) → has_float (or_null json o) ≡ false
or_null_plain json plain None = refl
or_null_plain json plain (Some x) = plain x

outcome_plain : (r : Result Payload SimRefusal) → has_float (outcome_json r) ≡ false
outcome_plain (Ok p) = payload_plain p
outcome_plain (Err r) = refl

or_later : (a b c : Bool) → (a || b) ≡ false → (b ≡ false → c ≡ false) → (a || c) ≡ false
or_later true b c h later = h
or_later false b c h later = later h

joined_plain : (xs ys : List Data) → items_have_float (items_of xs) ≡ false → items_have_float (items_of ys) ≡ false →
    items_have_float (items_of (xs ++ ys)) ≡ false
joined_plain [] ys plain also = also
joined_plain (x ∷ xs) ys plain also =
    or_later (has_float x) (items_have_float (items_of xs)) (items_have_float (items_of (xs ++ ys))) plain (λ rest. joined_plain xs ys rest also)

did_plain : (key : Bytes) (t : Placed) (w : Version × Option Bytes) → has_float (did_json t key w) ≡ false
did_plain key t w = placed_write_plain (id_of t.envelope.payload.proposal) w.0.block w.0.place key w.1

writes_plain : (key : Bytes) (ts : List Placed) → items_have_float (items_of (writes_json key ts)) ≡ false
writes_plain key [] = refl
writes_plain key (t ∷ ts) =
    joined_plain (write_json key t) (writes_json key ts) (items_plain (did_json t key) (did_plain key t) (option_to_list (write_of t key)))
    (writes_plain key ts)

pub answer_plain : (g : Genesis) (q : Question) (chain read : Chain) → has_float (answer_from g q chain read) ≡ false
answer_plain g Setting chain read = genesis_plain g
answer_plain g Members chain read = standing_plain g.rules.value (usable_membership g.rules.value.installed.orgs (get (plain_after chain) membership_key))
answer_plain g (Block n) chain read =
    let orgs = orgs_before g.rules.value n chain in
    or_null_plain (block_json orgs) (block_plain orgs) (slice_get read (n - 1))
answer_plain g (Get key) chain read = or_null_plain (λ (e : Bytes × Version). entry_json key e.0 e.1) (λ e. refl) (state_at (history chain) key)
answer_plain g (Range start end limit) chain read =
    items_plain (λ (e : Bytes × (Bytes × Version)). entry_json e.0 e.1.0 e.1.1) (λ e. refl) (first (state (history chain)) start end limit)
answer_plain g (History key) chain read = writes_plain key (history read)
answer_plain g (HistoryPart key from blocks) chain read = writes_plain key (part_of from blocks read)
answer_plain g (Transaction id) chain read =
    or_null_plain (placed_json g.rules.value chain) (λ t. placed_transaction_plain (orgs_before g.rules.value t.version.block chain) t)
    (find (has_id id) (history read))
answer_plain g (Satisfied chaincode orgs) chain read =
    let standing = names_among (orgs_behind g.rules.value chain) orgs in
    or_null_plain (λ (p : Policy). boolean (is_satisfied p standing)) (λ p. refl) (policy_in g.rules.value (plain_after chain) chaincode)
answer_plain g (Call chaincode argument) chain read =
    outcome_plain (payload_or_refusal (exec_of g.book.value) (call_of chaincode argument) chain)
