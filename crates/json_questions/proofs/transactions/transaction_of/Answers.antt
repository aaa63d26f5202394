use Rattle.std.proofs.Common.{◌≡◌, ◌-◌, ◌⊎◌, ◌∙◌, true, [], ◌∷◌, Bool, Some, None, inl, inr, sym, ap, subst, arith}
use Rattle.std.proofs.lemmas.Result.{IfErr-weaker, IfOk-weaker}
use Rattle.std.specs.List.{find}
use Rattle.serde_json.specs.View.{view}
use Rattle.ledger_model.specs.Chain.{Chain, history, transactions_from}
use Rattle.store_devices.specs.Blocks.{IsGiven}
use Rattle.store_devices.specs.Placed.{IsOfMemory}
use Rattle.store_devices.specs.declared.placed.BlockFault.{BlockFault}
use Rattle.world_state.specs.Kept.{block_of_id, placed_ids}
use Rattle.json_questions.specs.Answers.{has_id, or_null, placed_json}
use Rattle.json_questions.proofs.Absent.{absent}
use Rattle.json_questions.proofs.FirstBlock.{first_block, found_over, no_block, some_found}
use Rattle.json_questions.proofs.Given.{given_back, gives_chain, one_given, over}
use Rattle.json_questions.proofs.transactions.transaction_of.Goals as goal

memory_of : (f : BlockFault) (X : Type 0) → (X → ⊥) → IsOfMemory f ⊎ X → IsOfMemory f
memory_of f X never (inl memory) = memory
memory_of f X never (inr x) = absurd (never x)

pub returns-in_default-clause-answered : goal.returns-in_default-clause-answered
returns-in_default-clause-answered g c =
    let id = c.args.id.now in
    let chain = g.B.Blocks.chain c.args.blocks.now in
    let none : block_of_id (placed_ids (history chain)) id ≡ None =
    ap (λ (cs : Chain). block_of_id (placed_ids (history cs)) id) (sym c.kept-chain.ensures.chain) ∙ sym c.block_of.ensures ∙ c.in_default.is in
    (chain, gives_chain g.B.Blocks.keeps chain, absent (placed_json c.args.rules.now chain) (find (has_id id) (history chain)) (no_block id chain none))

pub block-requires-clause-there : goal.block-requires-clause-there
block-requires-clause-there g c =
    let id = c.args.id.now in
    let chain = g.B.Blocks.chain c.args.blocks.now in
    let n = c.in-Some.number in
    let is : block_of_id (placed_ids (history chain)) id ≡ Some n =
    ap (λ (cs : Chain). block_of_id (placed_ids (history cs)) id) (sym c.kept-chain.ensures.chain) ∙ sym c.in-Some.ensures in
    let b = first_block id chain n is in
    (omega (arith, b.from), omega (arith, b.within))

pub returns-clause-answered : goal.returns-clause-answered
returns-clause-answered g c =
    let id = c.args.id.now in
    let keeps = g.B.Blocks.keeps in
    let chain = g.B.Blocks.chain c.args.blocks.now in
    let r = c.args.rules.now in
    let n = c.in-Some.number in
    let block = c.in_ok-committed.committed in
    let is : block_of_id (placed_ids (history chain)) id ≡ Some n =
    ap (λ (cs : Chain). block_of_id (placed_ids (history cs)) id) (sym c.kept-chain.ensures.chain) ∙ sym c.in-Some.ensures in
    let b = first_block id chain n is in
    let read = over (n - 1) (block ∷ []) chain in
    let given = given_back keeps chain (n - 1) (block ∷ []) (one_given keeps chain n block b.from c.in_ok-committed.ensures.given) in
    IfOk-weaker c.shown_in.result _ _
    (λ v h.
    let shown : view v ≡ or_null (placed_json r chain) (find (has_id id) (history read)) =
    h.2 ∙ ap (λ (cs : Chain). placed_json r cs h.0) c.kept-chain.ensures.chain
    ∙ ap (or_null (placed_json r chain)) (sym (found_over (has_id id) chain n block h.0 b h.1)) in
    (read, given, shown)) c.shown_in.ensures.shown

pub returns-clause-lost : goal.returns-clause-lost
returns-clause-lost g c = λ keeps.
    let id = c.args.id.now in
    let chain = g.B.Blocks.chain c.args.blocks.now in
    let n = c.in-Some.number in
    let block = c.in_ok-committed.committed in
    let is : block_of_id (placed_ids (history chain)) id ≡ Some n =
    ap (λ (cs : Chain). block_of_id (placed_ids (history cs)) id) (sym c.kept-chain.ensures.chain) ∙ sym c.in-Some.ensures in
    let b = first_block id chain n is in
    let given : IsGiven true chain n block = subst (λ (k : Bool). IsGiven k chain n block) keeps c.in_ok-committed.ensures.given in
    let some = some_found id chain n is in
    let there : find (has_id id) (transactions_from n 0 block.block.envelopes block.flags) ≡ Some some.0 = b.there block given.1 ∙ some.1 in
    IfErr-weaker c.shown_in.result _ IsOfMemory (λ f h. memory_of f _ (λ none. cc (sym there ∙ none)) h) c.shown_in.ensures.lost
