use Rattle.std.proofs.Common.{◌≡◌, ◌+◌, ◌++◌, ◌∙◌, ℕ, [], ◌∷◌, length, map, sym, ap, subst}
use Rattle.std.proofs.lemmas.List.{length_push}
use Rattle.serde_json.specs.View.{view}
use Rattle.ledger_model.specs.Chain.{transactions_from}
use Rattle.store_devices.specs.Blocks.{IsGiven}
use Rattle.json_chain.specs.Writes.{writes_json}
use Rattle.json_questions.proofs.Given.{one_more}
use Rattle.json_questions.proofs.Placing.{writes_behind}
use Rattle.json_questions.proofs.writes.writes_in.Goals as goal

pub loop-index-preserved : goal.loop-index-preserved
loop-index-preserved g c =
    let keeps = g.B.Blocks.keeps in
    let chain = g.B.Blocks.chain c.args.blocks.now in
    let key = c.args.key.now in
    let first = c.args.first in
    let inv = c.loop-index.invariant in
    let cs = inv.0 in
    let read = c.in_ok-push_read.ensures.pushed in
    let block = read.0 in
    let before = map view c.loop-index.values.items in
    let place : first + c.loop-index.index ≡ first + length cs = ap (λ (n : ℕ). first + n) (sym inv.2) in
    let now = read.2 ∙ ap (λ (n : ℕ). before ++ writes_json key (transactions_from n 0 block.block.envelopes block.flags)) place in (
      cs ++ block ∷ [],
      one_more keeps chain first cs block inv.1 (subst (λ (n : ℕ). IsGiven keeps chain n block) place read.1),
      length_push cs block ∙ ap (λ (n : ℕ). n + 1) inv.2,
      writes_behind key first cs block before _ inv.3 now,
    )
