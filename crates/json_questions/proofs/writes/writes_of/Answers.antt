use Rattle.std.proofs.Common.{◌≡◌, ◌∙◌, length, sym, ap}
use Rattle.std.proofs.lemmas.Result.{IfOk-weaker}
use Rattle.serde_json.specs.Data.{array}
use Rattle.serde_json.specs.View.{items_of}
use Rattle.ledger_model.specs.Chain.{Chain, history}
use Rattle.json_chain.specs.Writes.{writes_json}
use Rattle.json_questions.proofs.Given.{given_back, over, whole_over}
use Rattle.json_questions.proofs.writes.writes_of.Goals as goal

pub returns-clause-answered : goal.returns-clause-answered
returns-clause-answered g c =
    let keeps = g.B.Blocks.keeps in
    let chain = g.B.Blocks.chain c.args.blocks.now in
    let key = c.args.key.now in
    let kept = c.kept.ensures.kept c.requires in
    let tall : c.height.result ≡ length chain = c.height.ensures.value ∙ kept.state.height ∙ ap (λ (cs : Chain). length cs) c.kept.ensures.chain in
    IfOk-weaker c.writes_in.result _ _
    (λ v h.
    let whole = whole_over h.0 chain (h.2 ∙ tall) in
    let shown = h.3 ∙ ap (λ (ds : Chain). array (items_of (writes_json key (history ds)))) (sym whole) in
    (over 0 h.0 chain, given_back keeps chain 0 h.0 h.1, shown)) c.writes_in.ensures.answered
