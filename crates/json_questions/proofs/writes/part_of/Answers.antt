use Rattle.std.proofs.Common.{◌≡◌, ◌-◌, ◌∙◌, ℕ, suc, length, sym, ap, subst, arith}
use Rattle.std.specs.Prelude.{min}
use Rattle.std.proofs.lemmas.Result.{IfOk-weaker}
use Rattle.serde_json.specs.Data.{array}
use Rattle.serde_json.specs.View.{items_of}
use Rattle.ledger_model.specs.Chain.{Chain, placed_from}
use Rattle.json_chain.specs.Writes.{writes_json}
use Rattle.json_questions.specs.Answers.{AreGiven, part_of}
use Rattle.json_questions.proofs.Given.{given_back, over, part_given}
use Rattle.json_questions.proofs.writes.part_of.Goals as goal

pub returns-clause-answered : goal.returns-clause-answered
returns-clause-answered g c =
    let keeps = g.B.Blocks.keeps in
    let chain = g.B.Blocks.chain c.args.blocks.now in
    let key = c.args.key.now in
    let most = c.args.most in
    let from = c.get-from.result in
    let kept = c.kept.ensures.kept c.requires in
    let tall : c.height.result ≡ length chain = c.height.ensures.value ∙ kept.state.height ∙ ap (λ (cs : Chain). length cs) c.kept.ensures.chain in
    let next : from ≡ suc (from - 1) = omega (arith, c.get-from.ensures.limits.0, c.get-from.ensures.value) in
    let behind : c.saturating_sub-behind.result ≡ length chain - (from - 1) = omega (arith, c.saturating_sub-behind.ensures, tall, next) in
    IfOk-weaker c.writes_in.result _ _
    (λ v h.
    let cs = h.0 in
    let given = subst (λ (n : ℕ). AreGiven keeps chain n cs) next h.1 in
    let size : length cs ≡ min most (length chain - (from - 1)) = h.2 ∙ c.min-count.ensures ∙ ap (λ (n : ℕ). min most n) behind in
    let part = part_given (from - 1) most cs chain size in
    let read = over (from - 1) cs chain in
    let shown = h.3 ∙ ap (λ (ds : Chain). array (items_of (writes_json key (placed_from from ds)))) (sym part)
    ∙ ap (λ (n : ℕ). array (items_of (writes_json key (part_of n most read)))) c.get-from.ensures.value in
    (read, given_back keeps chain (from - 1) cs given, shown)) c.writes_in.ensures.answered
