use Rattle.std.proofs.Common.{◌≡◌, ◌≤◌, ◌+◌, ◌-◌, ◌∙◌, ℕ, [], ◌∷◌, length, drop, slice_get, sym, ap, subst, arith}
use Rattle.std.proofs.lemmas.Option.{slice_get_past}
use Rattle.serde_json.specs.View.{view}
use Rattle.ledger_model.specs.Chain.{Chain}
use Rattle.json_chain.specs.Blocks.{block_json}
use Rattle.json_chain.specs.Standing.{orgs_before}
use Rattle.json_questions.specs.Answers.{GivesBack, or_null}
use Rattle.json_questions.proofs.Absent.{absent}
use Rattle.json_questions.proofs.Given.{at_over, given_back, gives_chain, one_given, over}
use Rattle.json_questions.proofs.answer.block_at.Goals as goal

pub returns-then-number-height-clause-answered : goal.returns-then-number-height-clause-answered
returns-then-number-height-clause-answered g c =
    let chain = g.B.Blocks.chain c.args.blocks.now in
    let n = c.args.number in
    let kept = c.kept-chain.ensures.kept c.requires in
    let tall : c.height.result ≡ length chain =
    c.height.ensures.value ∙ kept.state.height ∙ ap (λ (cs : Chain). length cs) c.kept-chain.ensures.chain in
    let past : length chain ≤ n - 1 = omega (arith, tall, c.if-number-height.true, c.get-number.ensures.value) in
    let none = absent (block_json (orgs_before c.args.rules.now n chain)) (slice_get chain (n - 1)) (slice_get_past chain (n - 1) past) in
    (chain, gives_chain g.B.Blocks.keeps chain, none)

pub returns-clause-answered : goal.returns-clause-answered
returns-clause-answered g c =
    let keeps = g.B.Blocks.keeps in
    let chain = g.B.Blocks.chain c.args.blocks.now in
    let r = c.args.rules.now in
    let n = c.get-number.result in
    let block = c.in_ok-block.block in
    let kept = c.kept-chain.ensures.kept c.requires in
    let tall : c.height.result ≡ length chain =
    c.height.ensures.value ∙ kept.state.height ∙ ap (λ (cs : Chain). length cs) c.kept-chain.ensures.chain in
    let above : 1 ≤ n = omega (arith, c.get-number.ensures.limits.0, c.get-number.ensures.value) in
    let within : n - 1 ≤ length chain = omega (arith, tall, c.if-number-height.false) in
    let read = over (n - 1) (block ∷ []) chain in
    let shown : view c.in_ok-block_behind.field-0 ≡ or_null (block_json (orgs_before r n chain)) (slice_get read (n - 1)) =
    c.in_ok-block_behind.ensures ∙ ap (λ (cs : Chain). block_json (orgs_before r n cs) block) c.kept-chain.ensures.chain
    ∙ ap (or_null (block_json (orgs_before r n chain))) (sym (at_over (n - 1) block chain (drop (n - 1 + 1) chain) within)) in
    subst (λ (k : ℕ). (x : Chain) × GivesBack keeps chain x
    × (view c.in_ok-block_behind.field-0 ≡ or_null (block_json (orgs_before r k chain)) (slice_get x (k - 1)))) c.get-number.ensures.value
    (read, given_back keeps chain (n - 1) (block ∷ []) (one_given keeps chain n block above c.in_ok-block.ensures.given), shown)
