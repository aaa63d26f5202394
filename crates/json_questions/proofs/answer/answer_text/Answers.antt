use Rattle.std.proofs.Common.{◌≤◌, Ok, arith}
use Rattle.serde_json.specs.View.{view}
use Rattle.serde_json.specs.Data.{depth}
use Rattle.json_chain.proofs.Floats.{text_of}
use Rattle.json_questions.specs.Answers.{answer_from}
use Rattle.json_questions.proofs.AnswerDepths.{answer_low}
use Rattle.json_questions.proofs.AnswerFloats.{answer_plain}
use Rattle.json_questions.proofs.answer.answer_text.Goals as goal

pub line_of-requires : goal.line_of-requires
line_of-requires g c =
    let a = c.in_ok-answer.ensures.answered in
    let low : depth (view c.in_ok-answer.answer) ≤ 7 =
    rw a.2 (answer_low c.args.genesis.now c.args.question.now (g.B.Blocks.chain c.args.blocks.now) a.0) in
    omega (arith, low)

pub returns-clause-answered : goal.returns-clause-answered
returns-clause-answered g c =
    let a = c.in_ok-answer.ensures.answered in
    let asked = c.args.question.now in
    let chain = g.B.Blocks.chain c.args.blocks.now in
    let genesis = c.args.genesis.now in
    let plain = answer_plain genesis asked chain a.0 in
    let text = text_of {E = Unit {0}} (Ok c.in_ok-line_of.field-0) _ (answer_from genesis asked chain a.0) a.2 plain
    c.in_ok-line_of.ensures.text c.in_ok-line_of.ensures.read in
    (a.0, a.1, text)
