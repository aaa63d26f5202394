use Rattle.json_questions.proofs.OneQuestion.{one}
use Rattle.json_questions.proofs.laws.a_line_spells_one_question.Goals as goal

pub returns : goal.returns
returns c = one
