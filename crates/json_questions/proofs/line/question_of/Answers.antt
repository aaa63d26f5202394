use Rattle.std.proofs.Common.{arith}
use Rattle.json_questions.specs.declared.question.Question.TheVariants.{Setting, Members, Block, Get, Range, History, HistoryPart, Transaction, Satisfied, Call}
use Rattle.json_questions.proofs.line.question_of.Goals as goal

pub returns-clause-refused : goal.returns-clause-refused
returns-clause-refused c real Setting h = grind arith
returns-clause-refused c real Members h = grind arith
returns-clause-refused c real (Block n) h = grind arith
returns-clause-refused c real (Get k) h = grind arith
returns-clause-refused c real (Range start end limit) h = c.in_default-range_fields.ensures h.1 limit h.0 h.2
returns-clause-refused c real (History k) h = grind arith
returns-clause-refused c real (HistoryPart k from blocks) h = c.in_default-part_fields.ensures blocks from h.0 h.1
returns-clause-refused c real (Transaction id) h = c.in_default-asked_text-3.ensures h.0 h.1
returns-clause-refused c real (Satisfied chaincode orgs) h = c.in_default-satisfied_fields.ensures chaincode h.0 h.1
returns-clause-refused c real (Call chaincode argument) h = c.in_default-call_fields.ensures h.0 chaincode h.1
