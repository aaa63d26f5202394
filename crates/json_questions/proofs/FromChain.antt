-- The answer to a question, where the chain itself is read.
use Rattle.std.proofs.Common.{◌≡◌, refl}
use Rattle.ledger_model.specs.Chain.{Chain}
use Rattle.ledger_setting.specs.declared.genesis.Genesis.{Genesis}
use Rattle.json_questions.specs.Answers.{AsksBlocks, answer_from, answer_json}
use Rattle.json_questions.specs.declared.question.Question.{Question}
use Rattle.json_questions.specs.declared.question.Question.TheVariants.{Setting, Members, Block, Get, Range, History, HistoryPart, Transaction, Satisfied, Call}

pub from_chain : (g : Genesis) (q : Question) (chain : Chain) → answer_from g q chain chain ≡ answer_json g q chain
from_chain g Setting chain = refl
from_chain g Members chain = refl
from_chain g (Block n) chain = refl
from_chain g (Get key) chain = refl
from_chain g (Range start end limit) chain = refl
from_chain g (History key) chain = refl
from_chain g (HistoryPart key from blocks) chain = refl
from_chain g (Transaction id) chain = refl
from_chain g (Satisfied chaincode orgs) chain = refl
from_chain g (Call chaincode argument) chain = refl

-- a question that asks for no block is answered alike, whatever is read
pub without_blocks : (g : Genesis) (q : Question) (chain read : Chain) → ¬ AsksBlocks q → answer_from g q chain read ≡ answer_json g q chain
without_blocks g Setting chain read none = refl
without_blocks g Members chain read none = refl
without_blocks g (Block n) chain read none = absurd (none tt)
without_blocks g (Get key) chain read none = refl
without_blocks g (Range start end limit) chain read none = refl
without_blocks g (History key) chain read none = absurd (none tt)
without_blocks g (HistoryPart key from blocks) chain read none = absurd (none tt)
without_blocks g (Transaction id) chain read none = absurd (none tt)
without_blocks g (Satisfied chaincode orgs) chain read none = refl
without_blocks g (Call chaincode argument) chain read none = refl
