use Rattle.cli_peer.proofs.OneAnswer.{AreSpellings}
use Rattle.cli_peer.proofs.OneLine.{AreOne, answer_once, state_once}
use Rattle.cli_peer.proofs.laws.a_line_has_one_answer.Goals as goal

pub returns-clause-state : goal.returns-clause-state
returns-clause-state c =
    let laws : AreOne =
    record { mark = c.log_laws.ensures.mark; log = c.log_laws.ensures.one; block = c.peers_agree.ensures.answer } in
    λ p number count old new other lines others text out. state_once laws p number count old new other lines others text out

pub returns-clause-answer : goal.returns-clause-answer
returns-clause-answer c =
    let laws : AreOne =
    record { mark = c.log_laws.ensures.mark; log = c.log_laws.ensures.one; block = c.peers_agree.ensures.answer } in
    let spellings : AreSpellings =
    record { proposal = c.a_line_spells_one_proposal.ensures; question = c.a_line_spells_one_question.ensures } in
    λ p number old new other l text out. answer_once laws spellings p number old new other l text out
