use Rattle.log_orderer.proofs.Marking.{one_mark}
use Rattle.log_orderer.proofs.Logging.{log_once, log_behind, log_joined}
use Rattle.log_orderer.proofs.Idling.{idle}
use Rattle.log_orderer.proofs.laws.log_laws.Goals as goal

pub returns : goal.returns
returns c =
    let one = one_mark c.spellings_differ.ensures.envelopes in
    let answer = c.ordering_laws.ensures.answer in
    let past = c.ordering_laws.ensures.past in
    record {
      mark = one;
      one = log_once one answer past;
      behind = log_behind one answer past;
      onward = log_joined;
      idle = idle one;
    }
