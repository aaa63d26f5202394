use Rattle.store_replay.proofs.Lawful.{lawful_joined}
use Rattle.log_committer.proofs.Agreeing.{one_chain, begins, joined, known_again}
use Rattle.log_committer.proofs.Answering.{one_answer}
use Rattle.log_committer.proofs.Replaying.{replayed, restarted, bytes_of_records}
use Rattle.log_committer.proofs.laws.peers_agree.Goals as goal

pub returns : goal.returns
returns c = record {
  answer = one_answer;
  one = one_chain;
  behind = begins;
  onward = joined;
  again = known_again;
  replayed = replayed;
  restarted = restarted;
  followed = lawful_joined;
  same_bytes = λ chain bytes. bytes_of_records 1 bytes chain;
}
