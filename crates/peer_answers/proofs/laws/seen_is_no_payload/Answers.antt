use Rattle.endorsement_policy.proofs.FirstBytes.{other_first}
use Rattle.peer_answers.proofs.laws.seen_is_no_payload.Goals as goal

pub returns : goal.returns
returns c genesis hash number p is same = other_first p.proposal _ _ _ _ _ is same
