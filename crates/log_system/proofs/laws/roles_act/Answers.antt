use Rattle.log_system.proofs.Roles.{committer_acts, endorser_acts, part_acts, replica_answers}
use Rattle.log_system.proofs.laws.roles_act.Goals as goal

pub returns : goal.returns
returns c = record {
  replica = replica_answers c.log_laws.ensures.one;
  committer = committer_acts;
  endorser = endorser_acts;
  part = part_acts c.parts_answer_alike.ensures;
}
