use Rattle.std.proofs.Common.{subst}
use Rattle.simulator.specs.Answers.{Answers}
use Rattle.endorser.specs.Endorsing.{endorsing_of, endorsed_in}
use Rattle.endorser.proofs.endorsing.Endorser.endorse.Goals as goal

pub returns : goal.returns
returns c =
    subst (λ m. Answers (endorsed_in (endorsing_of c.args.self.now) c.args.proposal.now m) c.endorse_in.result) c.map.ensures c.endorse_in.ensures
