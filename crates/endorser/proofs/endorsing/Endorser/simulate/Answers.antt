use Rattle.std.proofs.Common.{subst}
use Rattle.simulator.specs.Answers.{Answers}
use Rattle.endorser.specs.Endorsing.{endorsing_of, simulated_in}
use Rattle.endorser.proofs.endorsing.Endorser.simulate.Goals as goal

pub returns : goal.returns
returns c =
    subst (λ m. Answers (simulated_in (endorsing_of c.args.self.now) c.args.proposal.now m) c.simulate_in.result) c.map.ensures c.simulate_in.ensures
