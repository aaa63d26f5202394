use Rattle.std.proofs.Common.{Ok, sym, ap, ◌∙◌}
use Rattle.endorsement_policy.specs.Judge.{plain_in}
use Rattle.endorser.specs.Endorsing.{endorsing_of, sealed_by}
use Rattle.endorser.proofs.endorsing.Endorser.endorse_in.Goals as goal

pub returns : goal.returns
returns c =
    let seal = (endorsing_of c.args.self.now).seal (plain_in c.args.state.now.entries) in
    ap (sealed_by seal) c.in_ok-payload.ensures ∙ ap (λ x. Ok (c.in_ok-payload.payload, x)) (sym c.in_ok-endorsement.ensures)
