use Rattle.std.proofs.Common.{ap, ◌∙◌}
use Rattle.world_state.specs.Writing.{as_state}
use Rattle.endorsement_policy.specs.Endorsed.{reads_no_newer}
use Rattle.endorsement_policy.specs.Judge.{Judge}
use Rattle.endorsement_policy.proofs.judge.Judge.reads_no_newer.Goals as goal

pub returns : goal.returns
returns c =
    c.reads_no_newer.ensures ∙ ap (λ (j : Judge). reads_no_newer (as_state j.entries) c.args.payload.now) c.self.view_is
