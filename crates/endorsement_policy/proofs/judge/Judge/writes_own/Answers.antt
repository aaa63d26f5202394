use Rattle.std.proofs.Common.{ap, ◌∙◌}
use Rattle.fab_types.specs.declared.edition.Edition.{Edition}
use Rattle.endorsement_policy.specs.Endorsed.{writes_own}
use Rattle.endorsement_policy.specs.Judge.{Judge}
use Rattle.endorsement_policy.proofs.judge.Judge.writes_own.Goals as goal

pub returns : goal.returns
returns c =
    c.writes_own.ensures
    ∙ ap (λ (e : Edition). writes_own e c.args.call.now.chaincode c.args.payload.now) (c.edition.ensures ∙ ap (λ (j : Judge). j.listed.edition) c.self.view_is)
