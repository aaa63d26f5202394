use Rattle.std.proofs.Common.{◌≡◌, ◌-◌, Option, None, take, ap, ◌∙◌}
use Rattle.std.proofs.lemmas.Result.{IfOk-weaker}
use Rattle.fab_types.specs.declared.membership.Membership.{Membership}
use Rattle.endorsement_policy.specs.Membership.{Standing, standing_by}
use Rattle.kept_state.specs.Keeping.{chain_of}
use Rattle.json_chain.specs.Standing.{orgs_before}
use Rattle.json_questions.proofs.Stood.{amended_so}
use Rattle.json_questions.proofs.standing.standing_before.Goals as goal

pub returns : goal.returns
returns c =
    let r = c.args.rules.now in
    let n = c.args.number in
    let chain = chain_of c.args.chain.now in
    let stood = c.membership_before.ensures ∙ amended_so None 1 (take (n - 1) chain) in
    IfOk-weaker c.after.result _ (λ s. s.orgs ≡ orgs_before r n chain)
    (λ s is. ap (λ (t : Standing). t.orgs) (is ∙ ap (λ (m : Option Membership). standing_by r m) stood)) c.after.ensures
