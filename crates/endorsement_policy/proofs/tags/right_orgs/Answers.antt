use Rattle.std.proofs.Common.{arith, ◌≡◌, ◌∙◌}
use Rattle.std.proofs.lemmas.Option.{MatchOption-at_some}
use Rattle.fab_types.specs.declared.envelope.Endorsement.{Endorsement}
use Rattle.endorsement_policy.specs.Endorsed.{is_right, right_orgs}
use Rattle.policy_language.specs.GoodSets.{Names}
use Rattle.endorsement_policy.proofs.RightOrgs.{all_seen, few}
use Rattle.endorsement_policy.proofs.tags.right_orgs.Goals as goal

pub unwrap-requires : goal.unwrap-requires
unwrap-requires c =
    c.new.ensures.accepted.1
    (few c.args.organisations.now c.args.envelope.now c.loop-endorsement.names.items _ c.loop-endorsement.invariant c.as_slice-endorsement-items.ensures.limits)

pub returns : goal.returns
returns c =
    let names = c.loop-endorsement.names.items in
    let orgs = c.args.organisations.now in
    let e = c.args.envelope.now in
    MatchOption-at_some (Unit {0}) (λ (s : Names). s ≡ names) c.unwrap.result c.unwrap.ensures c.new.ensures.value
    ∙ all_seen (λ (x : Endorsement). x.org) (is_right orgs e.payload) names (right_orgs orgs e) c.as_slice-endorsement-items.result.now
    c.loop-endorsement.endorsement-index c.loop-endorsement.invariant (omega arith)
