use Rattle.std.proofs.Common.{◌≡◌, ◌++◌, map, Vec, Global}
use Rattle.endorsement_policy.specs.Endorsed.{right_orgs}
use Rattle.policy_language.specs.GoodSets.{Names}
use Rattle.endorsement_policy.proofs.RightOrgs.{both_halves, joined}
use Rattle.endorsement_policy.proofs.tags.+parts.Goals as goal

pub returns : goal.returns
returns g t c =
    let right = right_orgs c.args.organisations.now in
    let front = c.split_at.result.0.now in
    let back = c.split_at.result.1.now in
    let xs = c.args.envelopes.now in
    joined (λ (v : Vec Names Global). v.items ≡ map right front) (λ (v : Vec Names Global). v.items ≡ map right back)
    (λ (v : Vec Names Global). v.items ≡ map right xs) (λ (a b v : Vec Names Global). v.items ≡ a.items ++ b.items) _ _ c.joined.result
    (λ a b v low high is. both_halves right a.items b.items v.items front back xs low high is c.split_at.ensures.by_index.0)
    c.join-low.ensures.first c.join-low.ensures.second c.joined.ensures
