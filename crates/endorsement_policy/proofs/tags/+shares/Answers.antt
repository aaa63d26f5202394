use Rattle.std.proofs.Common.{◌≡◌, ◌++◌, map, Vec, Global}
use Rattle.policy_language.specs.GoodSets.{Names}
use Rattle.endorsement_policy.proofs.RightOrgs.{both_parts, found_in, joined, right_in}
use Rattle.endorsement_policy.proofs.tags.+shares.Goals as goal

abbrev Found : Type 0
Found = Vec (Vec Names Global) Global

pub returns : goal.returns
returns g t c =
    let right = right_in c.args.organisations.now in
    let front = c.split_at.result.0.now in
    let back = c.split_at.result.1.now in
    let xs = c.args.blocks.now in
    joined (λ (v : Found). map found_in v.items ≡ map right front) (λ (v : Found). map found_in v.items ≡ map right back)
    (λ (v : Found). map found_in v.items ≡ map right xs) (λ (a b v : Found). v.items ≡ a.items ++ b.items) _ _ c.joined.result
    (λ a b v low high is. both_parts found_in right a.items b.items v.items front back xs low high is c.split_at.ensures.by_index.0)
    c.join-low.ensures.first c.join-low.ensures.second c.joined.ensures
