use Rattle.std.proofs.Common.{◌≡◌, ◌≤◌, ◌∙◌, Bool, length, is_some, ap, arith}
use Rattle.std.proofs.lemmas.List.Sums.{length-filter, count_by-le-length}
use Rattle.std.proofs.lemmas.Option.{MatchOption-at_some}
use Rattle.std.specs.List.{find}
use Rattle.policy_language.specs.GoodSets.{Name, Names}
use Rattle.endorsement_policy.specs.Endorsed.{is_org}
use Rattle.json_questions.specs.Answers.{names_among}
use Rattle.json_questions.proofs.asked_orgs.AskedOrgs.who_stand.Goals as goal

pub unwrap-requires : goal.unwrap-requires
unwrap-requires c =
    let test : Name → Bool = λ name. is_some (find (is_org name) c.args.standing.now.orgs) in
    let all = c.self.inside.names.items in
    let found = c.in_ok-found.ensures ∙ ap (names_among c.args.standing.now.orgs) c.deref.ensures.value in
    let few : length c.in_ok-found.found.items ≤ 32 =
    omega (arith, ap (λ (ns : Names). length ns) found, length-filter test all, count_by-le-length test all, c.self.invariant) in
    c.new.ensures.accepted.1 few

pub returns : goal.returns
returns c =
    MatchOption-at_some (Unit {0}) (λ (s : Names). s ≡ c.in_ok-found.found.items) c.unwrap.result c.unwrap.ensures c.new.ensures.value
    ∙ c.in_ok-found.ensures ∙ ap (names_among c.args.standing.now.orgs) (c.deref.ensures.value ∙ c.self.view_is)
