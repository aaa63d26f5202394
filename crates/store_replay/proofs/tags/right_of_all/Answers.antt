use Rattle.std.proofs.Common.{arith, ◌≡◌, ◌∙◌, ap, subst, map, IfOk, List}
use Rattle.fab_types.specs.declared.block.Block.{Block}
use Rattle.fab_types.specs.declared.envelope.Envelope.{Envelope}
use Rattle.org_keys.specs.declared.organisation.Organisation.{Organisation}
use Rattle.endorsement_policy.specs.Endorsed.{right_orgs}
use Rattle.ledger_model.specs.Views.{Versioned, values_of}
use Rattle.endorsement_policy.specs.Membership.{Standing, standing_in}
use Rattle.endorsement_policy.proofs.RightOrgs.{more_blocks, right_in}
use Rattle.policy_language.specs.GoodSets.{Names}
use Rattle.store_replay.specs.Tags.{orgs_kept, right_in_record}
use Rattle.store_replay.proofs.RightTags.{all_of}
use Rattle.store_replay.proofs.tags.right_of_all.Goals as goal

pub loop-stored-preserved : goal.loop-stored-preserved
loop-stored-preserved g c =
    let orgs = orgs_kept c.args.rules.now (g.P.Past.kept c.args.past.now) in
    let same : c.as_slice.result.now ≡ c.stored-item.result.block.envelopes = c.as_slice.ensures.value ∙ ap (λ (b : Block). b.envelopes) c.block.ensures in
    rw c.in_ok-push.ensures.items (more_blocks (right_in orgs) (right_in_record orgs) c.loop-stored.envelopes.items c.args.records.now
    c.loop-stored.stored-index c.stored-item.result _ (omega arith) c.stored-item.is (ap (λ (es : List Envelope). map (right_orgs orgs) es) same)
    c.loop-stored.invariant)

pub returns : goal.returns
returns g c =
    let orgs = orgs_kept c.args.rules.now (g.P.Past.kept c.args.past.now) in
    let stand : c.organisations-organisations.result.now ≡ orgs =
    c.organisations-organisations.ensures ∙ ap (λ (s : Standing). s.orgs) c.in_ok-standing.ensures
    ∙ ap (λ (m : Versioned). (standing_in c.args.rules.now (values_of m)).orgs) c.map.ensures in
    let given = ap (λ (os : List Organisation). map (right_in os) c.deref.result.now) stand ∙ ap (map (right_in orgs)) c.deref.ensures.value in
    let all = given ∙ all_of (right_in orgs) (right_in_record orgs) c.loop-stored.envelopes.items c.args.records.now c.loop-stored.stored-index (omega arith)
    c.loop-stored.invariant in
    subst (λ (found : List (List Names)). IfOk c.right_orgs_of_blocks.result (λ v. map (λ right. right.items) v.items ≡ found)) all
    c.right_orgs_of_blocks.ensures
