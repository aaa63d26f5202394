use Rattle.std.proofs.Common.{rules, ◌≡◌, true}
use Rattle.std.specs.FinMap.{get}
use Rattle.fab_types.specs.Memberships.{membership_key}
use Rattle.endorsement_policy.specs.Endorsed.{is_amend_payload, reads_no_newer}
use Rattle.endorsement_policy.specs.Judge.{plain_in}
use Rattle.endorsement_policy.specs.Membership.{is_next}
use Rattle.world_state.specs.Writing.{as_state}
use Rattle.endorsement_policy.proofs.judge.Judge.is_amend_endorsed.Goals as goal

pub returns : goal.returns
returns c =
    let judge = c.args.self.now in
    let a = c.args.amend.now in
    let paid : is_amend_payload a c.args.envelope.now.payload ≡ true = search rules in
    let next : is_next judge.listed.installed.orgs (get (plain_in judge.entries) membership_key) a.membership ≡ true = search rules in
    let older : reads_no_newer (as_state judge.entries) c.args.envelope.now.payload ≡ true = search rules in
    rw (paid, older, next) c.is_agreed.ensures
