use Rattle.std.proofs.Common.{rules, ◌≡◌, ◌&&◌, true}
use Rattle.std.proofs.lemmas.Bool.{and_parts}
use Rattle.std.specs.Result.{is_ok}
use Rattle.world_state.specs.Writing.{as_state}
use Rattle.endorsement_policy.specs.Endorsed.{is_upgrade_payload, org_names, reads_no_newer}
use Rattle.endorsement_policy.specs.Installed.{names_known, usable_by}
use Rattle.endorsement_policy.proofs.judge.Judge.is_upgrade_endorsed.Goals as goal

pub returns : goal.returns
returns c =
    let listed = c.args.self.now.listed in
    let envelope = c.args.envelope.now in
    let paid : is_upgrade_payload c.args.upgrade.now envelope.payload ≡ true = search rules in
    let d = c.args.upgrade.now.definition in
    let put : (is_ok (usable_by listed.installed d) && names_known (org_names listed.orgs) d) ≡ true = search rules in
    let parts = and_parts (is_ok (usable_by listed.installed d)) (names_known (org_names listed.orgs) d) put in
    let older : reads_no_newer (as_state c.args.self.now.entries) envelope.payload ≡ true = search rules in
    rw (paid, older, parts.0, parts.1) c.is_agreed.ensures
