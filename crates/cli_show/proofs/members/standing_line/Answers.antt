use Rattle.std.proofs.Common.{arith}
use Rattle.std.specs.FinMap.{get}
use Rattle.fab_types.specs.Memberships.{membership_key}
use Rattle.endorsement_policy.specs.Judge.{plain_in}
use Rattle.endorsement_policy.specs.Membership.{usable_membership}
use Rattle.json_chain.proofs.Depths.{standing_low}
use Rattle.json_chain.proofs.Floats.{standing_plain, text_of}
use Rattle.cli_show.proofs.members.standing_line.Goals as goal

pub line_of-requires : goal.line_of-requires
line_of-requires c =
    let r = c.args.rules.now in
    let found = usable_membership r.installed.orgs (get (plain_in c.args.state.now.entries) membership_key) in
    rw c.in_ok-standing_of_state.ensures (omega (arith, standing_low r found))

pub returns : goal.returns
returns c =
    let r = c.args.rules.now in
    let found = usable_membership r.installed.orgs (get (plain_in c.args.state.now.entries) membership_key) in
    text_of c.line_of.result _ _ c.in_ok-standing_of_state.ensures (standing_plain r found) c.line_of.ensures.text c.line_of.ensures.read
