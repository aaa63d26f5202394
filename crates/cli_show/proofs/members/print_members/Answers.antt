use Rattle.std.proofs.Common.{[], ◌∷◌, string_bytes}
use Rattle.std.specs.FinMap.{get}
use Rattle.fab_types.specs.Memberships.{membership_key}
use Rattle.endorsement_policy.specs.Judge.{plain_in}
use Rattle.endorsement_policy.specs.Membership.{usable_membership}
use Rattle.json_chain.specs.Memberships.{standing_json}
use Rattle.cli_lines.proofs.Printing.{nothing_same, on_err}
use Rattle.cli_show.proofs.Behind.{on_ok, one_line}
use Rattle.cli_show.specs.Lines.{HasLines}
use Rattle.cli_show.proofs.members.print_members.Goals as goal

pub returns-clause-line : goal.returns-clause-line
returns-clause-line g c =
    let r = c.args.rules.now in
    let stands = standing_json r (usable_membership r.installed.orgs (get (plain_in c.args.state.now.entries) membership_key)) in
    let was = c.args.out.now.bytes in
    let after = c.print_line.new.out.bytes in
    on_ok c.print_line.result _ (HasLines (stands ∷ []) was after) (λ h. one_line stands (string_bytes c.in_ok-line.line) was after c.in_ok-line.ensures h)
    c.print_line.ensures.line

pub returns-in_err-line-clause-nothing : goal.returns-in_err-line-clause-nothing
returns-in_err-line-clause-nothing g c = on_err c.from_residual.result _ (nothing_same c.args.out.now)
