use Rattle.cli_lines.proofs.Printing.{nothing_same, on_err, part_none}
use Rattle.cli_session.specs.States.{state_text}
use Rattle.cli_session.proofs.lines.print_state.Goals as goal

pub returns-in_err-entries-clause-part : goal.returns-in_err-entries-clause-part
returns-in_err-entries-clause-part g c =
    let t = c.args.out.now in
    on_err c.from_residual.result _ (part_none t t (state_text c.args.snapshot.now) (nothing_same t))
