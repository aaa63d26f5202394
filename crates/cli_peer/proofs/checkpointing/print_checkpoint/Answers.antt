use Rattle.std.proofs.Common.{◌++◌, OnOk, subst}
use Rattle.std.specs.Prelude.{codes}
use Rattle.std.specs.Fmt.{decimal}
use Rattle.ledger_model.specs.Chain.{Bytes}
use Rattle.cli_lines.specs.Told.{Prints}
use Rattle.cli_peer.proofs.checkpointing.print_checkpoint.Goals as goal

pub returns-clause-prints : goal.returns-clause-prints
returns-clause-prints g c =
    let w = c.writeln in
    let height = decimal c.args.height in
    subst (λ (digits : Bytes). OnOk w.result
    (Prints c.args.out.now w.new.self (codes "checkpoint " ++ (height ++ (codes " " ++ (digits ++ codes "\n"))))))
    c.in_ok-digits.ensures w.ensures.prints
