use Rattle.std.proofs.Common.{[]}
use Rattle.cli_lines.proofs.Printing.{nothing_same, on_err, part_left, prints_all}
use Rattle.ledger_cli.specs.Keys.{public_text}
use Rattle.ledger_cli.proofs.public.print_keys.Goals as goal

pub returns-clause-prints : goal.returns-clause-prints
returns-clause-prints g c =
    prints_all public_text [] c.args.keys.now c.loop-key.key-index c.args.out.now c.loop-key.out c.loop-key-test.false c.loop-key.invariant

pub returns-in_err-public-clause-part : goal.returns-in_err-public-clause-part
returns-in_err-public-clause-part g c =
    let loop = c.loop-key in
    on_err c.from_residual.result _
    (part_left public_text [] c.args.keys.now loop.key-index c.args.out.now loop.out loop.out loop.invariant (nothing_same loop.out))

pub returns-in_err-writeln-clause-part : goal.returns-in_err-writeln-clause-part
returns-in_err-writeln-clause-part g c =
    let loop = c.loop-key in
    on_err c.from_residual-in_err-writeln.result _
    (part_left public_text [] c.args.keys.now loop.key-index c.args.out.now loop.out c.writeln.new.self loop.invariant c.in_err-writeln.ensures.nothing)
