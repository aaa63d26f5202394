use Rattle.std.proofs.Common.{◌++◌}
use Rattle.std.specs.Prelude.{codes}
use Rattle.std.specs.Fmt.{decimal}
use Rattle.cli_lines.specs.Told.{PrintsNothing, PrintsPart}
use Rattle.cli_lines.proofs.Printing.{on_err, part_none, part_then, printed_on_err, prints_then}
use Rattle.cli_peer.specs.Opening.{cut_text, opened_text}
use Rattle.cli_peer.proofs.Filters.{part_ended}
use Rattle.cli_peer.proofs.opening.print_opened.Goals as goal

pub returns-in_err-print_cut-clause-part : goal.returns-in_err-print_cut-clause-part
returns-in_err-print_cut-clause-part g c =
    let t = c.args.out.now in
    let u = c.print_cut.new.out in
    let text = opened_text c.args.cut c.args.height in
    on_err c.from_residual.result (PrintsPart t u text) (part_none t u text c.in_err-print_cut.ensures.nothing)

pub returns-in_err-writeln-clause-part : goal.returns-in_err-writeln-clause-part
returns-in_err-writeln-clause-part g c =
    let t = c.args.out.now in
    let u = c.print_cut.new.out in
    let v = c.writeln.new.self in
    let height = codes "height " ++ (decimal c.args.height ++ codes "\n") in
    on_err c.from_residual-in_err-writeln.result (PrintsPart t v (opened_text c.args.cut c.args.height))
    (part_then t u v (cut_text c.args.cut) height c.in_ok-print_cut.ensures.prints (part_none u v height c.in_err-writeln.ensures.nothing))

pub returns-clause-part : goal.returns-clause-part
returns-clause-part g c =
    let t = c.args.out.now in
    let u = c.print_cut.new.out in
    let v = c.writeln.new.self in
    let w = c.flush.new.self in
    let height = codes "height " ++ (decimal c.args.height ++ codes "\n") in
    let text = opened_text c.args.cut c.args.height in
    printed_on_err c.flush.result (PrintsNothing v w) (PrintsPart t w text)
    (part_ended t v w text (prints_then t u v (cut_text c.args.cut) height c.in_ok-print_cut.ensures.prints c.in_ok-writeln.ensures.prints))
    c.flush.ensures.nothing
