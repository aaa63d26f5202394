use Rattle.std.proofs.Common.{◌++◌, rules}
use Rattle.std.specs.Prelude.{codes}
use Rattle.cli_lines.specs.Lines.{head_text, hex_text, id_text}
use Rattle.cli_lines.specs.Told.{Prints, PrintsNothing, PrintsPart}
use Rattle.cli_lines.proofs.Printing.{nothing_same, on_err, part_none, part_then, printed_on_err}
use Rattle.cli_lines.proofs.lines.print_head.Goals as goal

pub returns-in_err-id-clause-part : goal.returns-in_err-id-clause-part
returns-in_err-id-clause-part g c =
    let t = c.args.out.now in
    on_err c.from_residual.result _ (part_none t t (head_text c.args.payload.now) (nothing_same t))

pub returns-in_err-result-clause-part : goal.returns-in_err-result-clause-part
returns-in_err-result-clause-part g c =
    let t = c.args.out.now in
    on_err c.from_residual-in_err-result.result _ (part_none t t (head_text c.args.payload.now) (nothing_same t))

pub returns-in_err-writeln-clause-part : goal.returns-in_err-writeln-clause-part
returns-in_err-writeln-clause-part g c =
    on_err c.from_residual-in_err-writeln.result _
    (part_none c.args.out.now c.writeln.new.self (head_text c.args.payload.now) c.in_err-writeln.ensures.nothing)

pub returns-clause-part : goal.returns-clause-part
returns-clause-part g c =
    let p = c.args.payload.now in
    let t = c.args.out.now in
    let u = c.writeln.new.self in
    let v = c.writeln-2.new.self in
    let id = codes "tx " ++ (id_text p ++ codes "\n") in
    let result = codes "result " ++ (hex_text p.result ++ codes "\n") in
    let first : Prints t u id = search rules in
    printed_on_err c.writeln-2.result (PrintsNothing u v) (PrintsPart t v (head_text p))
    (λ nothing. part_then t u v id result first (part_none u v result nothing)) c.writeln-2.ensures.nothing
