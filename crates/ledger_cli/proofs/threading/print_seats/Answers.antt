use Rattle.std.proofs.Common.{◌++◌, [], ◌∷◌, rules}
use Rattle.std.specs.Prelude.{codes}
use Rattle.std.specs.Fmt.{decimal}
use Rattle.cli_lines.specs.Lines.{audit_text}
use Rattle.cli_lines.specs.Told.{Prints, PrintsNothing, PrintsPart}
use Rattle.cli_lines.proofs.Printing.{on_err, part_front, part_none, printed_on_err, prints_then}
use Rattle.ledger_cli.specs.Seats.{missing_text, report_text}
use Rattle.ledger_cli.proofs.Verdicts.{broken_behind}
use Rattle.ledger_cli.proofs.threading.print_seats.Goals as goal

pub returns-in_err-writeln-clause-part : goal.returns-in_err-writeln-clause-part
returns-in_err-writeln-clause-part g c =
    on_err c.from_residual.result _ (part_none c.args.out.now c.writeln.new.self (report_text c.args.report) c.in_err-writeln.ensures.nothing)

pub returns-in_err-writeln-2-clause-part : goal.returns-in_err-writeln-2-clause-part
returns-in_err-writeln-2-clause-part g c =
    let r = c.args.report in
    let t = c.args.out.now in
    let u = c.writeln.new.self in
    let v = c.writeln-2.new.self in
    let endorsed = codes "endorsed " ++ (decimal r.endorsed ++ codes "\n") in
    let refused = codes "refused " ++ (decimal r.refused ++ codes "\n") in
    let blocks = codes "blocks " ++ (decimal r.blocks ++ codes "\n") in
    let first : Prints t u endorsed = search rules in
    on_err c.from_residual-in_err-writeln-2.result _
    (part_front t v (endorsed ++ refused) (missing_text r.missing ∷ blocks ∷ audit_text r.audit ∷ [])
    (broken_behind t u v endorsed refused first c.in_err-writeln-2.ensures.nothing))

pub returns-in_err-print_missing-clause-part : goal.returns-in_err-print_missing-clause-part
returns-in_err-print_missing-clause-part g c =
    let r = c.args.report in
    let t = c.args.out.now in
    let s = c.writeln.new.self in
    let u = c.writeln-2.new.self in
    let v = c.print_missing.new.out in
    let endorsed = codes "endorsed " ++ (decimal r.endorsed ++ codes "\n") in
    let refused = codes "refused " ++ (decimal r.refused ++ codes "\n") in
    let blocks = codes "blocks " ++ (decimal r.blocks ++ codes "\n") in
    let first : Prints t s endorsed = search rules in
    let second : Prints s u refused = search rules in
    on_err c.from_residual-in_err-print_missing.result _
    (part_front t v ((endorsed ++ refused) ++ missing_text r.missing) (blocks ∷ audit_text r.audit ∷ [])
    (broken_behind t u v (endorsed ++ refused) (missing_text r.missing) (prints_then t s u endorsed refused first second)
    c.in_err-print_missing.ensures.nothing))

pub returns-in_err-writeln-3-clause-part : goal.returns-in_err-writeln-3-clause-part
returns-in_err-writeln-3-clause-part g c =
    let r = c.args.report in
    let t = c.args.out.now in
    let s = c.writeln.new.self in
    let w = c.writeln-2.new.self in
    let u = c.print_missing.new.out in
    let v = c.writeln-3.new.self in
    let endorsed = codes "endorsed " ++ (decimal r.endorsed ++ codes "\n") in
    let refused = codes "refused " ++ (decimal r.refused ++ codes "\n") in
    let blocks = codes "blocks " ++ (decimal r.blocks ++ codes "\n") in
    let first : Prints t s endorsed = search rules in
    let second : Prints s w refused = search rules in
    let third : Prints w u (missing_text r.missing) = search rules in
    let before = prints_then t w u (endorsed ++ refused) (missing_text r.missing) (prints_then t s w endorsed refused first second) third in
    on_err c.from_residual-in_err-writeln-3.result _
    (part_front t v (((endorsed ++ refused) ++ missing_text r.missing) ++ blocks) (audit_text r.audit ∷ [])
    (broken_behind t u v ((endorsed ++ refused) ++ missing_text r.missing) blocks before c.in_err-writeln-3.ensures.nothing))

pub returns-clause-part : goal.returns-clause-part
returns-clause-part g c =
    let r = c.args.report in
    let t = c.args.out.now in
    let s = c.writeln.new.self in
    let w = c.writeln-2.new.self in
    let x = c.print_missing.new.out in
    let u = c.writeln-3.new.self in
    let v = c.print_audit.new.out in
    let endorsed = codes "endorsed " ++ (decimal r.endorsed ++ codes "\n") in
    let refused = codes "refused " ++ (decimal r.refused ++ codes "\n") in
    let blocks = codes "blocks " ++ (decimal r.blocks ++ codes "\n") in
    let first : Prints t s endorsed = search rules in
    let second : Prints s w refused = search rules in
    let third : Prints w x (missing_text r.missing) = search rules in
    let fourth : Prints x u blocks = search rules in
    let three = prints_then t w x (endorsed ++ refused) (missing_text r.missing) (prints_then t s w endorsed refused first second) third in
    let before = prints_then t x u ((endorsed ++ refused) ++ missing_text r.missing) blocks three fourth in
    printed_on_err c.print_audit.result (PrintsNothing u v) (PrintsPart t v (report_text r))
    (λ none. broken_behind t u v (((endorsed ++ refused) ++ missing_text r.missing) ++ blocks) (audit_text r.audit) before none) c.print_audit.ensures.nothing
