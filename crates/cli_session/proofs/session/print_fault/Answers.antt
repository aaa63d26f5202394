use Rattle.std.proofs.Common.{◌≢◌, ℕ, ap}
use Rattle.wire.specs.FaultNumbers.{number_of}
use Rattle.wire.specs.declared.fault.WireFault.TheVariants.{Memory}
use Rattle.cli_lines.specs.Texts.{line, refused}
use Rattle.cli_lines.specs.Told.{Prints}
use Rattle.cli_lines.proofs.Printing.{printed_on_ok, prints_same}
use Rattle.cli_session.proofs.session.print_fault.Goals as goal

pub returns-in_default-clause-prints : goal.returns-in_default-clause-prints
returns-in_default-clause-prints g c =
    let w = c.writeln in
    let f = c.args.fault in
    printed_on_ok w.result (Prints c.args.out.now w.new.self (line (refused c.number-number.result)))
    ((f ≢ Memory) × Prints c.args.out.now w.new.self (line (refused (number_of f))))
    (λ p. (c.in_default.not-Memory, prints_same c.args.out.now w.new.self _ _ (ap (λ (n : ℕ). line (refused n)) c.number-number.ensures) p)) w.ensures.prints
