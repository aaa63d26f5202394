use Rattle.std.proofs.Common.{inr, rules, true, refl}
use Rattle.std.specs.Io.Buffered.{writer_contents, writer_inner}
use Rattle.cli_lines.specs.Told.{Told}
use Rattle.cli_lines.proofs.printer.Printer.flush.Goals as goal

pub returns-in-Err-clause-tells : goal.returns-in-Err-clause-tells
returns-in-Err-clause-tells g c =
    let out = c.flush.new.self in
    let after : Told =
    record {
      printed = c.self.inside.printed;
      failed = true;
      waits = c.self.inside.waits;
      bytes = writer_contents (λ w. g.W.Write.contents w.now) out;
      handed = g.W.Write.contents (writer_inner out).now;
    } in
    (record { prints = search rules; fails = search rules }, c.reason.ensures.says c.args.self.now after refl)

pub returns-in-Err-clause-nothing : goal.returns-in-Err-clause-nothing
returns-in-Err-clause-nothing g c = inr (search rules, refl)
