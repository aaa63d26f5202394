use Rattle.std.proofs.Common.{inl, ◌≡◌, ◌++◌, ap₂, arith, codes, inr, refl, ◌∙◌}
use Rattle.std.specs.Fmt.{decimal}
use Rattle.cli_lines.specs.Told.{IsTextOf}
use Rattle.cli_lines.proofs.Answering.{begins_part}
use Rattle.cli_lines.proofs.Printing.{on_err, part_none, part_then, part_whole, prints_then}
use Rattle.cli_lines.proofs.Silence.{and_more}
use Rattle.cli_show.specs.Answers.{end_fault}
use Rattle.cli_show.specs.Findings.{AuditsReplay, ends_with, finding_text, found_text, is_good}
use Rattle.cli_show.proofs.Replays.{end_silent, end_told}
use Rattle.cli_show.proofs.auditing.print_replayed.Goals as goal

pub returns-clause-tells : goal.returns-clause-tells
returns-clause-tells g c =
    let r = c.args.replayed.now in
    let f = c.args.finding in
    let first = c.in_ok-writeln.ensures in
    let next = c.in_ok-print_finding.ensures in
    let is : c.ends_with.result ≡ ends_with (is_good f r.end) (end_fault r.end) = c.ends_with.ensures ∙ ap₂ ends_with c.is_good.ensures c.end_fault.ensures in
    end_told (is_good f r.end) (end_fault r.end) c.args.out.now c.print_finding.new.out c.ends_with.result is (and_more _ _ _ first.tells.0 next.tells.0)
    (next.tells.1 ∙ first.tells.1) (omega (arith, first.printed, next.tells.0.prints)) (end_silent r.end)

pub returns-clause-answers : goal.returns-clause-answers
returns-clause-answers g c = λ genesis found.
    let r = c.args.replayed.now in
    let f = c.args.finding in
    let is : c.ends_with.result ≡ ends_with (is_good f r.end) (end_fault r.end) = c.ends_with.ensures ∙ ap₂ ends_with c.is_good.ensures c.end_fault.ensures in
    inr (
      found_text r.blocks f,
      (f, found, is, refl),
      prints_then c.args.out.now c.writeln.new.self c.print_finding.new.out (codes "blocks " ++ (decimal r.blocks ++ codes "\n")) (finding_text f)
          c.in_ok-writeln.ensures.prints c.in_ok-print_finding.ensures.prints,
    )

pub returns-in_err-writeln-clause-begins : goal.returns-in_err-writeln-clause-begins
returns-in_err-writeln-clause-begins g c = λ genesis found broken. inl c.in_err-writeln.ensures.nothing

pub returns-in_err-print_finding-clause-begins : goal.returns-in_err-print_finding-clause-begins
returns-in_err-print_finding-clause-begins g c = λ genesis found.
    let r = c.args.replayed.now in
    let f = c.args.finding in
    let t = c.args.out.now in
    let u = c.writeln.new.self in
    let v = c.print_finding.new.out in
    let head = codes "blocks " ++ (decimal r.blocks ++ codes "\n") in
    begins_part (IsTextOf (AuditsReplay genesis r)) t v c.from_residual-in_err-print_finding.result (found_text r.blocks f)
    (ends_with (is_good f r.end) (end_fault r.end), (f, found, refl, refl))
    (on_err c.from_residual-in_err-print_finding.result _
    (part_then t u v head (finding_text f) c.in_ok-writeln.ensures.prints (part_none u v (finding_text f) c.in_err-print_finding.ensures.nothing)))

pub returns-clause-begins : goal.returns-clause-begins
returns-clause-begins g c = λ genesis found.
    let r = c.args.replayed.now in
    let f = c.args.finding in
    let t = c.args.out.now in
    let v = c.print_finding.new.out in
    let head = codes "blocks " ++ (decimal r.blocks ++ codes "\n") in
    begins_part (IsTextOf (AuditsReplay genesis r)) t v c.ends_with.result (found_text r.blocks f)
    (ends_with (is_good f r.end) (end_fault r.end), (f, found, refl, refl))
    (on_err c.ends_with.result _ (part_whole t v (found_text r.blocks f)
    (prints_then t c.writeln.new.self v head (finding_text f) c.in_ok-writeln.ensures.prints c.in_ok-print_finding.ensures.prints)))
