use Rattle.std.proofs.Common.{◌≡◌, ◌+◌, ℕ, Some, option_map, refl, sym, ap, ◌∙◌, string_bytes}
use Rattle.wasm_trace.specs.Standing.{standing}
use Rattle.wasm_trace.proofs.Stepped.{fuel_of}
use Rattle.cli_show.specs.Tracing.{named_text, step_line}
use Rattle.cli_lines.proofs.Printing.{nothing_same, on_err}
use Rattle.cli_show.proofs.Traces.{next_some}
use Rattle.cli_show.proofs.tracing.print_step.Goals as goal

pub returns-in_ok-writeln-in-Some-clause-prints : goal.returns-in_ok-writeln-in-Some-clause-prints
returns-in_ok-writeln-in-Some-clause-prints g c =
    let s = standing c.args.stepper.now in
    let text = string_bytes c.in-Some.step in
    let fuel = fuel_of c.args.stepper.now.configuration (tt {0}) in
    let is : Some text ≡ named_text s.shown s.at.fuel =
    ap (option_map string_bytes) (sym c.in-Some.is) ∙ c.in_ok-render.ensures ∙ ap (λ (n : ℕ). named_text s.shown n) (sym fuel) in
    let number = c.args.printed + 1 in (
      step_line number text,
      next_some (named_text s.shown s.at.fuel) text c.args.most c.args.printed number is c.if-most-printed.false refl,
      c.in_ok-writeln-in-Some.ensures.prints,
    )

pub returns-in_err-render-clause-nothing : goal.returns-in_err-render-clause-nothing
returns-in_err-render-clause-nothing g c = on_err c.from_residual.result _ (nothing_same c.args.out.now)

pub returns-in_err-writeln-in-Some-clause-nothing : goal.returns-in_err-writeln-in-Some-clause-nothing
returns-in_err-writeln-in-Some-clause-nothing g c = on_err c.from_residual-in_err-writeln-in-Some.result _ c.in_err-writeln-in-Some.ensures.nothing
