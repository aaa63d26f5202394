use Rattle.std.proofs.Common.{[], ◌∷◌, refl, string_bytes}
use Rattle.json_chain.specs.Genesis.{genesis_json}
use Rattle.cli_lines.specs.Told.{PrintsNothing}
use Rattle.cli_lines.proofs.Printing.{nothing_same, on_err, printed_on_err}
use Rattle.cli_show.specs.Lines.{HasLines, PrintsFirst}
use Rattle.cli_show.proofs.Behind.{lines_held, more_lines, one_line, on_ok}
use Rattle.cli_show.proofs.First.{first_left, first_none}
use Rattle.cli_show.proofs.chain.print_chain.Goals as goal

pub returns-in_err-line-clause-first : goal.returns-in_err-line-clause-first
returns-in_err-line-clause-first g c = λ ds held.
    on_err c.from_residual.result _ (first_none (genesis_json c.args.genesis.now ∷ ds) c.args.out.now c.args.out.now (nothing_same c.args.out.now))

pub returns-in_err-print_line-clause-first : goal.returns-in_err-print_line-clause-first
returns-in_err-print_line-clause-first g c = λ ds held.
    on_err c.from_residual-in_err-print_line.result _
    (first_none (genesis_json c.args.genesis.now ∷ ds) c.args.out.now c.print_line.new.out c.in_err-print_line.ensures.nothing)

pub returns-clause-lines : goal.returns-clause-lines
returns-clause-lines g c = λ ds held.
    let d = genesis_json c.args.genesis.now in
    let t = c.args.out.now in
    let u = c.print_line.new.out in
    let v = c.print_text.new.out in
    let first : HasLines (d ∷ []) t.bytes u.bytes =
    one_line d (string_bytes c.in_ok-line.line) t.bytes u.bytes c.in_ok-line.ensures c.in_ok-print_line.ensures.line in
    on_ok c.print_text.result _ (HasLines (d ∷ ds) t.bytes v.bytes)
    (λ h. more_lines (d ∷ []) ds t.bytes u.bytes v.bytes first (lines_held ds (string_bytes c.args.lines.now) u.bytes v.bytes held h))
    c.print_text.ensures.text

pub returns-clause-first : goal.returns-clause-first
returns-clause-first g c = λ ds held.
    let d = genesis_json c.args.genesis.now in
    let t = c.args.out.now in
    let u = c.print_line.new.out in
    let v = c.print_text.new.out in
    let first : HasLines (d ∷ []) t.bytes u.bytes =
    one_line d (string_bytes c.in_ok-line.line) t.bytes u.bytes c.in_ok-line.ensures c.in_ok-print_line.ensures.line in
    printed_on_err c.print_text.result (PrintsNothing u v) (PrintsFirst (d ∷ ds) t v)
    (λ none. first_left (d ∷ ds) (d ∷ []) ds t u v refl c.in_ok-print_line.ensures.tells.0 c.in_ok-print_line.ensures.tells.1 first none)
    c.print_text.ensures.nothing
