use Rattle.std.proofs.Common.{◌≡◌, ◌≤◌, ◌∙◌, [], ◌∷◌, ap, subst, Bool, true, false, Result, Ok, Err, OnOk, IfErr, inl, inr, arith, refl, string_bytes}
use Rattle.std.specs.Io.KnownBytes.{Appends}
use Rattle.serde_json.specs.Data.{Data, depth}
use Rattle.serde_json.specs.Written.{has_float}
use Rattle.json_chain.specs.JsonText.{IsJsonText}
use Rattle.cli_lines.proofs.Printing.{nothing_same, on_err}
use Rattle.cli_lines.specs.Texts.{line}
use Rattle.cli_lines.specs.Told.{Answers, IsBrokenOff, Tells, Told}
use Rattle.cli_lines.specs.declared.failure.Failure.{Failure}
use Rattle.cli_show.specs.Lines.{HasLines}
use Rattle.cli_show.specs.Version.{Versions, told_json}
use Rattle.ledger_table.proofs.Nesting.{table_low, table_plain}
use Rattle.cli_show.proofs.Answering.{lines_printed}
use Rattle.cli_show.proofs.Behind.{on_ok, one_line}
use Rattle.cli_show.proofs.versioning.version.Goals as goal

low : (has_table : Bool) → depth (told_json has_table) ≤ 3
low true = table_low
low false = omega arith

plain : (has_table : Bool) → has_float (told_json has_table) ≡ false
plain true = table_plain
plain false = refl

pub line_of-requires : goal.line_of-requires
line_of-requires g c = rw c.in_ok-told.ensures (omega (arith, low c.args.has_table))

pub returns-clause-line : goal.returns-clause-line
returns-clause-line g c =
    let has_table = c.args.has_table in
    let before = c.args.out.now.bytes in
    let after = c.print_line.new.out.bytes in
    let text = string_bytes c.in_ok-line.line in
    let is = subst (λ (d : Data). IsJsonText d text) c.in_ok-told.ensures
    (record { exact = c.in_ok-line.ensures.text (ap has_float c.in_ok-told.ensures ∙ plain has_table); read = c.in_ok-line.ensures.read }) in
    on_ok c.print_line.result (Appends before after (line text)) (HasLines (told_json has_table ∷ []) before after)
    (λ h. one_line (told_json has_table) text before after is h) c.print_line.ensures.line

told : (has_table : Bool) (t u : Told) (r : Result (Unit {0}) Failure) → Tells t u r → OnOk r (HasLines (told_json has_table ∷ []) t.bytes u.bytes) → IfErr r IsBrokenOff →
    Answers (Versions has_table) t u r
told has_table t u (Ok x) tells lines lost =
    let p = lines_printed (told_json has_table ∷ []) t u tells.0 tells.1 lines in
    inr (p.0, (refl, p.1), p.2)
told has_table t u (Err f) tells lines lost = inl lost

pub returns-clause-answers : goal.returns-clause-answers
returns-clause-answers g c =
    told c.args.has_table c.args.out.now c.print_line.new.out c.print_line.result c.print_line.ensures.tells (returns-clause-line g c) c.print_line.ensures.lost

pub returns-in_err-told-clause-nothing : goal.returns-in_err-told-clause-nothing
returns-in_err-told-clause-nothing g c = on_err c.from_residual.result _ (nothing_same c.args.out.now)

pub returns-in_err-line-clause-nothing : goal.returns-in_err-line-clause-nothing
returns-in_err-line-clause-nothing g c = on_err c.from_residual-in_err-line.result _ (nothing_same c.args.out.now)
