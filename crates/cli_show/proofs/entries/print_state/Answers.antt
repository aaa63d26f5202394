use Rattle.std.proofs.Common.{◌≡◌, List, OnErr, OnOk, map, ap, subst, ◌∙◌}
use Rattle.std.specs.Map.Iter.{deref_pair}
use Rattle.ledger_model.specs.Chain.{Bytes, Version}
use Rattle.cli_show.specs.Lines.{HasLines, PrintsFirst, entries_json}
use Rattle.cli_lines.proofs.Printing.{nothing_same, on_err}
use Rattle.cli_show.proofs.First.{first_none}
use Rattle.cli_show.proofs.entries.print_state.Goals as goal

pub returns-clause-lines : goal.returns-clause-lines
returns-clause-lines g c =
    let same : map deref_pair c.deref.result.now ≡ c.args.state.now.entries = ap (map deref_pair) c.deref.ensures.value ∙ c.in_ok-entries.ensures.all in
    subst (λ (es : List (Bytes × (Bytes × Version))).
    OnOk c.print_entries.result (HasLines (entries_json es) c.args.out.now.bytes c.print_entries.new.out.bytes)) same c.print_entries.ensures.lines

pub returns-in_err-entries-clause-first : goal.returns-in_err-entries-clause-first
returns-in_err-entries-clause-first g c =
    on_err c.from_residual.result _ (first_none (entries_json c.args.state.now.entries) c.args.out.now c.args.out.now (nothing_same c.args.out.now))

pub returns-clause-first : goal.returns-clause-first
returns-clause-first g c =
    let same : map deref_pair c.deref.result.now ≡ c.args.state.now.entries = ap (map deref_pair) c.deref.ensures.value ∙ c.in_ok-entries.ensures.all in
    subst (λ (es : List (Bytes × (Bytes × Version))).
    OnErr c.print_entries.result (PrintsFirst (entries_json es) c.args.out.now c.print_entries.new.out)) same c.print_entries.ensures.first
