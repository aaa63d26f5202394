use Rattle.std.proofs.Common.{OnOk, inl, subst, ◌∙◌}
use Rattle.std.specs.Io.KnownBytes.{Appends}
use Rattle.std.specs.List.{flat_map}
use Rattle.kept_state.specs.Keeping.{chain_of}
use Rattle.ledger_model.specs.Chain.{Bytes}
use Rattle.cli_lines.specs.Texts.{line}
use Rattle.cli_lines.specs.Told.{PrintsNothing, PrintsPart}
use Rattle.cli_show.specs.Marks.{chain_marks}
use Rattle.std.proofs.lemmas.Result.{err_from_is_err_and}
use Rattle.cli_lines.proofs.Printing.{nothing_same, part_none, printed_on_err}
use Rattle.cli_lines.proofs.Silence.{no_less, tells_by}
use Rattle.cli_show.proofs.MarkLines.{store_begun, store_told}
use Rattle.cli_show.proofs.marking.marks.Goals as goal

pub returns-in_err-replayed : goal.returns-in_err-replayed
returns-in_err-replayed g c =
    let p = err_from_is_err_and c.from_residual.result c.from_residual.ensures.1 in
    rw (p.1, p.2) (record {
      tells = tells_by c.args.out.now c.args.out.now _ (no_less c.args.out.now) c.in_err-replayed.ensures.silent;
      answers = inl c.in_err-replayed.ensures.lost;
      begins = λ broken. inl (nothing_same c.args.out.now);
      kept = c.in_err-replayed.ensures.kept;
    })

pub returns-clause-answers : goal.returns-clause-answers
returns-clause-answers g c =
    let told = c.print_marks.ensures in
    store_told c.args.genesis.now (g.F.Files.bytes c.args.files.now c.args.store.now) c.in_ok-replayed.replayed c.args.out.now c.print_marks.new.out
    c.print_marks.result c.in_ok-replayed.ensures.replayed told.tells told.refused
    (subst (λ (text : Bytes). OnOk c.print_marks.result (Appends c.args.out.now.bytes c.print_marks.new.out.bytes text)) c.in_ok-replayed.ensures.took
    told.text) told.lost

pub returns-clause-begins : goal.returns-clause-begins
returns-clause-begins g c =
    let told = c.print_marks.ensures in
    let t = c.args.out.now in
    let u = c.print_marks.new.out in
    let marks = flat_map line (chain_marks (chain_of c.in_ok-replayed.replayed.chain)) in
    store_begun c.args.genesis.now (g.F.Files.bytes c.args.files.now c.args.store.now) c.in_ok-replayed.replayed t u c.print_marks.result
    c.in_ok-replayed.ensures.replayed told.refused
    (printed_on_err c.print_marks.result (PrintsNothing t u) (PrintsPart t u marks) (λ none. part_none t u marks none) told.nothing)

pub returns-clause-kept : goal.returns-clause-kept
returns-clause-kept g c = c.explain_fault.ensures.kept ∙ c.in_ok-replayed.ensures.kept

pub returns-clause-tells : goal.returns-clause-tells
returns-clause-tells g c = c.print_marks.ensures.tells
