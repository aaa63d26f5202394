use Rattle.std.proofs.Common.{◌≡◌, ◌++◌, ◌∙◌, ap, get_or, rules, take}
use Rattle.std.proofs.lemmas.List.{take_all}
use Rattle.std.proofs.Output.{has_written_append, has_written_of_eq}
use Rattle.std.specs.List.{flat_map}
use Rattle.cli_lines.proofs.Printing.{items_next}
use Rattle.cli_session.specs.Replies.{batch_text}
use Rattle.cli_session.proofs.replies.write_batches.Goals as goal

pub loop-report-preserved : goal.loop-report-preserved
loop-report-preserved g c =
    λ plain.
    let before = c.loop-report.invariant plain in
    let reports = c.args.reports.now in
    let index = c.loop-report.report-index in
    let is : c.report-item.result ≡ get_or reports index c.report-item.result = search rules in
    let next = ap (λ r. flat_map batch_text (take index reports) ++ batch_text r) is ∙ items_next batch_text reports index c.report-item.result c.loop-report-test.true in
    has_written_of_eq _ _ _ _ _ next (has_written_append _ _ _ _ _ _ before (c.write_batch.ensures before.plain (search rules)))

pub returns : goal.returns
returns g c =
    λ plain ok.
    has_written_of_eq _ _ _ _ _ (ap (flat_map batch_text) (take_all c.loop-report.report-index c.args.reports.now c.loop-report-test.false)) (c.loop-report.invariant plain)
