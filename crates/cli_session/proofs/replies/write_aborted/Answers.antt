use Rattle.std.proofs.Common.{ap, refl}
use Rattle.std.proofs.lemmas.List.{take_all}
use Rattle.std.proofs.Output.{has_written_append, has_written_of_eq}
use Rattle.std.specs.List.{flat_map}
use Rattle.cli_lines.proofs.Printing.{items_next}
use Rattle.cli_session.specs.Replies.{aborted_text}
use Rattle.cli_session.proofs.replies.write_aborted.Goals as goal

pub loop-index-preserved : goal.loop-index-preserved
loop-index-preserved g c =
    λ plain.
    let before = c.loop-index.invariant plain in
    has_written_of_eq _ _ _ _ _ (items_next aborted_text c.args.aborted.now c.loop-index.index-index _ c.loop-index-test.true)
    (has_written_append _ _ _ _ _ _ before (c.in_ok-writeln.ensures.writes before.plain refl))

pub returns : goal.returns
returns g c =
    λ plain ok.
    has_written_of_eq _ _ _ _ _ (ap (flat_map aborted_text) (take_all c.loop-index.index-index c.args.aborted.now c.loop-index-test.false)) (c.loop-index.invariant plain)
