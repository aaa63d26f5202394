use Rattle.std.proofs.Common.{ap, refl}
use Rattle.std.proofs.lemmas.List.{take_all}
use Rattle.std.proofs.Output.{has_written_append, has_written_of_eq}
use Rattle.std.specs.List.{flat_map}
use Rattle.cli_lines.specs.Lines.{flag_text}
use Rattle.cli_lines.proofs.Printing.{items_next}
use Rattle.cli_lines.proofs.committed.write_flags.Goals as goal

pub loop-flag-preserved : goal.loop-flag-preserved
loop-flag-preserved g c =
    λ plain.
    let before = c.loop-flag.invariant plain in
    has_written_of_eq _ _ _ _ _ (items_next flag_text c.args.flags.now c.loop-flag.flag-index _ c.loop-flag-test.true)
    (has_written_append _ _ _ _ _ _ before (c.in_ok-write.ensures.writes before.plain refl))

pub returns : goal.returns
returns g c =
    λ plain ok.
    has_written_of_eq _ _ _ _ _ (ap (flat_map flag_text) (take_all c.loop-flag.flag-index c.args.flags.now c.loop-flag-test.false)) (c.loop-flag.invariant plain)
