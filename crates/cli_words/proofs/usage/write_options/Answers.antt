use Rattle.std.proofs.Common.{ap, refl, rules}
use Rattle.std.specs.List.{flat_map}
use Rattle.std.proofs.Output.{has_written_append, has_written_of_eq}
use Rattle.cli_words.specs.UsageText.{option_text}
use Rattle.cli_words.proofs.Behind.{flat_next, mapped_all}
use Rattle.cli_words.proofs.usage.write_options.Goals as goal

pub loop-name-preserved : goal.loop-name-preserved
loop-name-preserved g c =
    λ plain.
    let before = c.loop-name.invariant plain in
    has_written_of_eq _ _ _ _ _
    (flat_next (λ o. (o.0.now, o.1.now)) option_text c.args.options.now c.loop-name.name-index _ _ c.loop-name-test.true refl)
    (has_written_append _ _ _ _ _ _ before (c.write_option.ensures before.plain (search rules)))

pub returns : goal.returns
returns g c =
    λ plain ok.
    has_written_of_eq _ _ _ _ _
    (ap (flat_map option_text) (mapped_all (λ o. (o.0.now, o.1.now)) c.args.options.now c.loop-name.name-index c.loop-name-test.false))
    (c.loop-name.invariant plain)
