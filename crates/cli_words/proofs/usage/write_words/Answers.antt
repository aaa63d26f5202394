use Rattle.std.proofs.Common.{ap, refl}
use Rattle.std.specs.List.{flat_map}
use Rattle.std.proofs.Output.{has_written_append, has_written_of_eq}
use Rattle.cli_words.specs.UsageText.{word_text}
use Rattle.cli_words.proofs.Behind.{flat_next, mapped_all}
use Rattle.cli_words.proofs.usage.write_words.Goals as goal

pub loop-word-preserved : goal.loop-word-preserved
loop-word-preserved g c =
    λ plain.
    let before = c.loop-word.invariant plain in
    has_written_of_eq _ _ _ _ _
    (flat_next (λ w. w.now) word_text c.args.words.now c.loop-word.word-index _ _ c.loop-word-test.true refl)
    (has_written_append _ _ _ _ _ _ before (c.in_ok-write.ensures.writes before.plain refl))

pub returns : goal.returns
returns g c =
    λ plain ok.
    has_written_of_eq _ _ _ _ _
    (ap (λ ws. flat_map word_text ws) (mapped_all (λ w. w.now) c.args.words.now c.loop-word.word-index c.loop-word-test.false)) (c.loop-word.invariant plain)
