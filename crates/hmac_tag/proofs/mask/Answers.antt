use Rattle.std.proofs.Common.{ap, ◌∙◌, arith, slice_set, slice_index_or, bit_xor}
use Rattle.hmac_tag.proofs.Masks.{one_more}
use Rattle.hmac_tag.proofs.mask.Goals as goal

pub loop-place-preserved : goal.loop-place-preserved
loop-place-preserved c =
    ap (λ b. slice_set b c.loop-place.place (bit_xor (slice_index_or b c.loop-place.place 0) c.args.pad)) c.loop-place.invariant
    ∙ one_more (λ byte. bit_xor byte c.args.pad) c.args.key.now c.loop-place.place (omega (arith, c.told-key, c.loop-place-test.true))
