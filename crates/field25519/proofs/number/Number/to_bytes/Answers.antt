use Rattle.std.proofs.Common.{◌∙◌, arith}
use Rattle.std.proofs.lemmas.List.{length-set}
use Rattle.field25519.proofs.Spelling.{bytes_step, bytes_all}
use Rattle.field25519.proofs.number.Number.to_bytes.Goals as goal

pub loop-place-preserved : goal.loop-place-preserved
loop-place-preserved c = record {
  whole = length-set c.loop-place.bytes c.loop-place.place c.low_byte.result ∙ c.loop-place.invariant.whole;
  so_far =
      rw (c.low_byte.ensures, c.without_low_byte-rest.ensures)
      (bytes_step c.loop-place.bytes c.loop-place.place c.loop-place.rest c.args.self c.loop-place.invariant.whole (omega arith) c.loop-place.invariant.so_far);
}

pub returns : goal.returns
returns c =
    bytes_all c.loop-place.bytes c.loop-place.place c.loop-place.rest c.args.self c.loop-place.invariant.whole (omega arith) c.loop-place.invariant.so_far
