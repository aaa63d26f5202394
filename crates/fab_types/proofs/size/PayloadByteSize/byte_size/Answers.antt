use Rattle.std.proofs.Common.{◌≡◌, length, ap, ◌∙◌, arith}
use Rattle.fab_types.specs.Size.{payload_size}
use Rattle.fab_types.proofs.Lengths.{payload_length, payload_most}
use Rattle.fab_types.proofs.size.PayloadByteSize.byte_size.Goals as goal

pub returns : goal.returns
returns c =
    let payload = c.args.self.now in
    let within = c.bytes.ensures.within in
    let size : length c.bytes.result.now ≡ payload_size payload = ap length c.bytes.ensures.spelled ∙ payload_length payload within in
    record { value = size; bound = omega (arith, size, payload_most payload within) }
