use Rattle.std.proofs.Common.{arith}
use Rattle.hmac_tag.proofs.Keys.{padded-short}
use Rattle.hmac_tag.proofs.padded_key.Goals as goal

pub returns-then-key-le64 : goal.returns-then-key-le64
returns-then-key-le64 c = padded-short _ _ (omega (arith, c.if-key-le64.true)) c.copy_from_slice.ensures.after
