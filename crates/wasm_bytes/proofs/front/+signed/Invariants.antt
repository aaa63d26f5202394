use Rattle.std.proofs.Common.{◌+◌, ◌*◌}
use Rattle.wasm_bytes.proofs.front.+signed.Given as goal

abbrev pub decreases-signed : goal.decreases-signed
decreases-signed l = 2 * l.half + 1

abbrev pub decreases-signed_on : goal.decreases-signed_on
decreases-signed_on l = 2 * l.half
