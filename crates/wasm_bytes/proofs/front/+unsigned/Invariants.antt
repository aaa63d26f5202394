use Rattle.std.proofs.Common.{◌+◌, ◌*◌}
use Rattle.wasm_bytes.proofs.front.+unsigned.Given as goal

abbrev pub decreases-unsigned : goal.decreases-unsigned
decreases-unsigned l = 2 * l.bound + 1

abbrev pub decreases-unsigned_on : goal.decreases-unsigned_on
decreases-unsigned_on l = 2 * l.bound
