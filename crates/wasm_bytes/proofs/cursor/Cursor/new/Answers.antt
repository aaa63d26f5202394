use Rattle.std.proofs.Common.{[], refl, sym, append-nil, arith}
use Rattle.wasm_bytes.proofs.cursor.Cursor.new.Goals as goal

pub invariant_of-result : goal.invariant_of-result
invariant_of-result c =
    (omega arith, record { before = []; after = []; parts = sym (append-nil c.args.bytes.now); offset = omega arith })
