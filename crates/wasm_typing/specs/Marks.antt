-- What is kept of the operands round a block while it is checked.
use Rattle.std.specs.Prelude.{length}
use Rattle.wasm_typing.specs.declared.operands.Outer.{Outer}
use Rattle.wasm_typing.specs.Operands.{Frames}

abbrev pub mark_of : Frames → Outer
mark_of s = record { height = length s.lower; is_unreachable = s.here.unreachable }
