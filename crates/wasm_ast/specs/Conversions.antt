-- The types of conversions between the widths (Core 1.0, section 2.4.1).
use Rattle.wasm_ast.specs.declared.types.ValueType.{ValueType}
use Rattle.wasm_ast.specs.declared.types.ValueType.TheVariants.{I32, I64}
use Rattle.wasm_ast.specs.declared.operators.ConvertOp.{ConvertOp}
use Rattle.wasm_ast.specs.declared.operators.ConvertOp.TheVariants.{WrapI64, ExtendI32S, ExtendI32U}

-- the type that a conversion takes
abbrev pub operand_type : ConvertOp → ValueType
operand_type WrapI64 = I64
operand_type ExtendI32S = I32
operand_type ExtendI32U = I32

-- the type that it gives
abbrev pub result_type : ConvertOp → ValueType
result_type WrapI64 = I32
result_type ExtendI32S = I64
result_type ExtendI32U = I64
