use Rattle.std.proofs.Common.{Some, sym, ap, ◌∙◌}
use Rattle.wasm_ast.specs.declared.types.ValueType.TheVariants as type
use Rattle.wasm_trace.specs.Names.{typed}
use Rattle.wasm_trace.proofs.Naming.{name_by}
use Rattle.wasm_trace.proofs.names.Mnemonic.of.Goals as goal

pub returns-in-Unreachable : goal.returns-in-Unreachable
returns-in-Unreachable c = name_by c.args.instr.now _ _ c.in-Unreachable.is (λ _. ap Some (sym c.bare.ensures))

pub returns-in-Nop : goal.returns-in-Nop
returns-in-Nop c = name_by c.args.instr.now _ _ c.in-Nop.is (λ _. ap Some (sym c.bare-in-Nop.ensures))

pub returns-in-Block : goal.returns-in-Block
returns-in-Block c = name_by c.args.instr.now _ _ c.in-Block.is (λ _. ap Some (sym c.bare-in-Block.ensures))

pub returns-in-Loop : goal.returns-in-Loop
returns-in-Loop c = name_by c.args.instr.now _ _ c.in-Loop.is (λ _. ap Some (sym c.of_loop.ensures))

pub returns-in-If : goal.returns-in-If
returns-in-If c = name_by c.args.instr.now _ _ c.in-If.is (λ _. ap Some (sym c.bare-in-If.ensures))

pub returns-in-Br : goal.returns-in-Br
returns-in-Br c = name_by c.args.instr.now _ _ c.in-Br.is (λ _. ap Some (sym c.bare-in-Br.ensures))

pub returns-in-BrIf : goal.returns-in-BrIf
returns-in-BrIf c = name_by c.args.instr.now _ _ c.in-BrIf.is (λ _. ap Some (sym c.bare-in-BrIf.ensures))

pub returns-in-BrTable : goal.returns-in-BrTable
returns-in-BrTable c = name_by c.args.instr.now _ _ c.in-BrTable.is (λ _. ap Some (sym c.bare-in-BrTable.ensures))

pub returns-in-Return : goal.returns-in-Return
returns-in-Return c = name_by c.args.instr.now _ _ c.in-Return.is (λ _. ap Some (sym c.bare-in-Return.ensures))

pub returns-in-Call : goal.returns-in-Call
returns-in-Call c = name_by c.args.instr.now _ _ c.in-Call.is (λ _. ap Some (sym c.bare-in-Call.ensures))

pub returns-in-CallIndirect : goal.returns-in-CallIndirect
returns-in-CallIndirect c = name_by c.args.instr.now _ _ c.in-CallIndirect.is (λ _. ap Some (sym c.bare-in-CallIndirect.ensures))

pub returns-in-Drop : goal.returns-in-Drop
returns-in-Drop c = name_by c.args.instr.now _ _ c.in-Drop.is (λ _. ap Some (sym c.bare-in-Drop.ensures))

pub returns-in-Select : goal.returns-in-Select
returns-in-Select c = name_by c.args.instr.now _ _ c.in-Select.is (λ _. ap Some (sym c.bare-in-Select.ensures))

pub returns-in-LocalGet : goal.returns-in-LocalGet
returns-in-LocalGet c = name_by c.args.instr.now _ _ c.in-LocalGet.is (λ _. ap Some (sym c.bare-in-LocalGet.ensures))

pub returns-in-LocalSet : goal.returns-in-LocalSet
returns-in-LocalSet c = name_by c.args.instr.now _ _ c.in-LocalSet.is (λ _. ap Some (sym c.bare-in-LocalSet.ensures))

pub returns-in-LocalTee : goal.returns-in-LocalTee
returns-in-LocalTee c = name_by c.args.instr.now _ _ c.in-LocalTee.is (λ _. ap Some (sym c.bare-in-LocalTee.ensures))

pub returns-in-GlobalGet : goal.returns-in-GlobalGet
returns-in-GlobalGet c = name_by c.args.instr.now _ _ c.in-GlobalGet.is (λ _. ap Some (sym c.bare-in-GlobalGet.ensures))

pub returns-in-GlobalSet : goal.returns-in-GlobalSet
returns-in-GlobalSet c = name_by c.args.instr.now _ _ c.in-GlobalSet.is (λ _. ap Some (sym c.bare-in-GlobalSet.ensures))

pub returns-in-MemorySize : goal.returns-in-MemorySize
returns-in-MemorySize c = name_by c.args.instr.now _ _ c.in-MemorySize.is (λ _. ap Some (sym c.bare-in-MemorySize.ensures))

pub returns-in-MemoryGrow : goal.returns-in-MemoryGrow
returns-in-MemoryGrow c = name_by c.args.instr.now _ _ c.in-MemoryGrow.is (λ _. ap Some (sym c.bare-in-MemoryGrow.ensures))

pub returns-in-Load : goal.returns-in-Load
returns-in-Load c = name_by c.args.instr.now _ _ c.in-Load.is (λ _. ap Some (sym (c.bare-in-Load.ensures ∙ c.load_name.ensures)))

pub returns-in-Store : goal.returns-in-Store
returns-in-Store c = name_by c.args.instr.now _ _ c.in-Store.is (λ _. ap Some (sym (c.bare-in-Store.ensures ∙ c.store_name.ensures)))

pub returns-in-Convert : goal.returns-in-Convert
returns-in-Convert c = name_by c.args.instr.now _ _ c.in-Convert.is (λ _. ap Some (sym (c.bare-in-Convert.ensures ∙ c.convert_name.ensures)))

pub returns-in-I32Const : goal.returns-in-I32Const
returns-in-I32Const c = name_by c.args.instr.now _ _ c.in-I32Const.is (λ _. ap Some (sym c.of_i32.ensures))

pub returns-in-I64Const : goal.returns-in-I64Const
returns-in-I64Const c = name_by c.args.instr.now _ _ c.in-I64Const.is (λ _. ap Some (sym c.of_i64.ensures))

pub returns-in-I32Eqz : goal.returns-in-I32Eqz
returns-in-I32Eqz c = name_by c.args.instr.now _ _ c.in-I32Eqz.is (λ _. ap Some (sym c.of_i32-in-I32Eqz.ensures))

pub returns-in-I64Eqz : goal.returns-in-I64Eqz
returns-in-I64Eqz c = name_by c.args.instr.now _ _ c.in-I64Eqz.is (λ _. ap Some (sym c.of_i64-in-I64Eqz.ensures))

pub returns-in-I32Compare : goal.returns-in-I32Compare
returns-in-I32Compare c =
    name_by c.args.instr.now _ _ c.in-I32Compare.is (λ _. ap Some (sym (c.of_i32-in-I32Compare.ensures ∙ ap (typed type.I32) c.compare_name.ensures)))

pub returns-in-I64Compare : goal.returns-in-I64Compare
returns-in-I64Compare c =
    name_by c.args.instr.now _ _ c.in-I64Compare.is (λ _. ap Some (sym (c.of_i64-in-I64Compare.ensures ∙ ap (typed type.I64) c.compare_name-in-I64Compare.ensures)))

pub returns-in-I32Unary : goal.returns-in-I32Unary
returns-in-I32Unary c =
    name_by c.args.instr.now _ _ c.in-I32Unary.is (λ _. ap Some (sym (c.of_i32-in-I32Unary.ensures ∙ ap (typed type.I32) c.unary_name.ensures)))

pub returns-in-I64Unary : goal.returns-in-I64Unary
returns-in-I64Unary c =
    name_by c.args.instr.now _ _ c.in-I64Unary.is (λ _. ap Some (sym (c.of_i64-in-I64Unary.ensures ∙ ap (typed type.I64) c.unary_name-in-I64Unary.ensures)))

pub returns-in-I32Binary : goal.returns-in-I32Binary
returns-in-I32Binary c =
    name_by c.args.instr.now _ _ c.in-I32Binary.is (λ _. ap Some (sym (c.of_i32-in-I32Binary.ensures ∙ ap (typed type.I32) c.binary_name.ensures)))

pub returns-in-I64Binary : goal.returns-in-I64Binary
returns-in-I64Binary c =
    name_by c.args.instr.now _ _ c.in-I64Binary.is (λ _. ap Some (sym (c.of_i64-in-I64Binary.ensures ∙ ap (typed type.I64) c.binary_name-in-I64Binary.ensures)))
