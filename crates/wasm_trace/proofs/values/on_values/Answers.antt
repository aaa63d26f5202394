use Rattle.std.proofs.Common.{refl, subst}
use Rattle.wasm_ast.specs.declared.body.BranchTable.{BranchTable}
use Rattle.wasm_ast.specs.declared.trap.Trap.TheVariants as trap
use Rattle.wasm_ast.specs.Op as op
use Rattle.wasm_trace.specs.declared.parts.Front.TheVariants as front
use Rattle.wasm_trace.specs.declared.parts.Turn.TheVariants as turn
use Rattle.wasm_trace.specs.View.{OnStack}
use Rattle.wasm_trace.proofs.Plain.{no_other, turns, turns_ok}
use Rattle.wasm_trace.proofs.values.on_values.Goals as goal

pub returns-in-Unreachable : goal.returns-in-Unreachable
returns-in-Unreachable g c =
    turns g.H.Host.Records c.args.instr.now _ op.Unreachable c.args.stack.now.items c.args.stack.now.items c.in-Unreachable.is (λ _. refl) (turn.On
    (front.Trap trap.Unreachable)) (λ p f l w i. refl)

pub returns-in-Nop : goal.returns-in-Nop
returns-in-Nop g c =
    turns g.H.Host.Records c.args.instr.now _ op.Nop c.args.stack.now.items c.args.stack.now.items c.in-Nop.is (λ _. refl) (turn.On front.Nothing) (λ p f l w
    i. refl)

pub returns-in-BrIf : goal.returns-in-BrIf
returns-in-BrIf g c =
    turns g.H.Host.Records c.args.instr.now _ _ c.args.stack.now.items c.branch_if.new.stack.items c.in-BrIf.is (λ _. refl) c.branch_if.result
    c.branch_if.ensures

pub returns-in-Drop : goal.returns-in-Drop
returns-in-Drop g c =
    turns g.H.Host.Records c.args.instr.now _ _ c.args.stack.now.items c.discard.new.stack.items c.in-Drop.is (λ _. refl) c.discard.result c.discard.ensures

pub returns-in-BrTable : goal.returns-in-BrTable
returns-in-BrTable g c =
    turns g.H.Host.Records c.args.instr.now _ _ c.args.stack.now.items c.branch_table.new.stack.items c.in-BrTable.is (λ _. refl) c.branch_table.result
    (subst (λ (t : BranchTable). OnStack g.H.Host.Records (op.BrTable t.labels t.default) c.args.stack.now.items c.branch_table.new.stack.items
    c.branch_table.result) c.deref.ensures c.branch_table.ensures)

pub returns-in-Select : goal.returns-in-Select
returns-in-Select g c =
    turns_ok g.H.Host.Records c.args.instr.now _ _ c.args.stack.now.items c.select.new.stack.items c.in-Select.is (λ _. refl) c.select.result c.select.ensures

pub returns-in-LocalTee : goal.returns-in-LocalTee
returns-in-LocalTee g c =
    turns_ok g.H.Host.Records c.args.instr.now _ _ c.args.stack.now.items c.tee_local.new.stack.items c.in-LocalTee.is (λ _. refl) c.tee_local.result
    c.tee_local.ensures

pub returns-in-I32Const : goal.returns-in-I32Const
returns-in-I32Const g c =
    turns_ok g.H.Host.Records c.args.instr.now _ _ c.args.stack.now.items c.constant.new.stack.items c.in-I32Const.is (λ _. refl) c.constant.result
    c.constant.ensures

pub returns-in-I64Const : goal.returns-in-I64Const
returns-in-I64Const g c =
    turns_ok g.H.Host.Records c.args.instr.now _ _ c.args.stack.now.items c.constant-in-I64Const.new.stack.items c.in-I64Const.is (λ _. refl)
    c.constant-in-I64Const.result
    c.constant-in-I64Const.ensures

pub returns-in-I32Eqz : goal.returns-in-I32Eqz
returns-in-I32Eqz g c =
    turns_ok g.H.Host.Records c.args.instr.now _ _ c.args.stack.now.items c.eqz.new.stack.items c.in-I32Eqz.is (λ _. refl) c.eqz.result c.eqz.ensures

pub returns-in-I64Eqz : goal.returns-in-I64Eqz
returns-in-I64Eqz g c =
    turns_ok g.H.Host.Records c.args.instr.now _ _ c.args.stack.now.items c.eqz-in-I64Eqz.new.stack.items c.in-I64Eqz.is (λ _. refl) c.eqz-in-I64Eqz.result
    c.eqz-in-I64Eqz.ensures

pub returns-in-I32Compare : goal.returns-in-I32Compare
returns-in-I32Compare g c =
    turns_ok g.H.Host.Records c.args.instr.now _ _ c.args.stack.now.items c.compare.new.stack.items c.in-I32Compare.is (λ _. refl) c.compare.result
    c.compare.ensures

pub returns-in-I64Compare : goal.returns-in-I64Compare
returns-in-I64Compare g c =
    turns_ok g.H.Host.Records c.args.instr.now _ _ c.args.stack.now.items c.compare-in-I64Compare.new.stack.items c.in-I64Compare.is (λ _. refl)
    c.compare-in-I64Compare.result c.compare-in-I64Compare.ensures

pub returns-in-I32Unary : goal.returns-in-I32Unary
returns-in-I32Unary g c =
    turns_ok g.H.Host.Records c.args.instr.now _ _ c.args.stack.now.items c.unary.new.stack.items c.in-I32Unary.is (λ _. refl) c.unary.result c.unary.ensures

pub returns-in-I64Unary : goal.returns-in-I64Unary
returns-in-I64Unary g c =
    turns_ok g.H.Host.Records c.args.instr.now _ _ c.args.stack.now.items c.unary-in-I64Unary.new.stack.items c.in-I64Unary.is (λ _. refl)
    c.unary-in-I64Unary.result
    c.unary-in-I64Unary.ensures

pub returns-in-I32Binary : goal.returns-in-I32Binary
returns-in-I32Binary g c =
    turns_ok g.H.Host.Records c.args.instr.now _ _ c.args.stack.now.items c.binary.new.stack.items c.in-I32Binary.is (λ _. refl) c.binary.result
    c.binary.ensures

pub returns-in-I64Binary : goal.returns-in-I64Binary
returns-in-I64Binary g c =
    turns_ok g.H.Host.Records c.args.instr.now _ _ c.args.stack.now.items c.binary-in-I64Binary.new.stack.items c.in-I64Binary.is (λ _. refl)
    c.binary-in-I64Binary.result
    c.binary-in-I64Binary.ensures

pub returns-in-Convert : goal.returns-in-Convert
returns-in-Convert g c =
    turns_ok g.H.Host.Records c.args.instr.now _ _ c.args.stack.now.items c.convert.new.stack.items c.in-Convert.is (λ _. refl) c.convert.result
    c.convert.ensures

pub unreachable-requires : goal.unreachable-requires
unreachable-requires g c =
    no_other c.args.instr.now c.requires c.in_default.not-Unreachable c.in_default.not-Nop c.in_default.not-BrIf c.in_default.not-BrTable
    c.in_default.not-Drop c.in_default.not-Select c.in_default.not-LocalTee c.in_default.not-I32Const c.in_default.not-I64Const c.in_default.not-I32Eqz
    c.in_default.not-I64Eqz c.in_default.not-I32Compare c.in_default.not-I64Compare c.in_default.not-I32Unary c.in_default.not-I64Unary
    c.in_default.not-I32Binary c.in_default.not-I64Binary c.in_default.not-Convert
