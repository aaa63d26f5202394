use Rattle.std.proofs.Common.{◌∙◌, ap, sym, true≢false}
use Rattle.std.proofs.lemmas.Result.{MatchResult-weaker}
use Rattle.wasm_typing.specs.Inside.{context_of}
use Rattle.wasm_typing.specs.Plain.{is_plain}
use Rattle.wasm_typing.proofs.PlainInstructions.{keeps_all, plain_keeps, plain_refused}
use Rattle.wasm_typing.proofs.plain.check_plain.Goals as goal

pub unreachable-requires : goal.unreachable-requires
unreachable-requires c = true≢false (sym c.requires ∙ ap is_plain c.in-Block.is)

pub unreachable-requires-in-Loop : goal.unreachable-requires-in-Loop
unreachable-requires-in-Loop c = true≢false (sym c.requires ∙ ap is_plain c.in-Loop.is)

pub unreachable-requires-in-If : goal.unreachable-requires-in-If
unreachable-requires-in-If c = true≢false (sym c.requires ∙ ap is_plain c.in-If.is)

pub returns-in-Unreachable-clause-mistyped : goal.returns-in-Unreachable-clause-mistyped
returns-in-Unreachable-clause-mistyped c =
    plain_keeps (context_of c.args.scope.now c.args.labels.now) c.args.instr.now c.args.stack.now.here c.check_unreachable.result
    (ap keeps_all c.in-Unreachable.is)

pub returns-in-Drop-clause-mistyped : goal.returns-in-Drop-clause-mistyped
returns-in-Drop-clause-mistyped c =
    plain_keeps (context_of c.args.scope.now c.args.labels.now) c.args.instr.now c.args.stack.now.here c.check_drop.result
    (ap keeps_all c.in-Drop.is)

pub returns-in-Select-clause-mistyped : goal.returns-in-Select-clause-mistyped
returns-in-Select-clause-mistyped c =
    plain_keeps (context_of c.args.scope.now c.args.labels.now) c.args.instr.now c.args.stack.now.here c.check_select.result
    (ap keeps_all c.in-Select.is)

pub returns-in-I32Const-clause-mistyped : goal.returns-in-I32Const-clause-mistyped
returns-in-I32Const-clause-mistyped c =
    plain_keeps (context_of c.args.scope.now c.args.labels.now) c.args.instr.now c.args.stack.now.here c.check_constant.result
    (ap keeps_all c.in-I32Const.is)

pub returns-in-I64Const-clause-mistyped : goal.returns-in-I64Const-clause-mistyped
returns-in-I64Const-clause-mistyped c =
    plain_keeps (context_of c.args.scope.now c.args.labels.now) c.args.instr.now c.args.stack.now.here c.check_constant-in-I64Const.result
    (ap keeps_all c.in-I64Const.is)

pub returns-in-I32Eqz-clause-mistyped : goal.returns-in-I32Eqz-clause-mistyped
returns-in-I32Eqz-clause-mistyped c =
    plain_keeps (context_of c.args.scope.now c.args.labels.now) c.args.instr.now c.args.stack.now.here c.check_one.result
    (ap keeps_all c.in-I32Eqz.is)

pub returns-in-I64Eqz-clause-mistyped : goal.returns-in-I64Eqz-clause-mistyped
returns-in-I64Eqz-clause-mistyped c =
    plain_keeps (context_of c.args.scope.now c.args.labels.now) c.args.instr.now c.args.stack.now.here c.check_one-in-I64Eqz.result
    (ap keeps_all c.in-I64Eqz.is)

pub returns-in-I32Unary-clause-mistyped : goal.returns-in-I32Unary-clause-mistyped
returns-in-I32Unary-clause-mistyped c =
    plain_keeps (context_of c.args.scope.now c.args.labels.now) c.args.instr.now c.args.stack.now.here c.check_one-in-I32Unary.result
    (ap keeps_all c.in-I32Unary.is)

pub returns-in-I64Unary-clause-mistyped : goal.returns-in-I64Unary-clause-mistyped
returns-in-I64Unary-clause-mistyped c =
    plain_keeps (context_of c.args.scope.now c.args.labels.now) c.args.instr.now c.args.stack.now.here c.check_one-in-I64Unary.result
    (ap keeps_all c.in-I64Unary.is)

pub returns-in-I32Compare-clause-mistyped : goal.returns-in-I32Compare-clause-mistyped
returns-in-I32Compare-clause-mistyped c =
    plain_keeps (context_of c.args.scope.now c.args.labels.now) c.args.instr.now c.args.stack.now.here c.check_two.result
    (ap keeps_all c.in-I32Compare.is)

pub returns-in-I64Compare-clause-mistyped : goal.returns-in-I64Compare-clause-mistyped
returns-in-I64Compare-clause-mistyped c =
    plain_keeps (context_of c.args.scope.now c.args.labels.now) c.args.instr.now c.args.stack.now.here c.check_two-in-I64Compare.result
    (ap keeps_all c.in-I64Compare.is)

pub returns-in-I32Binary-clause-mistyped : goal.returns-in-I32Binary-clause-mistyped
returns-in-I32Binary-clause-mistyped c =
    plain_keeps (context_of c.args.scope.now c.args.labels.now) c.args.instr.now c.args.stack.now.here c.check_two-in-I32Binary.result
    (ap keeps_all c.in-I32Binary.is)

pub returns-in-I64Binary-clause-mistyped : goal.returns-in-I64Binary-clause-mistyped
returns-in-I64Binary-clause-mistyped c =
    plain_keeps (context_of c.args.scope.now c.args.labels.now) c.args.instr.now c.args.stack.now.here c.check_two-in-I64Binary.result
    (ap keeps_all c.in-I64Binary.is)

pub returns-in-Convert-clause-mistyped : goal.returns-in-Convert-clause-mistyped
returns-in-Convert-clause-mistyped c =
    plain_keeps (context_of c.args.scope.now c.args.labels.now) c.args.instr.now c.args.stack.now.here c.check_convert.result
    (ap keeps_all c.in-Convert.is)

pub returns-in-Drop-clause-refused : goal.returns-in-Drop-clause-refused
returns-in-Drop-clause-refused c =
    plain_refused (context_of c.args.scope.now c.args.labels.now) c.args.instr.now _ c.args.stack.now.here c.check_drop.result c.in-Drop.is
    c.check_drop.ensures.refused

pub returns-in-Select-clause-refused : goal.returns-in-Select-clause-refused
returns-in-Select-clause-refused c =
    plain_refused (context_of c.args.scope.now c.args.labels.now) c.args.instr.now _ c.args.stack.now.here c.check_select.result c.in-Select.is
    c.check_select.ensures.refused

pub returns-in-I32Eqz-clause-refused : goal.returns-in-I32Eqz-clause-refused
returns-in-I32Eqz-clause-refused c =
    plain_refused (context_of c.args.scope.now c.args.labels.now) c.args.instr.now _ c.args.stack.now.here c.check_one.result c.in-I32Eqz.is
    c.check_one.ensures.refused

pub returns-in-I64Eqz-clause-refused : goal.returns-in-I64Eqz-clause-refused
returns-in-I64Eqz-clause-refused c =
    plain_refused (context_of c.args.scope.now c.args.labels.now) c.args.instr.now _ c.args.stack.now.here c.check_one-in-I64Eqz.result c.in-I64Eqz.is
    c.check_one-in-I64Eqz.ensures.refused

pub returns-in-I32Unary-clause-refused : goal.returns-in-I32Unary-clause-refused
returns-in-I32Unary-clause-refused c =
    plain_refused (context_of c.args.scope.now c.args.labels.now) c.args.instr.now _ c.args.stack.now.here c.check_one-in-I32Unary.result c.in-I32Unary.is
    c.check_one-in-I32Unary.ensures.refused

pub returns-in-I64Unary-clause-refused : goal.returns-in-I64Unary-clause-refused
returns-in-I64Unary-clause-refused c =
    plain_refused (context_of c.args.scope.now c.args.labels.now) c.args.instr.now _ c.args.stack.now.here c.check_one-in-I64Unary.result c.in-I64Unary.is
    c.check_one-in-I64Unary.ensures.refused

pub returns-in-I32Compare-clause-refused : goal.returns-in-I32Compare-clause-refused
returns-in-I32Compare-clause-refused c =
    plain_refused (context_of c.args.scope.now c.args.labels.now) c.args.instr.now _ c.args.stack.now.here c.check_two.result c.in-I32Compare.is
    c.check_two.ensures.refused

pub returns-in-I64Compare-clause-refused : goal.returns-in-I64Compare-clause-refused
returns-in-I64Compare-clause-refused c =
    plain_refused (context_of c.args.scope.now c.args.labels.now) c.args.instr.now _ c.args.stack.now.here c.check_two-in-I64Compare.result c.in-I64Compare.is
    c.check_two-in-I64Compare.ensures.refused

pub returns-in-I32Binary-clause-refused : goal.returns-in-I32Binary-clause-refused
returns-in-I32Binary-clause-refused c =
    plain_refused (context_of c.args.scope.now c.args.labels.now) c.args.instr.now _ c.args.stack.now.here c.check_two-in-I32Binary.result c.in-I32Binary.is
    c.check_two-in-I32Binary.ensures.refused

pub returns-in-I64Binary-clause-refused : goal.returns-in-I64Binary-clause-refused
returns-in-I64Binary-clause-refused c =
    plain_refused (context_of c.args.scope.now c.args.labels.now) c.args.instr.now _ c.args.stack.now.here c.check_two-in-I64Binary.result c.in-I64Binary.is
    c.check_two-in-I64Binary.ensures.refused

pub returns-in-Convert-clause-refused : goal.returns-in-Convert-clause-refused
returns-in-Convert-clause-refused c =
    plain_refused (context_of c.args.scope.now c.args.labels.now) c.args.instr.now _ c.args.stack.now.here c.check_convert.result c.in-Convert.is
    c.check_convert.ensures.refused

pub returns-in-I32Const-clause-refused : goal.returns-in-I32Const-clause-refused
returns-in-I32Const-clause-refused c =
    MatchResult-weaker c.check_constant.result c.check_constant.ensures.refused (λ x k. k) (λ e is. rw is tt)

pub returns-in-I64Const-clause-refused : goal.returns-in-I64Const-clause-refused
returns-in-I64Const-clause-refused c =
    MatchResult-weaker c.check_constant-in-I64Const.result c.check_constant-in-I64Const.ensures.refused (λ x k. k) (λ e is. rw is tt)
