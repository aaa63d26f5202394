use Rattle.std.proofs.Common.{◌∙◌, ap, arith}
use Rattle.wasm_ast.specs.Code.{code_size}
use Rattle.wasm_typing.proofs.Instructions.{counted}
use Rattle.wasm_typing.proofs.Constants.{i32_found, i32_apart, i64_found, i64_apart}
use Rattle.wasm_typing.proofs.globals.constant_of.Goals as goal

pub returns-in_default-3-clause-constant : goal.returns-in_default-3-clause-constant
returns-in_default-3-clause-constant c n e =
    omega (arith, counted c.items.result.now, ap code_size (c.items.ensures ∙ e))

pub returns-in_default-2-clause-constant : goal.returns-in_default-2-clause-constant
returns-in_default-2-clause-constant c n e =
    i32_apart c.items.result.now c.instr-item.result c.args.body.now c.in-len1.len_at_least c.in-len1.len_below c.instr-item.is c.items.ensures
    c.in_default-2.field-0-0 n c.args.of_type c.in_default-2.is-0 c.in_default-2.is-1 e

pub returns-in_default-2-2-clause-constant : goal.returns-in_default-2-2-clause-constant
returns-in_default-2-2-clause-constant c n e =
    i64_apart c.items.result.now c.instr-item.result c.args.body.now c.in-len1.len_at_least c.in-len1.len_below c.instr-item.is c.items.ensures
    c.in_default-2.field-0-0 n c.args.of_type c.in_default-2.is-0 c.in_default-2.is-1 e

pub returns-in-I32Const-I32-clause-constant : goal.returns-in-I32Const-I32-clause-constant
returns-in-I32Const-I32-clause-constant c =
    i32_found c.items.result.now c.instr-item.result c.args.body.now c.in-len1.len_at_least c.in-len1.len_below c.instr-item.is c.items.ensures
    c.in-I32Const-I32.word c.args.of_type c.in-I32Const-I32.is-0 c.in-I32Const-I32.is-1

pub returns-in-I64Const-I64-clause-constant : goal.returns-in-I64Const-I64-clause-constant
returns-in-I64Const-I64-clause-constant c =
    i64_found c.items.result.now c.instr-item.result c.args.body.now c.in-len1.len_at_least c.in-len1.len_below c.instr-item.is c.items.ensures
    c.in-I64Const-I64.word c.args.of_type c.in-I64Const-I64.is-0 c.in-I64Const-I64.is-1
