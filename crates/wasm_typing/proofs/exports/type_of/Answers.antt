use Rattle.std.proofs.Common.{◌<◌, sym, subst, List, length}
use Rattle.wasm_ast.specs.declared.types.FuncType.{FuncType}
use Rattle.wasm_typing.proofs.Lists.{at_index}
use Rattle.wasm_typing.proofs.Types.{type_found, type_missing}
use Rattle.wasm_typing.proofs.exports.type_of.Goals as goal

pub returns-in_default : goal.returns-in_default
returns-in_default c =
    type_missing c.args.given.now c.args.functions.now c.args.function c.requires.indices c.in_default.ensures.lookup.3

pub bounds-as_slice-type_index : goal.bounds-as_slice-type_index
bounds-as_slice-type_index c =
    let found = c.in-Some.ensures.lookup in
    subst (λ (ts : List FuncType). c.in-Some.type_index.now < length ts) (sym c.as_slice.ensures)
    (c.requires.known c.args.function c.in-Some.type_index.now (at_index c.args.functions.now c.args.function c.in-Some.type_index.now found.3.0 found.1))

pub returns : goal.returns
returns c =
    let found = c.in-Some.ensures.lookup in
    type_found c.args.given.now c.args.functions.now c.as_slice.result.now c.args.function c.in-Some.type_index.now c.index-as_slice-type_index.result
    c.requires.indices c.requires.known c.as_slice.ensures found.3.0 found.1 c.index-as_slice-type_index.is
