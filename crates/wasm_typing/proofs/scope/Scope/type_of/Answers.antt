use Rattle.std.proofs.Common.{◌≡◌, ◌∙◌, Some, ap}
use Rattle.wasm_typing.specs.Typing.{at}
use Rattle.wasm_typing.proofs.Lists.{at_index, at_none}
use Rattle.wasm_typing.proofs.Types.{type_listed, type_unlisted}
use Rattle.wasm_typing.proofs.scope.Scope.type_of.Goals as goal

pub returns-in_default : goal.returns-in_default
returns-in_default c =
    let functions = c.args.self.now.functions.now in
    type_unlisted c.args.self.now.types.now functions c.args.function (at_none functions c.args.function c.in_default.ensures.lookup.3)

pub bounds-self-type_index : goal.bounds-self-type_index
bounds-self-type_index c =
    let found = c.in-Some.ensures.lookup in
    c.args.self.now.known c.args.function c.in-Some.type_index.now
    (at_index c.args.self.now.functions.now c.args.function c.in-Some.type_index.now found.3.0 found.1)

pub returns : goal.returns
returns c =
    let found = c.in-Some.ensures.lookup in
    let functions = c.args.self.now.functions.now in
    let listed : at functions c.args.function ≡ Some c.in-Some.type_index.now =
    at_index functions c.args.function c.in-Some.type_index.now found.3.0 found.1 in
    type_listed c.args.self.now.types.now functions c.args.function c.in-Some.type_index.now c.index-self-type_index.result
    c.args.self.now.known listed c.index-self-type_index.is ∙ ap Some c.index-self-type_index.is
