use Rattle.std.proofs.Common.{◌≡◌, ◌++◌, ◌∙◌, ap, length, reverse, take}
use Rattle.wasm_typing.specs.Operands.{Frames}
use Rattle.wasm_typing.proofs.Heights.{all_are_parts}
use Rattle.wasm_typing.proofs.operands.OperandStack.enter.Goals as goal

pub returns-clause-lower : goal.returns-clause-lower
returns-clause-lower c =
    let types = c.self.inside.types in
    let all : c.len-self-inside.result ≡ length types.items = c.len-self-inside.ensures ∙ types.ok.0 in
    ap (λ n. reverse (take n types.items)) all ∙ all_are_parts c.self.inside.height types.items ∙ ap (λ (s : Frames). s.here.types ++ s.lower) c.self.view_is
