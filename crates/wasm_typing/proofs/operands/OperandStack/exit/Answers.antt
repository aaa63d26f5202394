use Rattle.std.proofs.Common.{◌∙◌, ap, reverse}
use Rattle.wasm_typing.specs.Operands.{Frames}
use Rattle.wasm_typing.proofs.Heights.{frames_back}
use Rattle.wasm_typing.proofs.operands.OperandStack.exit.Goals as goal

pub returns : goal.returns
returns c s outer below =
    let items = c.truncate.new.self.items in
    frames_back s c.args.outer items outer (ap reverse c.truncate.ensures.items ∙ ap (λ (s : Frames). s.lower) c.self.view_is ∙ below)
