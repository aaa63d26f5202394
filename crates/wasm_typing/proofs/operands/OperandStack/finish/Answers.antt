use Rattle.std.proofs.Common.{◌<◌, ◌≤◌, ap, length, arith}
use Rattle.std.proofs.lemmas.Result.{err_from_is_err_and}
use Rattle.wasm_typing.specs.Operands.{Frames, if_true, is_none, pop_result}
use Rattle.wasm_typing.proofs.Heights.{finish_even, finish_over}
use Rattle.wasm_typing.proofs.Parts.{refused_before}
use Rattle.wasm_typing.proofs.operands.OperandStack.finish.Goals as goal

pub returns-in_err-pop_result-clause-refused : goal.returns-in_err-pop_result-clause-refused
returns-in_err-pop_result-clause-refused c =
    let p = err_from_is_err_and c.from_residual.result c.from_residual.ensures.1 in
    rw (p.1, p.2) (refused_before c.in_err-pop_result.field-0.0 ⊥ ⊥ (pop_result c.args.left c.args.self.now.here) (λ s. if_true (is_none s.types) s) (λ h. h)
    c.in_err-pop_result.ensures.refused)

pub returns-then-len-self-clause-refused : goal.returns-then-len-self-clause-refused
returns-then-len-self-clause-refused c =
    let types = c.self.inside.types in
    let over : c.self.inside.height < length types.items = omega (arith, types.ok.0) in
    finish_over c.args.left c.args.self.now.here c.pop_result.new.self.here c.self.inside.height types.items c.in_ok-pop_result.ensures.ok
    (ap (λ (s : Frames). s.here.types) c.self.view_is) over

pub returns-clause-ok : goal.returns-clause-ok
returns-clause-ok c =
    let types = c.self.inside.types in
    let even : length types.items ≤ c.self.inside.height = omega (arith, types.ok.0) in
    finish_even c.args.left c.args.self.now.here c.pop_result.new.self.here c.self.inside.height types.items c.in_ok-pop_result.ensures.ok
    (ap (λ (s : Frames). s.here.types) c.self.view_is) even
