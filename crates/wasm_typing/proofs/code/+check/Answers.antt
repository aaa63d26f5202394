use Rattle.std.proofs.Common.{◌≡◌, List, ◌∷◌, ap, ◌∙◌, subst, drop, length, Option, Some, arith, rules}
use Rattle.std.specs.Prelude.{◌⊎◌}
use Rattle.std.proofs.lemmas.List.{length-append}
use Rattle.std.proofs.lemmas.Result.{MatchResult-weaker, err_from_is_err_and}
use Rattle.wasm_ast.specs.declared.types.ValueType.{ValueType}
use Rattle.wasm_ast.specs.declared.types.ValueType.TheVariants.{I32}
use Rattle.wasm_ast.specs.Code.{BlockType, code_size, End}
use Rattle.wasm_typing.specs.Typing.{Context, under}
use Rattle.wasm_ast.specs.View.{then_code, code_of}
use Rattle.wasm_typing.specs.Operands.{then, pop_as, push_result, no_operands}
use Rattle.wasm_typing.specs.Algorithm.{check, whole_body, instruction}
use Rattle.wasm_typing.specs.Breaks.{BreaksIn, BreaksInstr}
use Rattle.wasm_typing.specs.Refused.{Refused}
use Rattle.wasm_typing.specs.declared.operands.Outer.{Outer}
use Rattle.wasm_typing.specs.Inside.{context_of}
use Rattle.wasm_typing.proofs.PlainInstructions.{plain_unless}
use Rattle.wasm_typing.proofs.Instructions.{item_size, check_next, refused_next}
use Rattle.wasm_typing.specs.Mistyped.{Mismatch, Mistyped, MistypedFirst}
use Rattle.wasm_typing.proofs.Fronts.{mistyped_next, mistyped_refused}
use Rattle.wasm_typing.proofs.Parts.{whole_ok, refused_before, refused_yes, refused_no, refused_end}
use Rattle.wasm_typing.proofs.Parts.{mistyped_operand, mistyped_yes, mistyped_no, mistyped_whole}
use Rattle.wasm_typing.proofs.code.+check.Goals as goal

pub check_body-check_instr-requires : goal.check_body-check_instr-requires
check_body-check_instr-requires t c = (
  omega (
    arith,
    c.decreases,
    item_size c.loop-instr.instr-index c.items-instr-items.result.now c.instr-item.result c.loop-instr-test.true c.instr-item.is,
    ap code_size c.items-instr-items.ensures,
  ),
  tt,
)

pub check_body-returns-in_err-check_instr-clause-refused :
    goal.check_body-returns-in_err-check_instr-clause-refused
check_body-returns-in_err-check_instr-clause-refused t c =
    let p = err_from_is_err_and c.from_residual-in_err-check_instr.result c.from_residual-in_err-check_instr.ensures.1 in
    let e : c.enter.new.self ≡ c.args.carried ∷ c.args.labels.now = c.in_ok-enter.ensures.ok in
    let inv = c.loop-instr.invariant in
    let checked = subst (λ ls.
    check (context_of c.args.scope.now ls) (code_of (drop c.loop-instr.instr-index c.items-instr-items.result.now)) c.loop-instr.stack.here ≡
    check (context_of c.args.scope.now ls) c.args.body.now no_operands) e inv.checked in
    let refused = subst (λ ls.
    Refused c.in_err-check_instr.field-0.0 (BreaksInstr c.in_err-check_instr.field-0.0 (context_of c.args.scope.now ls) c.instr-item.result)
    (instruction (context_of c.args.scope.now ls) c.instr-item.result c.loop-instr.stack.here)) (inv.labels ∙ e) c.in_err-check_instr.ensures.refused in
    rw (p.1, p.2) (refused_next (context_of c.args.scope.now (c.args.carried ∷ c.args.labels.now)) c.args.left c.args.body.now c.loop-instr.instr-index
    c.items-instr-items.result.now c.instr-item.result c.loop-instr.stack.here c.in_err-check_instr.field-0.0 c.items-instr-items.ensures
    c.loop-instr-test.true c.instr-item.is checked refused)

pub check_body-returns-in_err-check_instr-clause-mistyped :
    goal.check_body-returns-in_err-check_instr-clause-mistyped
check_body-returns-in_err-check_instr-clause-mistyped t c =
    let p = err_from_is_err_and c.from_residual-in_err-check_instr.result c.from_residual-in_err-check_instr.ensures.1 in
    let e : c.enter.new.self ≡ c.args.carried ∷ c.args.labels.now = c.in_ok-enter.ensures.ok in
    let inv = c.loop-instr.invariant in
    let f = c.in_err-check_instr.field-0.0 in
    let x = c.instr-item.result in
    let here = c.loop-instr.stack.here in
    let rest = code_of (drop c.loop-instr.instr-index c.items-instr-items.result.now) in
    let context : List BlockType → Context = λ ls. context_of c.args.scope.now ls in
    let part = subst (λ ls. Mistyped (context ls) c.args.left rest here → Mistyped (context ls) c.args.left c.args.body.now no_operands) e inv.mistyped in
    let refused = subst (λ ls. Refused f (BreaksInstr f (context ls) x) (instruction (context ls) x here)) (inv.labels ∙ e) c.in_err-check_instr.ensures.refused
    in
    let mistyped = subst (λ ls. Mismatch f (MistypedFirst (context ls) (then_code x End) here)) (inv.labels ∙ e) c.in_err-check_instr.ensures.mistyped in
    rw (p.1, p.2) (mistyped_refused (context (c.args.carried ∷ c.args.labels.now)) c.args.left c.args.body.now c.loop-instr.instr-index
    c.items-instr-items.result.now x here f c.loop-instr-test.true c.instr-item.is part refused mistyped)

pub check_body-loop-instr-preserved : goal.check_body-loop-instr-preserved
check_body-loop-instr-preserved t c =
    let inv = c.loop-instr.invariant in
    let new = subst (λ ls. instruction (context_of c.args.scope.now ls) c.instr-item.result c.loop-instr.stack.here ≡ Some c.check_instr.new.stack.here)
    inv.labels c.in_ok-check_instr.ensures.ok in
    record {
      labels = c.in_ok-check_instr.ensures.labels ∙ inv.labels;
      lower = c.in_ok-check_instr.ensures.lower ∙ inv.lower;
      checked = check_next (context_of c.args.scope.now c.enter.new.self) c.loop-instr.instr-index c.items-instr-items.result.now c.instr-item.result
          c.loop-instr.stack.here c.check_instr.new.stack.here c.loop-instr-test.true c.instr-item.is new ∙ inv.checked;
      mistyped = λ m. inv.mistyped
          (mistyped_next (context_of c.args.scope.now c.enter.new.self) c.args.left c.loop-instr.instr-index c.items-instr-items.result.now c.instr-item.result
          c.loop-instr.stack.here c.check_instr.new.stack.here c.loop-instr-test.true c.instr-item.is new m);
    }

pub check_instr-check_plain-requires : goal.check_instr-check_plain-requires
check_instr-check_plain-requires t c =
    plain_unless c.args.instr.now c.in_default.not-Block c.in_default.not-Loop c.in_default.not-If

pub check_if-returns-clause-ok : goal.check_if-returns-clause-ok
check_if-returns-clause-ok t c = search rules

pub check_body-returns-in_err-finish-clause-refused : goal.check_body-returns-in_err-finish-clause-refused
check_body-returns-in_err-finish-clause-refused t c =
    let p = err_from_is_err_and c.from_residual-in_err-finish.result c.from_residual-in_err-finish.ensures.1 in
    let e : c.enter.new.self ≡ c.args.carried ∷ c.args.labels.now = c.in_ok-enter.ensures.ok in
    let items = c.items-instr-items.result.now in
    let checked = subst (λ ls.
    check (context_of c.args.scope.now ls) (code_of (drop c.loop-instr.instr-index items)) c.loop-instr.stack.here ≡
    check (context_of c.args.scope.now ls) c.args.body.now no_operands) e c.loop-instr.invariant.checked in
    rw (p.1, p.2) (refused_end (context_of c.args.scope.now (c.args.carried ∷ c.args.labels.now)) c.args.left c.args.body.now c.loop-instr.instr-index items
    c.loop-instr.stack.here c.in_err-finish.field-0.0 c.loop-instr-test.false checked c.in_err-finish.ensures.refused)

pub check_body-returns-in_err-finish-clause-mistyped : goal.check_body-returns-in_err-finish-clause-mistyped
check_body-returns-in_err-finish-clause-mistyped t c =
    let p = err_from_is_err_and c.from_residual-in_err-finish.result c.from_residual-in_err-finish.ensures.1 in
    let e : c.enter.new.self ≡ c.args.carried ∷ c.args.labels.now = c.in_ok-enter.ensures.ok in
    let items = c.items-instr-items.result.now in
    let here = c.loop-instr.stack.here in
    let context : List BlockType → Context = λ ls. context_of c.args.scope.now ls in
    let part = subst (λ ls. Mistyped (context ls) c.args.left (code_of (drop c.loop-instr.instr-index items)) here →
    Mistyped (context ls) c.args.left c.args.body.now no_operands) e c.loop-instr.invariant.mistyped in
    rw (p.1, p.2) (mistyped_whole (context (c.args.carried ∷ c.args.labels.now)) c.args.left c.args.body.now c.loop-instr.instr-index items here
    c.in_err-finish.field-0.0 c.loop-instr-test.false part c.in_err-finish.ensures.refused)

pub check_block-returns-in_err-check_body-clause-refused : goal.check_block-returns-in_err-check_body-clause-refused
check_block-returns-in_err-check_body-clause-refused t c =
    let p = err_from_is_err_and c.from_residual.result c.from_residual.ensures.1 in
    let fault = c.in_err-check_body.field-0.0 in
    let block = c.args.block.now in
    let context = under c.args.carried (context_of c.args.scope.now c.args.labels.now) in
    rw (p.1, p.2) (refused_before fault (BreaksIn fault context block.body) (BreaksIn fault context block.body) (whole_body context block.result block.body)
    (λ _. Some (push_result block.result c.args.stack.now.here)) (λ h. h) c.in_err-check_body.ensures.refused)

pub check_if-returns-in_err-pop_as-clause-refused : goal.check_if-returns-in_err-pop_as-clause-refused
check_if-returns-in_err-pop_as-clause-refused t c =
    let p = err_from_is_err_and c.from_residual.result c.from_residual.ensures.1 in
    let fault = c.in_err-pop_as.field-0.0 in
    let choice = c.args.choice.now in
    let context = under choice.result (context_of c.args.scope.now c.args.labels.now) in
    rw (p.1, p.2) (refused_before fault ⊥ (BreaksIn fault context choice.yes ⊎ BreaksIn fault context choice.no) (pop_as I32 c.args.stack.now.here)
    (λ s. then (whole_body context choice.result choice.yes) (λ _. then (whole_body context choice.result choice.no) (λ _. Some (push_result choice.result s))))
    (λ h. absurd h) c.in_err-pop_as.ensures.refused)

pub check_if-returns-in_err-pop_as-clause-mistyped : goal.check_if-returns-in_err-pop_as-clause-mistyped
check_if-returns-in_err-pop_as-clause-mistyped t c =
    let p = err_from_is_err_and c.from_residual.result c.from_residual.ensures.1 in
    let choice = c.args.choice.now in
    rw (p.1, p.2) (mistyped_operand c.in_err-pop_as.field-0.0 (context_of c.args.scope.now c.args.labels.now) choice.result choice.yes choice.no
    c.args.stack.now.here c.in_err-pop_as.ensures.refused)

pub check_if-returns-in_err-check_body-clause-refused : goal.check_if-returns-in_err-check_body-clause-refused
check_if-returns-in_err-check_body-clause-refused t c =
    let p = err_from_is_err_and c.from_residual-in_err-check_body.result c.from_residual-in_err-check_body.ensures.1 in
    let choice = c.args.choice.now in
    rw (p.1, p.2) (refused_yes (context_of c.args.scope.now c.args.labels.now) choice.result choice.yes choice.no c.args.stack.now.here
    c.pop_as.new.self.here c.in_ok-pop_as.ensures.ok c.in_err-check_body.field-0.0 c.in_err-check_body.ensures.refused)

pub check_if-returns-in_err-check_body-clause-mistyped : goal.check_if-returns-in_err-check_body-clause-mistyped
check_if-returns-in_err-check_body-clause-mistyped t c =
    let p = err_from_is_err_and c.from_residual-in_err-check_body.result c.from_residual-in_err-check_body.ensures.1 in
    let choice = c.args.choice.now in
    rw (p.1, p.2) (mistyped_yes c.in_err-check_body.field-0.0 (context_of c.args.scope.now c.args.labels.now) choice.result choice.yes choice.no
    c.args.stack.now.here c.in_err-check_body.ensures.mistyped)

pub check_if-returns-in_err-check_body-2-clause-refused : goal.check_if-returns-in_err-check_body-2-clause-refused
check_if-returns-in_err-check_body-2-clause-refused t c =
    let p = err_from_is_err_and c.from_residual-in_err-check_body-2.result c.from_residual-in_err-check_body-2.ensures.1 in
    let fault = c.in_err-check_body-2.field-0.0 in
    let choice = c.args.choice.now in
    let inside : List BlockType → Context = λ ls. under choice.result (context_of c.args.scope.now ls) in
    let refused = subst (λ ls. Refused fault (BreaksIn fault (inside ls) choice.no) (whole_body (inside ls) choice.result choice.no))
    c.in_ok-check_body.ensures.labels c.in_err-check_body-2.ensures.refused in
    rw (p.1, p.2) (refused_no (context_of c.args.scope.now c.args.labels.now) choice.result choice.yes choice.no c.args.stack.now.here
    c.pop_as.new.self.here c.in_ok-pop_as.ensures.ok fault refused)

pub check_if-returns-in_err-check_body-2-clause-mistyped : goal.check_if-returns-in_err-check_body-2-clause-mistyped
check_if-returns-in_err-check_body-2-clause-mistyped t c =
    let p = err_from_is_err_and c.from_residual-in_err-check_body-2.result c.from_residual-in_err-check_body-2.ensures.1 in
    let fault = c.in_err-check_body-2.field-0.0 in
    let choice = c.args.choice.now in
    let inside : List BlockType → Context = λ ls. under choice.result (context_of c.args.scope.now ls) in
    let mistyped = subst (λ ls. Mismatch fault (Mistyped (inside ls) choice.result choice.no no_operands))
    c.in_ok-check_body.ensures.labels c.in_err-check_body-2.ensures.mistyped in
    rw (p.1, p.2) (mistyped_no fault (context_of c.args.scope.now c.args.labels.now) choice.result choice.yes choice.no c.args.stack.now.here
    c.in_ok-check_body.ensures.ok mistyped)

pub check_body-exit-requires : goal.check_body-exit-requires
check_body-exit-requires t c =
    let height = ap (λ (o : Outer). o.height) c.enter-outer.ensures.outer in
    let lower = ap (λ (ts : List (Option ValueType)). length ts)
    (c.in_ok-finish.ensures.lower ∙ c.loop-instr.invariant.lower ∙ c.enter-outer.ensures.lower) in
    omega (arith, height, lower, length-append c.args.stack.now.here.types c.args.stack.now.lower)

pub check_body-returns-clause-ok : goal.check_body-returns-clause-ok
check_body-returns-clause-ok t c =
    let e : c.enter.new.self ≡ c.args.carried ∷ c.args.labels.now = c.in_ok-enter.ensures.ok in
    let items = c.items-instr-items.result.now in
    let checked = subst (λ ls.
    check (context_of c.args.scope.now ls) (code_of (drop c.loop-instr.instr-index items)) c.loop-instr.stack.here ≡
    check (context_of c.args.scope.now ls) c.args.body.now no_operands) e c.loop-instr.invariant.checked in
    whole_ok (context_of c.args.scope.now (c.args.carried ∷ c.args.labels.now)) c.args.left c.args.body.now c.loop-instr.instr-index items
    c.loop-instr.stack.here _ c.loop-instr-test.false checked c.in_ok-finish.ensures.ok

pub check_body-returns-in_err-enter-clause-refused : goal.check_body-returns-in_err-enter-clause-refused
check_body-returns-in_err-enter-clause-refused t c =
    let p = err_from_is_err_and c.from_residual.result c.from_residual.ensures.1 in
    rw (p.1, p.2, c.in_err-enter.ensures.refused) tt

pub check_body-returns-in_err-enter-clause-mistyped : goal.check_body-returns-in_err-enter-clause-mistyped
check_body-returns-in_err-enter-clause-mistyped t c =
    let p = err_from_is_err_and c.from_residual.result c.from_residual.ensures.1 in
    rw (p.1, p.2, c.in_err-enter.ensures.refused) tt

pub check_block-returns-clause-refused : goal.check_block-returns-clause-refused
check_block-returns-clause-refused t c = MatchResult-weaker c.push_result.result c.push_result.ensures.refused (λ x k. k) (λ e is. rw is tt)

pub check_block-returns-clause-mistyped : goal.check_block-returns-clause-mistyped
check_block-returns-clause-mistyped t c = MatchResult-weaker c.push_result.result c.push_result.ensures.refused (λ x k. k) (λ e is. rw is tt)

pub check_if-returns-clause-refused : goal.check_if-returns-clause-refused
check_if-returns-clause-refused t c = MatchResult-weaker c.push_result.result c.push_result.ensures.refused (λ x k. k) (λ e is. rw is tt)

pub check_if-returns-clause-mistyped : goal.check_if-returns-clause-mistyped
check_if-returns-clause-mistyped t c = MatchResult-weaker c.push_result.result c.push_result.ensures.refused (λ x k. k) (λ e is. rw is tt)
