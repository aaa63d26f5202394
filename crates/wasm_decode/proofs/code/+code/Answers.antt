use Rattle.std.proofs.Common.{◌≡◌, suc, ◌-◌, inl, inr, true, [], ◌∷◌, Some, None, refl, sym, ap, ◌∙◌, arith, rules}
use Rattle.std.proofs.lemmas.Result.{err_from_is_err_and}
use Rattle.grammar.specs.Reading.{byte_at}
use Rattle.wasm_ast.specs.View.{code_of}
use Rattle.wasm_decode.specs.CodeReading.{before, block_at, conditional_at, step_at, code_at, body_at, below, is_last}
use Rattle.wasm_decode.proofs.Loop.{Fails-weaker, differs}
use Rattle.wasm_decode.proofs.Turns.{code_of-append, body_is, below_is, no_block, nothing_before, no_opcode, is_over, too_many, no_step, turn}
use Rattle.wasm_decode.proofs.FaultLaws.{has_byte, else_unlisted, else_of_no_float}
use Rattle.wasm_decode.proofs.code.+code.Goals as goal
use Rattle.wasm_decode.proofs.code.+code.Goals.{instructions-then-opcode-eq-END-via-then-opcode-eq-END}
use Rattle.wasm_decode.proofs.code.+code.Goals.{instructions-then-opcode-eq-END-via-else-opcode-eq-END+then-opcode-eq-ELSE}

pub block-returns-then-level-eq0-clause-read : goal.block-returns-then-level-eq0-clause-read
block-returns-then-level-eq0-clause-read t c =
    rw c.refuse.ensures (no_block c.args.level.profile c.args.level.nesting c.args.left.now c.args.cursor.now.rest c.if-level-eq0.true)

pub block-returns-clause-read : goal.block-returns-clause-read
unfolding block_at
block-returns-clause-read t c =
    rw (
      below_is c.args.level.profile c.args.level.nesting c.if-level-eq0.false,
      c.in_ok-result.ensures.read,
      c.in_ok-body.ensures.read,
      c.in_ok-new.ensures.ok,
    ) refl

pub conditional-returns-clause-read : goal.conditional-returns-clause-read
unfolding conditional_at
conditional-returns-clause-read t c =
    rw (
      below_is c.args.level.profile c.args.level.nesting c.if-level-eq0.false,
      c.in_ok-result.ensures.read,
      c.in_ok-yes.ensures.read,
      differs _ _ c.if-last-eq-END.false,
      c.in_ok-no.ensures.read,
    ) refl

pub instructions-items-init : goal.instructions-items-init
instructions-items-init t c =
    let left = c.args.left.now in
    let rest = c.args.cursor.now.rest in
    let all = code_at (step_at c.args.level.profile (below c.args.level.profile c.args.level.nesting)) (suc left) left rest in
    record {
      turns = suc left;
      enough = omega arith;
      fewer = omega arith;
      read =
          ap (λ is. before (code_of is) all) c.new-items.ensures.items ∙ nothing_before all
          ∙ sym (body_is c.args.level.profile c.args.level.nesting left rest);
      kept = search rules;
    }

pub instructions-returns-in_err-opcode-clause-read : goal.instructions-returns-in_err-opcode-clause-read
instructions-returns-in_err-opcode-clause-read t c =
    let one = step_at c.args.level.profile (below c.args.level.profile c.args.level.nesting) in
    let total = body_at c.args.level.profile c.args.level.nesting c.args.left.now c.args.cursor.now.rest in
    let l = c.items in
    let p = err_from_is_err_and c.from_residual.result c.from_residual.ensures.1 in
    let i = l.invariant in
    rw (p.1, p.2) (Fails-weaker c.in_err-opcode.field-0.0 (byte_at l.cursor.rest ≡ None) (total ≡ None)
    (λ e. no_opcode one (code_of l.items.items) i.turns l.left l.cursor.rest total i.read (omega arith) e) c.in_err-opcode.ensures.read)

pub instructions-returns-then-opcode-eq-END-clause-read : goal.instructions-returns-then-opcode-eq-END-clause-read
instructions-returns-then-opcode-eq-END-clause-read t c =
    let one = step_at c.args.level.profile (below c.args.level.profile c.args.level.nesting) in
    let total = body_at c.args.level.profile c.args.level.nesting c.args.left.now c.args.cursor.now.rest in
    let l = c.items in
    let i = l.invariant in
    let op = c.in_ok-opcode.opcode.byte in
    let last : is_last op ≡ true =
    elim c.then-opcode-eq-END.branch [
      | instructions-then-opcode-eq-END-via-then-opcode-eq-END w ↦ ap is_last w.if-opcode-eq-END.true
      | instructions-then-opcode-eq-END-via-else-opcode-eq-END+then-opcode-eq-ELSE w ↦ ap is_last w.if-opcode-eq-ELSE.true
    ]
    in
    is_over one (code_of l.items.items) i.turns l.left l.cursor.rest total i.read op c.next_opcode.new.cursor.rest (omega arith) c.in_ok-opcode.ensures.read
    last ∙ ap (λ b. Some (record { code = b; last = op; left = l.left }, c.next_opcode.new.cursor.rest)) (sym c.new.ensures)

pub instructions-returns-then-left-eq0-clause-read : goal.instructions-returns-then-left-eq0-clause-read
instructions-returns-then-left-eq0-clause-read t c =
    let one = step_at c.args.level.profile (below c.args.level.profile c.args.level.nesting) in
    let total = body_at c.args.level.profile c.args.level.nesting c.args.left.now c.args.cursor.now.rest in
    let l = c.items in
    let i = l.invariant in
    let op = c.in_ok-opcode.opcode.byte in
    rw c.refuse.ensures (too_many one (code_of l.items.items) i.turns l.left l.cursor.rest total i.read op c.next_opcode.new.cursor.rest (omega arith)
    c.in_ok-opcode.ensures.read (search rules) (search rules) c.if-left-eq0.true)

pub instructions-returns-in_err-instruction-clause-read : goal.instructions-returns-in_err-instruction-clause-read
instructions-returns-in_err-instruction-clause-read t c =
    let one = step_at c.args.level.profile (below c.args.level.profile c.args.level.nesting) in
    let total = body_at c.args.level.profile c.args.level.nesting c.args.left.now c.args.cursor.now.rest in
    let l = c.items in
    let i = l.invariant in
    let op = c.in_ok-opcode.opcode.byte in
    let after = c.next_opcode.new.cursor.rest in
    let p = err_from_is_err_and c.from_residual-in_err-instruction.result c.from_residual-in_err-instruction.ensures.1 in
    rw (p.1, p.2) (Fails-weaker c.in_err-instruction.field-0.0 (one op (l.left - 1) after ≡ None) (total ≡ None)
    (λ e. no_step one (code_of l.items.items) i.turns l.left l.cursor.rest total i.read op after (omega arith) c.in_ok-opcode.ensures.read (search rules)
    (search rules) (search rules) e) c.in_err-instruction.ensures.read)

pub instructions-items-preserved : goal.instructions-items-preserved
instructions-items-preserved t c =
    let one = step_at c.args.level.profile (below c.args.level.profile c.args.level.nesting) in
    let total = body_at c.args.level.profile c.args.level.nesting c.args.left.now c.args.cursor.now.rest in
    let l = c.items in
    let i = l.invariant in
    let op = c.in_ok-opcode.opcode.byte in
    let after = c.next_opcode.new.cursor.rest in
    let x = c.in_ok-instruction.field-0 in
    let step = turn one (code_of l.items.items) i.turns l.left l.cursor.rest total i.read op after _ c.instruction.new.cursor.rest (omega arith)
    c.in_ok-opcode.ensures.read (search rules) (search rules) (search rules) c.in_ok-instruction.ensures.read in
    record {
      turns = i.turns - 1;
      enough = omega (arith, c.in_ok-instruction.ensures.fewer);
      fewer = omega (arith, c.in_ok-instruction.ensures.fewer);
      read = rw (c.in_ok-push.ensures.items, code_of-append l.items.items (x ∷ [])) step;
      kept = search rules;
    }

pub block-returns-then-level-eq0-clause-tells : goal.block-returns-then-level-eq0-clause-tells
block-returns-then-level-eq0-clause-tells t c =
    rw c.refuse.ensures (inr
    (inr (has_byte _ c.args.cursor.now.whole c.args.opcode.offset c.args.opcode.byte c.requires.here
    (λ e. omega (arith, c.requires.opens, e), λ e. omega (arith, c.requires.opens, e)))))

pub conditional-returns-then-level-eq0-clause-tells : goal.conditional-returns-then-level-eq0-clause-tells
conditional-returns-then-level-eq0-clause-tells t c =
    rw c.refuse.ensures (inr
    (inr (has_byte _ c.args.cursor.now.whole c.args.opcode.offset c.args.opcode.byte c.requires.here
    (λ e. omega (arith, c.requires.opens, e), λ e. omega (arith, c.requires.opens, e)))))

pub closed-returns-then-last-ne-END-clause-tells : goal.closed-returns-then-last-ne-END-clause-tells
closed-returns-then-last-ne-END-clause-tells t c =
    let last = c.in_ok-body.last in
    let other : last.byte ≡ 0x05 = elim c.in_ok-body.ensures.last [ inl e ↦ e | inr e ↦ absurd (c.if-last-ne-END.true e) ] in
    rw c.refuse.ensures
    (has_byte _ c.args.cursor.now.whole last.offset last.byte c.in_ok-body.ensures.here
    (inl (rw other (else_unlisted c.args.level.profile), rw other else_of_no_float)))
