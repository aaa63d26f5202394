use Rattle.std.proofs.Common.{◌≡◌, ap, sym, ◌∙◌, Some, None, rules}
use Rattle.std.proofs.lemmas.Result.{err_from_is_err_and}
use Rattle.grammar.specs.Reading.{at_most}
use Rattle.wasm_bytes.specs.Reading.{u32_at}
use Rattle.wasm_decode.specs.TypeReading.{value_type_at}
use Rattle.wasm_decode.specs.FunctionReading.{groups_at}
use Rattle.wasm_decode.proofs.Loop.{Fails-weaker}
use Rattle.wasm_decode.proofs.Groups.{goes_on, no_count, no_type, is_done}
use Rattle.wasm_decode.proofs.functions.groups.Goals as goal

pub returns-in_err-count-clause-read : goal.returns-in_err-count-clause-read
returns-in_err-count-clause-read c =
    let l = c.loop in
    let total = groups_at 192 c.args.count c.args.cursor.now.rest in
    let p = err_from_is_err_and c.from_residual.result c.from_residual.ensures.1 in
    rw (p.1, p.2) (Fails-weaker c.in_err-count.field-0.0 (at_most l.room u32_at l.cursor.rest ≡ None) (total ≡ None)
    (λ e. no_count l.locals.items l.room c.args.count l.counter l.cursor.rest total c.loop-test.true e l.invariant.read) c.in_err-count.ensures.read)

pub returns-in_err-value_type-clause-read : goal.returns-in_err-value_type-clause-read
returns-in_err-value_type-clause-read c =
    let l = c.loop in
    let total = groups_at 192 c.args.count c.args.cursor.now.rest in
    let p = err_from_is_err_and c.from_residual-in_err-value_type.result c.from_residual-in_err-value_type.ensures.1 in
    rw (p.1, p.2) (Fails-weaker c.in_err-value_type.field-0.0 (value_type_at c.number.new.cursor.rest ≡ None) (total ≡ None)
    (λ e. no_type l.locals.items l.room c.args.count l.counter l.cursor.rest total c.in_ok-count.count c.number.new.cursor.rest c.loop-test.true
    c.in_ok-count.ensures.read e l.invariant.read) c.in_err-value_type.ensures.read)

pub loop-preserved : goal.loop-preserved
loop-preserved c =
    let l = c.loop in
    let total = groups_at 192 c.args.count c.args.cursor.now.rest in
    record {
      read = rw c.in_ok-push_locals.ensures
          (goes_on l.locals.items l.room c.args.count l.counter l.cursor.rest total c.in_ok-count.count c.number.new.cursor.rest c.in_ok-value_type.value_type
          c.value_type.new.cursor.rest c.loop-test.true c.in_ok-count.ensures.read c.in_ok-value_type.ensures.read l.invariant.read);
      kept = search rules;
    }

pub returns-clause-read : goal.returns-clause-read
returns-clause-read c =
    let l = c.loop in
    let total = groups_at 192 c.args.count c.args.cursor.now.rest in
    is_done l.locals.items l.room c.args.count l.counter l.cursor.rest total c.loop-test.false l.invariant.read ∙
    ap (λ xs. Some (xs, l.cursor.rest)) (sym c.new.ensures)
