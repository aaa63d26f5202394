use Rattle.std.proofs.Common.{◌≡◌, get_or, ap, sym, ◌∙◌, Some, None, rules}
use Rattle.std.proofs.lemmas.Result.{err_from_is_err_and}
use Rattle.wasm_decode.specs.FunctionReading.{code_at, codes_at}
use Rattle.wasm_decode.proofs.Loop.{Fails-weaker, code_goes_on, code_refused, codes_done}
use Rattle.wasm_decode.proofs.functions.codes.Goals as goal

pub returns-in_err-code-clause-read : goal.returns-in_err-code-clause-read
returns-in_err-code-clause-read c =
    let l = c.loop-type_index in
    let types = c.args.type_indices.now in
    let total = codes_at c.args.profile types c.args.cursor.now.rest in
    let p = err_from_is_err_and c.from_residual.result c.from_residual.ensures.1 in
    rw (p.1, p.2) (Fails-weaker c.in_err-code.field-0.0 (code_at c.args.profile (get_or types l.type_index-index 0) l.cursor.rest ≡ None) (total ≡ None)
    (λ e. code_refused c.args.profile l.functions.items types l.type_index-index l.cursor.rest total l.invariant.read c.loop-type_index-test.true e)
    c.in_err-code.ensures.read)

pub loop-type_index-preserved : goal.loop-type_index-preserved
loop-type_index-preserved c =
    let l = c.loop-type_index in
    let types = c.args.type_indices.now in
    let total = codes_at c.args.profile types c.args.cursor.now.rest in
    record {
      read = rw c.in_ok-push.ensures.items
          (code_goes_on c.args.profile l.functions.items types l.type_index-index l.cursor.rest total l.invariant.read c.in_ok-code.field-0
          c.code.new.cursor.rest
          c.loop-type_index-test.true c.in_ok-code.ensures.read);
      kept = search rules;
    }

pub returns-clause-read : goal.returns-clause-read
returns-clause-read c =
    let l = c.loop-type_index in
    let types = c.args.type_indices.now in
    let total = codes_at c.args.profile types c.args.cursor.now.rest in
    codes_done c.args.profile l.functions.items types l.type_index-index l.cursor.rest total l.invariant.read c.loop-type_index-test.false ∙
    ap (λ fs. Some (fs, l.cursor.rest)) (sym c.new.ensures)
