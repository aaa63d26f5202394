use Rattle.std.proofs.Common.{◌≡◌, ap, sym, ◌∙◌, Some, None, rules}
use Rattle.std.proofs.lemmas.Result.{err_from_is_err_and}
use Rattle.grammar.specs.Reading.{repeats_at}
use Rattle.grammar.specs.Laws.Loops.{goes_on, refused, is_done}
use Rattle.wasm_decode.proofs.Loop.{Fails-weaker}
use Rattle.wasm_decode.proofs.item.repeated.Goals as goal

pub returns-in_err-read-clause-read : goal.returns-in_err-read-clause-read
returns-in_err-read-clause-read g c =
    let read = g.T.Item.reads c.args.profile in
    let total = repeats_at read c.args.count c.args.cursor.now.rest in
    let p = err_from_is_err_and c.from_residual.result c.from_residual.ensures.1 in
    rw (p.1, p.2) (Fails-weaker c.in_err-read.field-0.0 (read c.loop.cursor.rest ≡ None) (total ≡ None)
    (λ e. refused read c.loop.items.items c.args.count c.loop.counter c.loop.cursor.rest total c.loop-test.true e c.loop.invariant.read)
    c.in_err-read.ensures.read)

pub loop-preserved : goal.loop-preserved
loop-preserved g c =
    let read = g.T.Item.reads c.args.profile in
    let total = repeats_at read c.args.count c.args.cursor.now.rest in
    record {
      read = rw c.in_ok-push.ensures.items
          (goes_on read c.loop.items.items c.args.count c.loop.counter c.loop.cursor.rest total c.in_ok-read.field-0 c.read.new.cursor.rest c.loop-test.true
          c.in_ok-read.ensures.read c.loop.invariant.read);
      kept = search rules;
    }

pub returns-clause-read : goal.returns-clause-read
returns-clause-read g c =
    let read = g.T.Item.reads c.args.profile in
    let total = repeats_at read c.args.count c.args.cursor.now.rest in
    is_done read c.loop.items.items c.args.count c.loop.counter c.loop.cursor.rest total c.loop-test.false c.loop.invariant.read ∙
    ap (λ xs. Some (xs, c.loop.cursor.rest)) (sym c.new.ensures)
