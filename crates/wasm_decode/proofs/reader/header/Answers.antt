use Rattle.std.proofs.Common.{◌≡◌, ◌<◌, ◌≤◌, None, arith, rules}
use Rattle.std.proofs.lemmas.Result.{err_from_is_err_and}
use Rattle.grammar.specs.Reading.{text_at}
use Rattle.wasm_decode.specs.ModuleReading.{header_bytes}
use Rattle.wasm_decode.proofs.Loop.{text_goes_on, text_ended, text_differs}
use Rattle.wasm_decode.proofs.reader.header.Goals as goal

pub returns-in_err-byte-clause-read : goal.returns-in_err-byte-clause-read
returns-in_err-byte-clause-read c =
    let l = c.loop-expected in
    let total = text_at header_bytes c.args.cursor.now.rest in
    let p = err_from_is_err_and c.from_residual.result c.from_residual.ensures.1 in
    let none : total ≡ None =
    text_ended header_bytes l.expected-index l.cursor.rest total c.loop-expected-test.true l.invariant.read c.in_err-byte.ensures.read.0 in
    rw (p.1, p.2) none

pub returns-then-branch-expected-clause-read : goal.returns-then-branch-expected-clause-read
returns-then-branch-expected-clause-read c =
    let l = c.loop-expected in
    let total = text_at header_bytes c.args.cursor.now.rest in
    let none : total ≡ None =
    text_differs header_bytes l.expected-index l.cursor.rest total c.loop-expected-test.true l.invariant.read c.in_ok-byte.field-0 c.byte.new.self.rest
    c.in_ok-byte.ensures.read.0 c.if-branch-expected.true in
    rw c.refuse.ensures none

pub loop-expected-preserved : goal.loop-expected-preserved
loop-expected-preserved c =
    let l = c.loop-expected in
    let total = text_at header_bytes c.args.cursor.now.rest in
    let more : l.expected-index < 8 = c.loop-expected-test.true in
    record {
      read = text_goes_on header_bytes l.expected-index l.cursor.rest total c.loop-expected-test.true l.invariant.read c.in_ok-byte.field-0 c.byte.new.self.rest
          c.in_ok-byte.ensures.read.0 c.if-branch-expected.false;
      kept = search rules;
      offset = search rules;
      within = omega arith;
    }

pub returns-clause-behind : goal.returns-clause-behind
returns-clause-behind c =
    let done : 8 ≤ c.loop-expected.expected-index = c.loop-expected-test.false in
    omega (arith, c.loop-expected.invariant.offset, c.loop-expected.invariant.within)
