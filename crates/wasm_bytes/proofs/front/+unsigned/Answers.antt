use Rattle.std.proofs.Common.{◌-◌, ◌∙◌, sym, arith}
use Rattle.std.proofs.lemmas.Result.{err_from_is_err_and}
use Rattle.wasm_bytes.proofs.Fronts.{in_front, unsigned_ended, unsigned_goes_on, unsigned_joined, joined_within}
use Rattle.wasm_bytes.proofs.front.+unsigned.Goals as goal

pub unsigned-returns-clause-read : goal.unsigned-returns-clause-read
unsigned-returns-clause-read t c =
    rw (in_front c.args.bytes.now c.from-first.result c.in-len1-up.len_at_least c.from-first.ensures) c.unsigned_on.ensures.read

pub unsigned_on-returns-in_err-high-clause-read : goal.unsigned_on-returns-in_err-high-clause-read
unsigned_on-returns-in_err-high-clause-read t c =
    let p = err_from_is_err_and c.from_residual.result c.from_residual.ensures.1 in
    rw p.1 (unsigned_ended c.args.bound c.args.first c.args.rest.now c.requires.low (omega arith) c.in_err-high.ensures.read)

pub unsigned_on-returns-in_err-high-clause-fault : goal.unsigned_on-returns-in_err-high-clause-fault
unsigned_on-returns-in_err-high-clause-fault t c =
    let p = err_from_is_err_and c.from_residual.result c.from_residual.ensures.1 in
    rw p.1 (p.2 ∙ c.in_err-high.ensures.fault ∙ sym (unsigned_goes_on c.args.bound c.args.first c.args.rest.now c.requires.low (omega arith)))

pub unsigned_on-returns-clause-read : goal.unsigned_on-returns-clause-read
unsigned_on-returns-clause-read t c =
    unsigned_joined c.args.bound c.args.first c.args.rest.now c.in_ok-high.high c.in_ok-high.rest.now c.requires.low (omega arith) c.in_ok-high.ensures.read

pub unsigned_on-returns-clause-within : goal.unsigned_on-returns-clause-within
unsigned_on-returns-clause-within t c =
    joined_within (c.args.first - 128) c.in_ok-high.high c.args.bound (omega arith) c.in_ok-high.ensures.within
