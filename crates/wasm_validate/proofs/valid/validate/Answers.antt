use Rattle.std.proofs.Common.{refl}
use Rattle.std.proofs.lemmas.Result.{err_from_is_err_and}
use Rattle.wasm_typing.proofs.Modules.{broken_is_invalid}
use Rattle.wasm_validate.proofs.valid.validate.Goals as goal

pub returns-in_err-calls-clause-refused : goal.returns-in_err-calls-clause-refused
returns-in_err-calls-clause-refused c =
    let p = err_from_is_err_and c.from_residual.result c.from_residual.ensures.1 in
    rw (p.1, p.2) (broken_is_invalid c.in_err-calls.field-0.0 c.args.given c.in_err-calls.ensures.broken)

pub returns-clause-value : goal.returns-clause-value
returns-clause-value c = refl
