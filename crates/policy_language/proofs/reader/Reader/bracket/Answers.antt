use Rattle.std.proofs.Common.{suc, refl}
use Rattle.std.proofs.lemmas.Result.{err_from_is_err_and}
use Rattle.policy_language.specs.Wrong.{Bracket, Start}
use Rattle.policy_language.proofs.Places.{missed_byte, no_bracket, passed_byte}
use Rattle.policy_language.proofs.reader.Reader.bracket.Goals as goal

pub returns-in_err-token-clause-place : goal.returns-in_err-token-clause-place
returns-in_err-token-clause-place c = λ text n at.
    (let p = err_from_is_err_and c.from_residual.result c.from_residual.ensures.1 in
    let here = c.token.new.self in
    rw (p.1, p.2) (missed_byte text 40 (Bracket n) c.args.self.now here c.in_err-token.field-0.0 c.token.ensures.total c.in_err-token.ensures.stays
    c.in_err-token.ensures.missed (no_bracket n here.rest) at))

pub returns-clause-place : goal.returns-clause-place
returns-clause-place c = λ text n at.
    passed_byte text 40 (Bracket n) (Start (suc n)) c.args.self.now c.token.new.self c.token.ensures.total c.in_ok-token.ensures.passed (refl, refl) at
