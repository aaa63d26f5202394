use Rattle.std.proofs.Common.{suc, refl}
use Rattle.std.proofs.lemmas.Result.{err_from_is_err_and}
use Rattle.policy_language.specs.Wrong.{CountBracket, Count, CountComma, Start}
use Rattle.policy_language.proofs.Places.{is_wrong, missed_byte, no_count, no_count_bracket, no_count_comma, passed_byte, passed_count, passed_spaces}
use Rattle.policy_language.proofs.reader.Reader.out_of.Goals as goal

pub returns-in_err-token-clause-place : goal.returns-in_err-token-clause-place
returns-in_err-token-clause-place c = λ text n at.
    (let p = err_from_is_err_and c.from_residual.result c.from_residual.ensures.1 in
    let here = c.token.new.self in
    rw (p.1, p.2) (missed_byte text 40 (CountBracket n) c.args.self.now here c.in_err-token.field-0.0 c.token.ensures.total c.in_err-token.ensures.stays
    c.in_err-token.ensures.missed (no_count_bracket n here.rest) at))

pub returns-in_err-threshold-clause-place : goal.returns-in_err-threshold-clause-place
returns-in_err-threshold-clause-place c = λ text n at.
    (let p = err_from_is_err_and c.from_residual-in_err-threshold.result c.from_residual-in_err-threshold.ensures.1 in
    let opened = c.token.new.self in
    let here = c.skip_spaces.new.self in
    let missed = c.in_err-threshold.ensures.missed in
    let at_bracket = passed_byte text 40 (CountBracket n) (Count (suc n)) c.args.self.now opened c.token.ensures.total c.in_ok-token.ensures.passed
    (refl, refl) at in
    let at_count = passed_spaces text (Count (suc n)) opened here c.skip_spaces.ensures.total c.skip_spaces.ensures.rest at_bracket in
    rw (p.1, p.2) (is_wrong text (Count (suc n)) here c.in_err-threshold.field-0.0 (no_count (suc n) here.rest missed.1) missed.0 at_count))

pub returns-in_err-token-2-clause-place : goal.returns-in_err-token-2-clause-place
returns-in_err-token-2-clause-place c = λ text n at.
    (let p = err_from_is_err_and c.from_residual-in_err-token-2.result c.from_residual-in_err-token-2.ensures.1 in
    let opened = c.token.new.self in
    let spaced = c.skip_spaces.new.self in
    let counted = c.threshold.new.self in
    let here = c.token-2.new.self in
    let at_bracket = passed_byte text 40 (CountBracket n) (Count (suc n)) c.args.self.now opened c.token.ensures.total c.in_ok-token.ensures.passed
    (refl, refl) at in
    let at_count = passed_spaces text (Count (suc n)) opened spaced c.skip_spaces.ensures.total c.skip_spaces.ensures.rest at_bracket in
    let at_comma = passed_count text c.in_ok-threshold.threshold (suc n) spaced counted c.threshold.ensures.total c.in_ok-threshold.ensures.read at_count in
    rw (p.1, p.2) (missed_byte text 44 (CountComma (suc n)) counted here c.in_err-token-2.field-0.0 c.token-2.ensures.total c.in_err-token-2.ensures.stays
    c.in_err-token-2.ensures.missed (no_count_comma (suc n) here.rest) at_comma))

pub returns-clause-place : goal.returns-clause-place
returns-clause-place c = λ text n at.
    (let opened = c.token.new.self in
    let spaced = c.skip_spaces.new.self in
    let counted = c.threshold.new.self in
    let at_bracket = passed_byte text 40 (CountBracket n) (Count (suc n)) c.args.self.now opened c.token.ensures.total c.in_ok-token.ensures.passed
    (refl, refl) at in
    let at_count = passed_spaces text (Count (suc n)) opened spaced c.skip_spaces.ensures.total c.skip_spaces.ensures.rest at_bracket in
    let at_comma = passed_count text c.in_ok-threshold.threshold (suc n) spaced counted c.threshold.ensures.total c.in_ok-threshold.ensures.read at_count in
    passed_byte text 44 (CountComma (suc n)) (Start (suc n)) counted c.token-2.new.self c.token-2.ensures.total c.in_ok-token-2.ensures.passed
    (refl, refl) at_comma)
