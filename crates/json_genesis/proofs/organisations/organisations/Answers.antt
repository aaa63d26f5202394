use Rattle.std.proofs.Common.{sym, ap, ◌∙◌}
use Rattle.std.proofs.lemmas.Result.{err_from_is_err_and}
use Rattle.json_genesis.specs.Spelling.{are_different, names_of, public_keys_of}
use Rattle.json_genesis.proofs.Whole.{NoneIs-different}
use Rattle.json_genesis.proofs.organisations.organisations.Goals as goal

pub returns-in_err-organisations-clause-refused : goal.returns-in_err-organisations-clause-refused
returns-in_err-organisations-clause-refused c =
    let p = err_from_is_err_and c.from_residual.result c.from_residual.ensures.1 in
    let none = c.in_err-organisations.ensures.refused in
    rw (p.1, p.2) (none.0, λ real os spelled. none.1 real os spelled.0)

pub returns-then-not-are_different-clause-refused : goal.returns-then-not-are_different-clause-refused
returns-then-not-are_different-clause-refused c =
    let names = c.deref-2.ensures.value ∙ c.in_ok-orgs.ensures ∙ ap names_of c.deref.ensures.value in
    let same = ap are_different (sym names) ∙ sym c.are_different.ensures ∙ c.if-not-are_different.true in
    (λ e. cc, λ real os spelled. NoneIs-different names_of _ _ _ _ c.in_ok-organisations.ensures.ok same os spelled.0 spelled.1)

pub returns-then-not-have_different_keys-clause-refused : goal.returns-then-not-have_different_keys-clause-refused
returns-then-not-have_different_keys-clause-refused c =
    let these = ap (λ os. are_different (public_keys_of os)) (sym c.deref-3.ensures.value) in
    let same = these ∙ sym c.have_different_keys.ensures ∙ c.if-not-have_different_keys.true in
    (λ e. cc, λ real os spelled. NoneIs-different public_keys_of _ _ _ _ c.in_ok-organisations.ensures.ok same os spelled.0 spelled.2)
