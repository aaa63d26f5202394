use Rattle.std.proofs.Common.{sym, true≢false}
use Rattle.std.proofs.lemmas.Result.{err_from_is_err_and}
use Rattle.json_genesis.proofs.Whole.{NoneIs-book}
use Rattle.json_genesis.proofs.book.book.Goals as goal

pub returns-in_err-definitions-clause-refused : goal.returns-in_err-definitions-clause-refused
returns-in_err-definitions-clause-refused c =
    let p = err_from_is_err_and c.from_residual.result c.from_residual.ensures.1 in
    let none = c.in_err-definitions.ensures.refused in
    rw (p.1, p.2) (none.0, λ real b spelled. none.1 real spelled.0 (rw c.requires spelled.2))

pub returns-in_err-more-clause-refused : goal.returns-in_err-more-clause-refused
returns-in_err-more-clause-refused c =
    let p = err_from_is_err_and c.from_residual-in_err-more.result c.from_residual-in_err-more.ensures.1 in
    let none = c.in_err-more.ensures.refused in
    rw (p.1, p.2) (none.0, λ real b spelled. none.1 real spelled.1 spelled.3)

pub returns-in-None-clause-refused : goal.returns-in-None-clause-refused
returns-in-None-clause-refused c =
    let definitions = rw c.requires at c.in_ok-definitions.ensures.ok in
    let parts = c.in_ok-chaincodes.ensures in
    let modules = c.in_ok-modules.ensures in
    let given = c.in-None.ensures.accepted.1 in (
      λ e. cc,
      λ real. NoneIs-book _ _ _ _ _ _ _ definitions c.in_ok-more.ensures.ok
          (λ h. true≢false (sym (given (rw (c.in_ok-installed.ensures, modules.0, modules.1, parts.0, parts.1) h)))),
    )
