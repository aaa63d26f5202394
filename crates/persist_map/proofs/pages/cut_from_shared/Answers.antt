use Rattle.std.proofs.Common.{◌∙◌, ap, sym, subst, refl, IsOk}
use Rattle.persist_map.specs.Pages.{shared}
use Rattle.persist_map.specs.Changes.{cut}
use Rattle.persist_map.proofs.Building.{cut_out}
use Rattle.persist_map.proofs.Reading.{at_err, once_err, same_or_cloned}
use Rattle.persist_map.proofs.pages.cut_from_shared.Goals as goal

pub returns-in_err-page-clause-err : goal.returns-in_err-page-clause-err
returns-in_err-page-clause-err g c =
    at_err c.from_residual.result _
    (same_or_cloned c.args.page.now.value c.make_mut.follows.lender-at-none.value
    (once_err c.make_mut.result _ _ c.in_err-page.was c.make_mut.follows.holds-at-none))

pub returns-clause-ok : goal.returns-clause-ok
returns-clause-ok g c =
    ap (λ v. shared v.items) (c.make_mut.follows.holds c.remove.new.self (subst IsOk (sym c.in_ok-page.was) refl))
    ∙ cut_out c.in_ok-page.page.now.items c.remove.new.self.items c.args.at c.remove.ensures.by_index.2
    ∙ ap (λ p. cut p c.args.at) (same_or_cloned c.args.page.now.value c.in_ok-page.page.now c.in_ok-page.ensures.value)
