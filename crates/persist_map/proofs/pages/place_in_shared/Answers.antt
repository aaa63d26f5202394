use Rattle.std.proofs.Common.{◌∙◌, ap}
use Rattle.persist_map.specs.Pages.{shared}
use Rattle.persist_map.specs.Changes.{placed}
use Rattle.persist_map.proofs.Reading.{on_ok, on_err}
use Rattle.persist_map.proofs.pages.place_in_shared.Goals as goal

pub returns-in-Some-clause-ok : goal.returns-in-Some-clause-ok
returns-in-Some-clause-ok g c =
    on_ok c.place_in.result _ _ c.place_in.ensures.ok (λ n.
    n ∙ ap (λ v. placed (shared v.items) c.args.place c.args.entry.value) c.in-Some.ensures.value)

pub returns-in-Some-clause-err : goal.returns-in-Some-clause-err
returns-in-Some-clause-err g c =
    on_err c.place_in.result _ _ c.place_in.ensures.err (λ n. ap shared n ∙ ap (λ v. shared v.items) c.in-Some.ensures.value)

pub returns-in_ok-page-in-None-clause-ok : goal.returns-in_ok-page-in-None-clause-ok
returns-in_ok-page-in-None-clause-ok g c =
    ap (λ v. shared v.items) c.in_ok-page-in-None.ensures.ok
    ∙ c.in_ok-copy-in-None.ensures
    ∙ ap (λ es. placed (shared es) c.args.place c.args.entry.value) (c.deref.ensures.value ∙ ap (λ v. v.items) c.deref-old.ensures)
