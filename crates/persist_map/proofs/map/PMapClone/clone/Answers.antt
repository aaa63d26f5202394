use Rattle.std.proofs.Common.{sym, subst, ◌∙◌}
use Rattle.std.proofs.lemmas.List.Elements.{length_all_zip}
use Rattle.persist_map.specs.Pages.{AreLaid, joined}
use Rattle.persist_map.proofs.Reading.{pages_clones}
use Rattle.persist_map.proofs.map.PMapClone.clone.Goals as goal

pub invariant_of-result : goal.invariant_of-result
invariant_of-result g c =
    subst (AreLaid g.K.Ord.cmp) (sym (pages_clones c.self.inside.pages.items c.in_ok-clone.field-0.items c.in_ok-clone.ensures.cases.0)) c.self.invariant

pub returns : goal.returns
returns g c =
    let e = pages_clones c.self.inside.pages.items c.in_ok-clone.field-0.items c.in_ok-clone.ensures.cases.0 in
    let n = sym (length_all_zip _ c.self.inside.pages.items c.in_ok-clone.field-0.items c.in_ok-clone.ensures.cases.0) in
    record { cases = (λ i. record { entries = joined (e i); pages = n i }) ∙ c.self.view_is }
