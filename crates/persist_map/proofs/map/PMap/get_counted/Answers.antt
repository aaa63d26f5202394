use Rattle.std.proofs.Common.{◌∙◌, ap, sym, subst, get_or, [], Some}
use Rattle.persist_map.specs.Entries.{get}
use Rattle.persist_map.specs.Pages.{pages_of}
use Rattle.persist_map.specs.Search.{IsPlaceOf, IsGapAt, IsEntryAt}
use Rattle.persist_map.proofs.Reading.{page_is, entry_is}
use Rattle.persist_map.proofs.Changes.{get_none, get_at}
use Rattle.persist_map.proofs.map.PMap.get_counted.Goals as goal

pub returns-in_default-clause-value : goal.returns-in_default-clause-value
returns-in_default-clause-value g c =
    let cmp = g.K.Ord.cmp in
    let ps = pages_of c.self.inside.pages.items in
    let place : IsGapAt cmp c.args.key.now ps c.find-sought.result.page c.in_default.field-0 =
    subst (IsPlaceOf cmp c.args.key.now ps c.find-sought.result.page) c.in_default.is
    (subst (λ qs. IsPlaceOf cmp c.args.key.now (pages_of qs) c.find-sought.result.page c.find-sought.result.place) c.deref.ensures.value
    c.find-sought.ensures.place) in
    sym (get_none cmp g.met.K.Ord.total c.args.key.now ps c.find-sought.result.page c.in_default.field-0 place) ∙
    ap (λ m. get cmp m.entries c.args.key.now) c.self.view_is

pub returns-clause-value : goal.returns-clause-value
returns-clause-value g c =
    let cmp = g.K.Ord.cmp in
    let ps = pages_of c.self.inside.pages.items in
    let place : IsEntryAt cmp c.args.key.now ps c.find-sought.result.page c.in-Ok.at =
    subst (IsPlaceOf cmp c.args.key.now ps c.find-sought.result.page) c.in-Ok.is
    (subst (λ qs. IsPlaceOf cmp c.args.key.now (pages_of qs) c.find-sought.result.page c.find-sought.result.place) c.deref.ensures.value
    c.find-sought.ensures.place) in
    let read = entry_is (get_or ps c.find-sought.result.page []) c.deref-page.result.now.items c.in-Ok.at c.index-2.result.now
    (page_is c.self.inside.pages.items c.find-sought.result.page c.index.result.now c.deref-page.result.now place.page_inside c.index.ensures
    c.deref-page.ensures)
    place.inside c.index-2.ensures c.deref-entry.result.now in
    ap (λ e. Some e.1) c.deref-entry.ensures ∙ ap (λ e. Some e.1) (sym read)
    ∙ sym (get_at cmp g.met.K.Ord.total c.args.key.now ps c.find-sought.result.page c.in-Ok.at c.deref-entry.result.now place)
    ∙ ap (λ m. get cmp m.entries c.args.key.now) c.self.view_is
