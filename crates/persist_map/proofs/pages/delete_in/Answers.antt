use Rattle.std.proofs.Common.{arith, ◌≡◌, ap, sym, subst, [], ◌∷◌, length}
use Rattle.std.proofs.lemmas.List.{length-map}
use Rattle.persist_map.specs.Entries.{without}
use Rattle.persist_map.specs.Pages.{shared, pages_of, page_at, joined, AreLaid}
use Rattle.persist_map.specs.Search.{IsPlaceOf, IsEntryAt, IsGapAt}
use Rattle.persist_map.specs.Changes.{cut, replaced}
use Rattle.persist_map.proofs.Reading.{by_outcome, on_ok}
use Rattle.persist_map.proofs.Building.{pages_removed}
use Rattle.persist_map.proofs.Changes.{AreAfter, delete_one, delete_page, without_none, hit}
use Rattle.persist_map.proofs.pages.delete_in.Given.{Over}
use Rattle.persist_map.proofs.pages.delete_in.Goals.{After-drop-remove}
use Rattle.persist_map.proofs.pages.delete_in.Goals as goal

pub find-sought-requires : goal.find-sought-requires
find-sought-requires g c = subst (λ ps. AreLaid g.K.Ord.cmp (pages_of ps)) (sym c.deref.ensures.value) c.requires

pub returns-in_default-clause-laid : goal.returns-in_default-clause-laid
returns-in_default-clause-laid g c = c.requires

pub index-requires : goal.index-requires
index-requires g c =
    let place : IsEntryAt g.K.Ord.cmp c.args.key.now (pages_of c.args.pages.now.items) c.find-sought.result.page c.in-Ok.at =
    subst (IsPlaceOf g.K.Ord.cmp c.args.key.now (pages_of c.args.pages.now.items) c.find-sought.result.page) c.in-Ok.is
    (subst (λ b. IsPlaceOf g.K.Ord.cmp c.args.key.now (pages_of b) c.find-sought.result.page c.find-sought.result.place) c.deref.ensures.value
    c.find-sought.ensures.place) in
    omega (arith, place.page_inside, c.args.pages.now.ok.0, length-map c.args.pages.now.items (λ p. shared p.value.items))

pub returns-in_default-clause-ok : goal.returns-in_default-clause-ok
returns-in_default-clause-ok g c =
    let place : IsGapAt g.K.Ord.cmp c.args.key.now (pages_of c.args.pages.now.items) c.find-sought.result.page c.in_default.field-0 =
    subst (IsPlaceOf g.K.Ord.cmp c.args.key.now (pages_of c.args.pages.now.items) c.find-sought.result.page) c.in_default.is
    (subst (λ b. IsPlaceOf g.K.Ord.cmp c.args.key.now (pages_of b) c.find-sought.result.page c.find-sought.result.place) c.deref.ensures.value
    c.find-sought.ensures.place) in
    without_none g.K.Ord.cmp g.met.K.Ord.total c.args.key.now (pages_of c.args.pages.now.items) c.find-sought.result.page c.in_default.field-0 place

after_remove : (g : Over) (c : After-drop-remove g) →
    AreAfter g.K.Ord.cmp (pages_of c.remove.new.self.items) (without g.K.Ord.cmp (joined (pages_of c.args.pages.now.items)) c.args.key.now)
after_remove g c =
    let h = hit g.K.Ord.cmp c.args.pages.now.items c.deref.result.now c.args.key.now c.find-sought.result.page c.in-Ok.at c.find-sought.result.place
    c.index.result.now c.deref-2.result.now c.deref.ensures.value c.find-sought.ensures.place c.in-Ok.is c.index.ensures c.deref-2.ensures in
    delete_page g.K.Ord.cmp g.met.K.Ord.total c.args.key.now (pages_of c.args.pages.now.items) (pages_of c.remove.new.self.items) c.find-sought.result.page
    c.in-Ok.at c.requires h.place
    (omega (arith, h.long, ap length c.deref-3.ensures.value, c.is_single.ensures.single c.if-is_single.true))
    (pages_removed c.args.pages.now.items c.remove.new.self.items c.find-sought.result.page c.remove.ensures.by_index.2)

pub returns-then-is_single-clause-laid : goal.returns-then-is_single-clause-laid
returns-then-is_single-clause-laid g c = (after_remove g c).laid

pub returns-then-is_single-clause-ok : goal.returns-then-is_single-clause-ok
returns-then-is_single-clause-ok g c = (after_remove g c).entries

pub cut_entry-requires : goal.cut_entry-requires
cut_entry-requires g c =
    let h = hit g.K.Ord.cmp c.args.pages.now.items c.deref.result.now c.args.key.now c.find-sought.result.page c.in-Ok.at c.find-sought.result.place
    c.index.result.now c.deref-2.result.now c.deref.ensures.value c.find-sought.ensures.place c.in-Ok.is c.index.ensures c.deref-2.ensures in
    record {
      page = omega (arith, h.place.page_inside, c.args.pages.now.ok.0, length-map c.args.pages.now.items (λ p. shared p.value.items));
      place = h.place.inside;
    }

after_cut : (g : Over) (c : goal.After-cut_entry g) →
    pages_of c.cut_entry.new.pages.items ≡
    replaced (pages_of c.args.pages.now.items) c.find-sought.result.page
    (cut (page_at (pages_of c.args.pages.now.items) c.find-sought.result.page) c.in-Ok.at ∷ []) →
    AreAfter g.K.Ord.cmp (pages_of c.cut_entry.new.pages.items) (without g.K.Ord.cmp (joined (pages_of c.args.pages.now.items)) c.args.key.now)
after_cut g c n =
    let h = hit g.K.Ord.cmp c.args.pages.now.items c.deref.result.now c.args.key.now c.find-sought.result.page c.in-Ok.at c.find-sought.result.place
    c.index.result.now c.deref-2.result.now c.deref.ensures.value c.find-sought.ensures.place c.in-Ok.is c.index.ensures c.deref-2.ensures in
    delete_one g.K.Ord.cmp g.met.K.Ord.total c.args.key.now (pages_of c.args.pages.now.items) (pages_of c.cut_entry.new.pages.items) c.find-sought.result.page
    c.in-Ok.at c.requires h.place
    (omega (
      arith,
      h.long,
      h.place.inside,
      ap length c.deref-3.ensures.value,
      c.is_single.ensures.several c.if-is_single.false (omega (arith, h.long, h.place.inside, ap length c.deref-3.ensures.value)),
    )) n

pub returns-clause-laid : goal.returns-clause-laid
returns-clause-laid g c =
    by_outcome c.cut_entry.result _ _ _ c.cut_entry.ensures.ok c.cut_entry.ensures.err
    (λ n. (after_cut g c n).laid)
    (λ n. subst (AreLaid g.K.Ord.cmp) (sym n) c.requires)

pub returns-clause-ok : goal.returns-clause-ok
returns-clause-ok g c = on_ok c.cut_entry.result _ _ c.cut_entry.ensures.ok (λ n. (after_cut g c n).entries)
