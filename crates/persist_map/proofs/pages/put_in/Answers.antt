use Rattle.std.proofs.Common.{arith, ◌≡◌, ◌∙◌, sym, ap, subst, ◌<◌, ◌≤◌, length, [], ◌∷◌}
use Rattle.std.proofs.lemmas.List.{length-map}
use Rattle.persist_map.specs.Entries.{put}
use Rattle.persist_map.specs.Pages.{shared, pages_of, page_at, joined, AreLaid}
use Rattle.persist_map.specs.Changes.{placed, halves, replaced}
use Rattle.persist_map.proofs.Laid.{page_sized}
use Rattle.persist_map.proofs.Reading.{by_outcome, on_ok, on_err, page_short}
use Rattle.persist_map.proofs.Changes.{AreAfter, fits_at, fits_next, put_one, put_two, put_first, here, inside_pages, filled, none_left}
use Rattle.persist_map.proofs.pages.put_in.Given.{Over}
use Rattle.persist_map.proofs.pages.put_in.Goals as goal

after_first : (g : Over) (c : goal.After-put_first g) → pages_of c.put_first.new.pages.items ≡ (c.args.entry.value ∷ []) ∷ [] →
    AreAfter g.K.Ord.cmp (pages_of c.put_first.new.pages.items)
    (put g.K.Ord.cmp (joined (pages_of c.args.pages.now.items)) c.args.entry.value.0 c.args.entry.value.1)
after_first g c n =
    let none : length (pages_of c.args.pages.now.items) ≡ 0 =
    omega (
      arith,
      none_left _ (sym c.is_empty.ensures ∙ c.if-is_empty.true),
      c.args.pages.now.ok.0,
      length-map c.args.pages.now.items (λ p. shared p.value.items),
    ) in
    put_first g.K.Ord.cmp g.met.K.Ord.total c.args.entry.value.0 (pages_of c.args.pages.now.items) (pages_of c.put_first.new.pages.items)
    c.args.entry.value.1 none n

pub returns-then-is_empty-clause-laid : goal.returns-then-is_empty-clause-laid
returns-then-is_empty-clause-laid g c =
    by_outcome c.put_first.result _ _ _ c.put_first.ensures.ok c.put_first.ensures.err
    (λ n. (after_first g c n).laid)
    (λ n. subst (λ ps. AreLaid g.K.Ord.cmp (pages_of ps)) (sym n) c.requires)

pub returns-then-is_empty-clause-ok : goal.returns-then-is_empty-clause-ok
returns-then-is_empty-clause-ok g c = on_ok c.put_first.result _ _ c.put_first.ensures.ok (λ n. (after_first g c n).entries)

pub returns-then-is_empty-clause-err : goal.returns-then-is_empty-clause-err
returns-then-is_empty-clause-err g c = on_err c.put_first.result _ _ c.put_first.ensures.err (λ n. ap (λ ps. pages_of ps) n)

pub find-sought-requires : goal.find-sought-requires
find-sought-requires g c = subst (λ ps. AreLaid g.K.Ord.cmp (pages_of ps)) (sym c.deref.ensures.value) c.requires

pub index-requires : goal.index-requires
index-requires g c =
    let full : 0 < length c.args.pages.now.items = omega (arith, filled _ (sym c.is_empty.ensures ∙ c.if-is_empty.false), c.args.pages.now.ok.0) in
    let inside = inside_pages g.K.Ord.cmp g.met.K.Ord.total c.args.pages.now.items c.deref.result.now c.deref-2.result.now.0 c.find-sought.result.page
    c.find-sought.result.place full c.deref.ensures.value c.find-sought.ensures.place in
    omega (arith, inside, c.args.pages.now.ok.0)

pub is_full-requires : goal.is_full-requires
is_full-requires g c =
    let full : 0 < length c.args.pages.now.items = omega (arith, filled _ (sym c.is_empty.ensures ∙ c.if-is_empty.false), c.args.pages.now.ok.0) in
    let inside = inside_pages g.K.Ord.cmp g.met.K.Ord.total c.args.pages.now.items c.deref.result.now c.deref-2.result.now.0 c.find-sought.result.page
    c.find-sought.result.place full c.deref.ensures.value c.find-sought.ensures.place in
    subst (λ s. length s ≤ 64) (sym c.deref-3.ensures.value)
    (page_short c.args.pages.now.items c.find-sought.result.page c.index.result.now c.deref-page.result.now c.requires.sizes inside c.index.ensures
    c.deref-page.ensures)

pub split_page-requires : goal.split_page-requires
split_page-requires g c =
    let ps = pages_of c.args.pages.now.items in
    let full : 0 < length c.args.pages.now.items = omega (arith, filled _ (sym c.is_empty.ensures ∙ c.if-is_empty.false), c.args.pages.now.ok.0) in
    let h = here g.K.Ord.cmp g.met.K.Ord.total c.args.pages.now.items c.deref.result.now c.args.entry.value c.deref-2.result.now c.find-sought.result.page
    c.find-sought.result.place c.index.result.now c.deref-page.result.now c.deref-3.result.now full c.deref.ensures.value c.deref-2.ensures
    c.find-sought.ensures.place c.index.ensures c.deref-page.ensures c.deref-3.ensures.value in
    record {
      page = omega (arith, h.inside, c.args.pages.now.ok.0, length-map c.args.pages.now.items (λ p. shared p.value.items));
      at = fits_at g.K.Ord.cmp g.met.K.Ord.total c.args.entry.value.0 ps c.find-sought.result.page c.find-sought.result.place h.place;
      next = fits_next g.K.Ord.cmp g.met.K.Ord.total c.args.entry.value.0 ps c.find-sought.result.page c.find-sought.result.place h.place;
      size = (page_sized ps c.find-sought.result.page c.requires.sizes h.inside).1;
      full = omega (arith, h.long, c.is_full.ensures.full c.if-is_full.true);
    }

after_split : (g : Over) (c : goal.After-split_page g) →
    pages_of c.split_page.new.pages.items ≡
    replaced (pages_of c.args.pages.now.items) c.find-sought.result.page
    (halves (placed (page_at (pages_of c.args.pages.now.items) c.find-sought.result.page) c.find-sought.result.place c.args.entry.value)) →
    AreAfter g.K.Ord.cmp (pages_of c.split_page.new.pages.items)
    (put g.K.Ord.cmp (joined (pages_of c.args.pages.now.items)) c.args.entry.value.0 c.args.entry.value.1)
after_split g c n =
    let full : 0 < length c.args.pages.now.items = omega (arith, filled _ (sym c.is_empty.ensures ∙ c.if-is_empty.false), c.args.pages.now.ok.0) in
    let h = here g.K.Ord.cmp g.met.K.Ord.total c.args.pages.now.items c.deref.result.now c.args.entry.value c.deref-2.result.now c.find-sought.result.page
    c.find-sought.result.place c.index.result.now c.deref-page.result.now c.deref-3.result.now full c.deref.ensures.value c.deref-2.ensures
    c.find-sought.ensures.place c.index.ensures c.deref-page.ensures c.deref-3.ensures.value in
    put_two g.K.Ord.cmp g.met.K.Ord.total c.args.entry.value.0 (pages_of c.args.pages.now.items) (pages_of c.split_page.new.pages.items)
    c.find-sought.result.page c.find-sought.result.place c.args.entry.value.1 c.requires h.place h.inside
    (omega (arith, h.long, c.is_full.ensures.full c.if-is_full.true)) n

pub returns-then-is_full-clause-laid : goal.returns-then-is_full-clause-laid
returns-then-is_full-clause-laid g c =
    by_outcome c.split_page.result _ _ _ c.split_page.ensures.ok c.split_page.ensures.err
    (λ n. (after_split g c n).laid)
    (λ n. subst (λ ps. AreLaid g.K.Ord.cmp (pages_of ps)) (sym n) c.requires)

pub returns-then-is_full-clause-ok : goal.returns-then-is_full-clause-ok
returns-then-is_full-clause-ok g c = on_ok c.split_page.result _ _ c.split_page.ensures.ok (λ n. (after_split g c n).entries)

pub returns-then-is_full-clause-err : goal.returns-then-is_full-clause-err
returns-then-is_full-clause-err g c = on_err c.split_page.result _ _ c.split_page.ensures.err (λ n. ap (λ ps. pages_of ps) n)

pub set_entry-requires : goal.set_entry-requires
set_entry-requires g c =
    let ps = pages_of c.args.pages.now.items in
    let full : 0 < length c.args.pages.now.items = omega (arith, filled _ (sym c.is_empty.ensures ∙ c.if-is_empty.false), c.args.pages.now.ok.0) in
    let h = here g.K.Ord.cmp g.met.K.Ord.total c.args.pages.now.items c.deref.result.now c.args.entry.value c.deref-2.result.now c.find-sought.result.page
    c.find-sought.result.place c.index.result.now c.deref-page.result.now c.deref-3.result.now full c.deref.ensures.value c.deref-2.ensures
    c.find-sought.ensures.place c.index.ensures c.deref-page.ensures c.deref-3.ensures.value in
    record {
      page = omega (arith, h.inside, c.args.pages.now.ok.0, length-map c.args.pages.now.items (λ p. shared p.value.items));
      at = fits_at g.K.Ord.cmp g.met.K.Ord.total c.args.entry.value.0 ps c.find-sought.result.page c.find-sought.result.place h.place;
      next = fits_next g.K.Ord.cmp g.met.K.Ord.total c.args.entry.value.0 ps c.find-sought.result.page c.find-sought.result.place h.place;
      size = (page_sized ps c.find-sought.result.page c.requires.sizes h.inside).1;
    }

after_set : (g : Over) (c : goal.After-set_entry g) →
    pages_of c.set_entry.new.pages.items ≡
    replaced (pages_of c.args.pages.now.items) c.find-sought.result.page
    (placed (page_at (pages_of c.args.pages.now.items) c.find-sought.result.page) c.find-sought.result.place c.args.entry.value ∷ []) →
    AreAfter g.K.Ord.cmp (pages_of c.set_entry.new.pages.items)
    (put g.K.Ord.cmp (joined (pages_of c.args.pages.now.items)) c.args.entry.value.0 c.args.entry.value.1)
after_set g c n =
    let full : 0 < length c.args.pages.now.items = omega (arith, filled _ (sym c.is_empty.ensures ∙ c.if-is_empty.false), c.args.pages.now.ok.0) in
    let h = here g.K.Ord.cmp g.met.K.Ord.total c.args.pages.now.items c.deref.result.now c.args.entry.value c.deref-2.result.now c.find-sought.result.page
    c.find-sought.result.place c.index.result.now c.deref-page.result.now c.deref-3.result.now full c.deref.ensures.value c.deref-2.ensures
    c.find-sought.ensures.place c.index.ensures c.deref-page.ensures c.deref-3.ensures.value in
    put_one g.K.Ord.cmp g.met.K.Ord.total c.args.entry.value.0 (pages_of c.args.pages.now.items) (pages_of c.set_entry.new.pages.items)
    c.find-sought.result.page c.find-sought.result.place c.args.entry.value.1 c.requires h.place h.inside
    (omega (arith, h.long, c.is_full.ensures.room c.if-is_full.false)) n

pub returns-clause-laid : goal.returns-clause-laid
returns-clause-laid g c =
    by_outcome c.set_entry.result _ _ _ c.set_entry.ensures.ok c.set_entry.ensures.err
    (λ n. (after_set g c n).laid)
    (λ n. subst (AreLaid g.K.Ord.cmp) (sym n) c.requires)

pub returns-clause-ok : goal.returns-clause-ok
returns-clause-ok g c = on_ok c.set_entry.result _ _ c.set_entry.ensures.ok (λ n. (after_set g c n).entries)

pub returns-clause-err : goal.returns-clause-err
returns-clause-err g c = c.set_entry.ensures.err
