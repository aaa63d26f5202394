use Rattle.std.proofs.Common.{arith, ◌≡◌, ◌∙◌, Bool, List, [], ◌∷◌, ap, refl, sym, ◌<◌, length}
use Rattle.std.specs.List.{filter}
use Rattle.std.specs.Option.{option_map}
use Rattle.persist_map.specs.Entries.{is_from}
use Rattle.persist_map.specs.Pages.{Page, pages_of, joined}
use Rattle.persist_map.proofs.Changes.{filled, inside_pages, none_left}
use Rattle.persist_map.proofs.Ordered.{ascend_nil}
use Rattle.persist_map.proofs.Ranges.{all_kept}
use Rattle.persist_map.proofs.Spans.{place_fits, rest_laid, front_ascends, tail_read}
use Rattle.persist_map.proofs.range.starting.Goals as goal

pub returns-in_default-clause-entries : goal.returns-in_default-clause-entries
returns-in_default-clause-entries g c =
    let es = joined (pages_of c.args.pages.now) in
    sym (ap (λ s. filter (λ e. is_from g.K.Ord.cmp (option_map (λ k. k.now) s) e.0) es) c.in_default.is ∙ all_kept es)

pub returns-in_default-clause-front : goal.returns-in_default-clause-front
returns-in_default-clause-front g c = ascend_nil g.K.Ord.cmp

pub returns-in_default-clause-rest : goal.returns-in_default-clause-rest
returns-in_default-clause-rest g c = c.requires

-- no pages have no entries
none_kept : {K X : Type 0} (f : K × X → Bool) (ps : List (Page K X)) → length ps ≡ 0 → joined (pages_of ps) ≡ filter f (joined (pages_of ps))
none_kept f [] h = refl
none_kept f (p ∷ ps) h = absurd (omega (arith, h))

pub returns-then-is_empty-clause-entries : goal.returns-then-is_empty-clause-entries
returns-then-is_empty-clause-entries g c = none_kept _ c.args.pages.now (none_left _ (sym c.is_empty.ensures ∙ c.if-is_empty.true))

pub returns-then-is_empty-clause-front : goal.returns-then-is_empty-clause-front
returns-then-is_empty-clause-front g c = ascend_nil g.K.Ord.cmp

pub returns-then-is_empty-clause-rest : goal.returns-then-is_empty-clause-rest
returns-then-is_empty-clause-rest g c = c.requires

pub find-sought-requires : goal.find-sought-requires
find-sought-requires g c = c.requires

pub bounds-pages-sought : goal.bounds-pages-sought
bounds-pages-sought g c =
    let full : 0 < length c.args.pages.now = omega (arith, filled _ (sym c.is_empty.ensures ∙ c.if-is_empty.false)) in
    inside_pages g.K.Ord.cmp g.met.K.Ord.total c.args.pages.now c.args.pages.now c.in-Some.start.now c.find-sought.result.page c.find-sought.result.place full
    refl c.find-sought.ensures.place

pub slice_bounds-result-count : goal.slice_bounds-result-count
slice_bounds-result-count g c =
    let full : 0 < length c.args.pages.now = omega (arith, filled _ (sym c.is_empty.ensures ∙ c.if-is_empty.false)) in
    place_fits g.K.Ord.cmp g.met.K.Ord.total c.args.pages.now c.in-Some.start.now c.find-sought.result.page c.begin_of-at.result c.find-sought.result.place
    c.index-pages-sought.result c.deref-page.result.now c.deref.result.now full c.find-sought.ensures.place c.begin_of-at.ensures c.index-pages-sought.is
    c.deref-page.ensures c.deref.ensures.value

pub slice_bounds-result-count-2 : goal.slice_bounds-result-count-2
slice_bounds-result-count-2 g c =
    let full : 0 < length c.args.pages.now = omega (arith, filled _ (sym c.is_empty.ensures ∙ c.if-is_empty.false)) in
    let inside = inside_pages g.K.Ord.cmp g.met.K.Ord.total c.args.pages.now c.args.pages.now c.in-Some.start.now c.find-sought.result.page
    c.find-sought.result.place full refl c.find-sought.ensures.place in
    omega (arith, inside)

pub returns-clause-entries : goal.returns-clause-entries
returns-clause-entries g c =
    let es = joined (pages_of c.args.pages.now) in
    let full : 0 < length c.args.pages.now = omega (arith, filled _ (sym c.is_empty.ensures ∙ c.if-is_empty.false)) in
    tail_read g.K.Ord.cmp g.met.K.Ord.total c.args.pages.now c.in-Some.start.now c.find-sought.result.page c.begin_of-at.result c.find-sought.result.place
    c.index-pages-sought.result c.deref-page.result.now c.deref.result.now full c.find-sought.ensures.place c.begin_of-at.ensures c.index-pages-sought.is
    c.deref-page.ensures c.deref.ensures.value
    ∙ sym (ap (λ s. filter (λ e. is_from g.K.Ord.cmp (option_map (λ k. k.now) s) e.0) es) c.in-Some.is)

pub returns-clause-front : goal.returns-clause-front
returns-clause-front g c =
    let full : 0 < length c.args.pages.now = omega (arith, filled _ (sym c.is_empty.ensures ∙ c.if-is_empty.false)) in
    front_ascends g.K.Ord.cmp g.met.K.Ord.total c.args.pages.now c.in-Some.start.now c.find-sought.result.page c.begin_of-at.result c.find-sought.result.place
    c.index-pages-sought.result c.deref-page.result.now c.deref.result.now full c.requires c.find-sought.ensures.place c.index-pages-sought.is
    c.deref-page.ensures c.deref.ensures.value

pub returns-clause-rest : goal.returns-clause-rest
returns-clause-rest g c =
    let full : 0 < length c.args.pages.now = omega (arith, filled _ (sym c.is_empty.ensures ∙ c.if-is_empty.false)) in
    rest_laid g.K.Ord.cmp g.met.K.Ord.total c.args.pages.now c.in-Some.start.now c.find-sought.result.page c.find-sought.result.place full c.requires
    c.find-sought.ensures.place
