use Rattle.std.proofs.Common.{arith, ◌∙◌, ap, refl, sym, subst, ◌<◌, length, ◌++◌}
use Rattle.std.proofs.lemmas.List.{append-nil, length-map, length-take-le, take-map}
use Rattle.std.specs.List.{filter, AllByRecursion}
use Rattle.std.specs.Option.{option_map}
use Rattle.persist_map.specs.Entries.{is_before}
use Rattle.persist_map.specs.Pages.{shared, pages_of, joined, IsPage}
use Rattle.persist_map.proofs.Changes.{filled, inside_pages, none_left}
use Rattle.persist_map.proofs.Laid.{all_take}
use Rattle.persist_map.proofs.Ranges.{all_kept}
use Rattle.persist_map.proofs.Spans.{end_none, end_read, found_fits, place_fits}
use Rattle.persist_map.proofs.range.ending.Goals as goal

pub invariant_of-result : goal.invariant_of-result
invariant_of-result g c = c.requires.rest.sizes

pub slice_bounds-front-end : goal.slice_bounds-front-end
slice_bounds-front-end g c =
    let fits = found_fits g.K.Ord.cmp g.met.K.Ord.total c.in-Some.end.now (shared c.args.front.now) c.find_in-place.result.0 c.find_in-place.ensures.place in
    sym (length-take-le c.begin_of.result c.args.front.now (omega (arith, fits, c.begin_of.ensures, length-map c.args.front.now (λ p. p.value))))

pub invariant_of-result-then-is_empty : goal.invariant_of-result-then-is_empty
invariant_of-result-then-is_empty g c = c.requires.rest.sizes

pub find-sought-requires : goal.find-sought-requires
find-sought-requires g c = c.requires.rest

pub bounds-rest-sought : goal.bounds-rest-sought
bounds-rest-sought g c =
    let full : 0 < length c.args.rest.now = omega (arith, filled _ (sym c.is_empty.ensures ∙ c.if-is_empty.false)) in
    inside_pages g.K.Ord.cmp g.met.K.Ord.total c.args.rest.now c.args.rest.now c.in-Some.end.now c.find-sought.result.page c.find-sought.result.place full refl
    c.find-sought.ensures.place

pub slice_bounds-result-end-2 : goal.slice_bounds-result-end-2
slice_bounds-result-end-2 g c =
    let full : 0 < length c.args.rest.now = omega (arith, filled _ (sym c.is_empty.ensures ∙ c.if-is_empty.false)) in
    sym (length-take-le c.begin_of-2.result c.deref.result.now
    (place_fits g.K.Ord.cmp g.met.K.Ord.total c.args.rest.now c.in-Some.end.now c.find-sought.result.page c.begin_of-2.result c.find-sought.result.place
    c.index-rest-sought.result c.deref-page.result.now c.deref.result.now full c.find-sought.ensures.place c.begin_of-2.ensures c.index-rest-sought.is
    c.deref-page.ensures c.deref.ensures.value))

pub returns-in_default : goal.returns-in_default
returns-in_default g c =
    let es = shared c.args.front.now ++ joined (pages_of c.args.rest.now) in
    ap (λ l. shared c.args.front.now ++ l) (append-nil (joined (pages_of c.args.rest.now)))
    ∙ sym (ap (λ s. filter (λ e. is_before g.K.Ord.cmp (option_map (λ k. k.now) s) e.0) es) c.in_default.is ∙ all_kept es)

pub returns-then-is_empty : goal.returns-then-is_empty
returns-then-is_empty g c =
    let es = shared c.args.front.now ++ joined (pages_of c.args.rest.now) in
    end_none g.K.Ord.cmp g.met.K.Ord.total c.args.front.now c.args.rest.now c.in-Some.end.now c.begin_of.result c.find_in-place.result.0 c.requires.front
    c.find_in-place.ensures.place c.begin_of.ensures (none_left _ (sym c.is_empty.ensures ∙ c.if-is_empty.true))
    ∙ sym (ap (λ s. filter (λ e. is_before g.K.Ord.cmp (option_map (λ k. k.now) s) e.0) es) c.in-Some.is)

pub invariant_of-result-2 : goal.invariant_of-result-2
invariant_of-result-2 g c =
    subst (AllByRecursion IsPage) (take-map (λ p. shared p.value.items) c.find-sought.result.page c.args.rest.now)
    (all_take IsPage c.find-sought.result.page (pages_of c.args.rest.now) c.requires.rest.sizes)

pub returns : goal.returns
returns g c =
    let es = shared c.args.front.now ++ joined (pages_of c.args.rest.now) in
    let full : 0 < length c.args.rest.now = omega (arith, filled _ (sym c.is_empty.ensures ∙ c.if-is_empty.false)) in
    end_read g.K.Ord.cmp g.met.K.Ord.total c.args.front.now c.args.rest.now c.in-Some.end.now c.begin_of.result c.begin_of-2.result c.find-sought.result.page
    c.find_in-place.result.0 c.find-sought.result.place c.index-rest-sought.result c.deref-page.result.now c.deref.result.now c.requires.front
    c.find_in-place.ensures.place c.begin_of.ensures full c.find-sought.ensures.place c.begin_of-2.ensures c.index-rest-sought.is c.deref-page.ensures
    c.deref.ensures.value
    ∙ sym (ap (λ s. filter (λ e. is_before g.K.Ord.cmp (option_map (λ k. k.now) s) e.0) es) c.in-Some.is)
