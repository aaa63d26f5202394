use Rattle.std.proofs.Common.{arith, ◌≡◌, ◌<◌, ◌+◌, ◌-◌, length, ◌∙◌, ap, sym, subst, []}
use Rattle.std.proofs.lemmas.List.{length-map}
use Rattle.persist_map.specs.Pages.{shared, pages_of}
use Rattle.persist_map.specs.Search.{AreUpTo}
use Rattle.persist_map.proofs.Reading.{read_page, page_short}
use Rattle.persist_map.proofs.Laid.{gap_at_start, place_in_page}
use Rattle.persist_map.proofs.search.find.Goals as goal

pub returns-then-count-eq0-clause-place : goal.returns-then-count-eq0-clause-place
returns-then-count-eq0-clause-place g c =
    gap_at_start g.K.Ord.cmp g.met.K.Ord.total c.args.key.now (pages_of c.args.pages.now) c.requires
    (subst (AreUpTo g.K.Ord.cmp c.args.key.now (pages_of c.args.pages.now)) c.if-count-eq0.true c.pages_up_to-count.ensures.place)

pub overflow_add-result : goal.overflow_add-result
overflow_add-result g c =
    let inside : c.pages_up_to-count.result.0 - 1 < length c.args.pages.now =
    omega (arith, c.pages_up_to-count.ensures.place.inside, length-map c.args.pages.now (λ p. shared p.value.items)) in
    let short = page_short c.args.pages.now (c.pages_up_to-count.result.0 - 1) c.index-pages-page.result c.deref-entries.result.now c.requires.sizes inside
    c.index-pages-page.is c.deref-entries.ensures in
    omega (arith, c.pages_up_to-count.ensures.small, c.find_in-place.ensures.count 7 (omega (arith, short, ap length c.deref.ensures.value)))

pub returns-clause-place : goal.returns-clause-place
returns-clause-place g c =
    let n = c.pages_up_to-count.result.0 in
    let inside : n - 1 < length c.args.pages.now =
    omega (arith, c.pages_up_to-count.ensures.place.inside, length-map c.args.pages.now (λ p. shared p.value.items)) in
    let same : n ≡ n - 1 + 1 = omega arith in
    place_in_page g.K.Ord.cmp g.met.K.Ord.total c.args.key.now (pages_of c.args.pages.now) (n - 1) (shared c.deref.result.now) c.find_in-place.result.0
    c.requires
    (subst (AreUpTo g.K.Ord.cmp c.args.key.now (pages_of c.args.pages.now)) same c.pages_up_to-count.ensures.place)
    (read_page c.args.pages.now (n - 1) c.index-pages-page.result inside c.index-pages-page.is [] ∙ ap (λ v. shared v.items) (sym c.deref-entries.ensures) ∙
    ap shared (sym c.deref.ensures.value))
    c.find_in-place.ensures.place

pub returns-clause-at_most : goal.returns-clause-at_most
returns-clause-at_most g c d h =
    let inside : c.pages_up_to-count.result.0 - 1 < length c.args.pages.now =
    omega (arith, c.pages_up_to-count.ensures.place.inside, length-map c.args.pages.now (λ p. shared p.value.items)) in
    let short = page_short c.args.pages.now (c.pages_up_to-count.result.0 - 1) c.index-pages-page.result c.deref-entries.result.now c.requires.sizes inside
    c.index-pages-page.is c.deref-entries.ensures in
    omega (arith, c.pages_up_to-count.ensures.at_most d h, c.find_in-place.ensures.count 7 (omega (arith, short, ap length c.deref.ensures.value)))
