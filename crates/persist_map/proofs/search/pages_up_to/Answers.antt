use Rattle.std.specs.Ordering.{is_lt}
use Rattle.std.proofs.lemmas.List.{length-map}
use Rattle.std.proofs.Common.{arith, ◌≡◌, ◌<◌, ◌+◌, ◌-◌, ◌/◌, length, ℕ, ◌∙◌, ap, sym, get_or}
use Rattle.persist_map.specs.Pages.{shared, pages_of}
use Rattle.persist_map.specs.Search.{begins_after}
use Rattle.persist_map.proofs.Halving.{halving_fits, halving_step, reaching_step, reaching_ends}
use Rattle.persist_map.proofs.Reading.{page_filled, page_begins}
use Rattle.persist_map.proofs.search.pages_up_to.Goals as goal

pub overflow_add-asked : goal.overflow_add-asked
overflow_add-asked g c = omega (arith, halving_fits _ _ _ c.loop-low.invariant.halving c.loop-low.invariant.small)

pub index-requires : goal.index-requires
index-requires g c = omega (
  arith,
  page_filled c.args.pages.now _ c.index-pages-middle.result c.deref-page.result.now c.requires (omega arith) c.index-pages-middle.is
      c.deref-page.ensures,
)

pub loop-low-preserved-then-is_lt : goal.loop-low-preserved-then-is_lt
loop-low-preserved-then-is_lt g c =
    let i = c.loop-low.invariant in
    let m : ℕ = c.loop-low.low + (c.loop-low.high - c.loop-low.low) / 2 in
    let inside : m < length c.args.pages.now = omega arith in
    let full = page_filled c.args.pages.now m c.index-pages-middle.result c.deref-page.result.now c.requires inside c.index-pages-middle.is c.deref-page.ensures
    in
    record {
      small = i.small;
      order = omega arith;
      inside = omega arith;
      last = i.last;
      next = λ d h. page_begins g.K.Ord.cmp c.args.key.now c.args.pages.now m c.index-pages-middle.result c.deref-page.result.now c.index.result.now full inside
          c.index-pages-middle.is c.deref-page.ensures c.index.ensures d
          ∙ ap (λ e. is_lt (g.K.Ord.cmp c.args.key.now e.0)) (sym c.deref.ensures) ∙ ap is_lt (sym c.cmp.ensures) ∙ sym c.is_lt.ensures ∙ c.if-is_lt.true;
      halving = halving_step _ _ _ _ i.halving (omega arith) (omega arith);
      reaching = reaching_step _ _ _ _ i.reaching (omega arith);
    }

pub loop-low-preserved : goal.loop-low-preserved
loop-low-preserved g c =
    let i = c.loop-low.invariant in
    let m : ℕ = c.loop-low.low + (c.loop-low.high - c.loop-low.low) / 2 in
    let inside : m < length c.args.pages.now = omega arith in
    let same : m + 1 - 1 ≡ m = omega arith in
    let full = page_filled c.args.pages.now m c.index-pages-middle.result c.deref-page.result.now c.requires inside c.index-pages-middle.is c.deref-page.ensures
    in
    record {
      small = i.small;
      order = omega arith;
      inside = i.inside;
      last = λ d h. ap (λ n. begins_after g.K.Ord.cmp c.args.key.now (get_or (pages_of c.args.pages.now) n d)) same ∙
          page_begins g.K.Ord.cmp c.args.key.now c.args.pages.now m c.index-pages-middle.result c.deref-page.result.now c.index.result.now full inside
          c.index-pages-middle.is c.deref-page.ensures c.index.ensures d
          ∙ ap (λ e. is_lt (g.K.Ord.cmp c.args.key.now e.0)) (sym c.deref.ensures) ∙ ap is_lt (sym c.cmp.ensures) ∙ sym c.is_lt.ensures ∙ c.if-is_lt.false;
      next = i.next;
      halving = halving_step _ _ _ _ i.halving (omega arith) (omega arith);
      reaching = reaching_step _ _ _ _ i.reaching (omega arith);
    }

pub returns-clause-place : goal.returns-clause-place
returns-clause-place g c =
    let i = c.loop-low.invariant in
    let e : c.loop-low.low ≡ c.loop-low.high = omega arith in
    let long = length-map c.args.pages.now (λ p. shared p.value.items) in
    record {
      inside = omega (arith, long, i.inside);
      last = i.last;
      next = λ d h. ap (λ n. begins_after g.K.Ord.cmp c.args.key.now (get_or (pages_of c.args.pages.now) n d)) e ∙ i.next d (omega (arith, long, h, e));
    }

pub returns-clause-small : goal.returns-clause-small
returns-clause-small g c = halving_fits _ _ _ c.loop-low.invariant.halving c.loop-low.invariant.small

pub returns-clause-at_least : goal.returns-clause-at_least
returns-clause-at_least g c = reaching_ends _ _ _ c.loop-low.invariant.reaching (omega arith)
