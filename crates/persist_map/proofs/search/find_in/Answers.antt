use Rattle.std.proofs.Common.{arith, ◌≡◌, ◌<◌, ◌+◌, ◌-◌, ◌/◌, length, ℕ, ◌∙◌, ap, sym, get_or}
use Rattle.std.proofs.lemmas.List.{length-map}
use Rattle.persist_map.specs.Pages.{shared}
use Rattle.persist_map.proofs.Halving.{halving_fits, halving_step}
use Rattle.persist_map.proofs.Reading.{read_entry}
use Rattle.persist_map.proofs.search.find_in.Goals as goal

pub overflow_add-asked : goal.overflow_add-asked
overflow_add-asked g c = omega (arith, halving_fits _ _ _ c.loop-low.invariant.halving c.loop-low.invariant.small)

pub loop-low-preserved-in-Less : goal.loop-low-preserved-in-Less
loop-low-preserved-in-Less g c =
    let i = c.loop-low.invariant in
    let m : ℕ = c.loop-low.low + (c.loop-low.high - c.loop-low.low) / 2 in
    let inside : m < length c.args.page.now = omega arith in
    record {
      small = i.small;
      order = omega arith;
      inside = omega arith;
      last = i.last;
      next = λ d h. ap (λ e. g.K.Ord.cmp c.args.key.now e.0)
          (read_entry c.args.page.now m c.index-page-middle.result inside c.index-page-middle.is d ∙ sym c.deref.ensures) ∙ sym c.cmp.ensures ∙ c.in-Less.is;
      halving = halving_step _ _ _ _ i.halving (omega arith) (omega arith);
    }

pub loop-low-preserved : goal.loop-low-preserved
loop-low-preserved g c =
    let i = c.loop-low.invariant in
    let m : ℕ = c.loop-low.low + (c.loop-low.high - c.loop-low.low) / 2 in
    let inside : m < length c.args.page.now = omega arith in
    let same : m + 1 - 1 ≡ m = omega arith in
    record {
      small = i.small;
      order = omega arith;
      inside = i.inside;
      last = λ d h. ap (λ n. g.K.Ord.cmp c.args.key.now (get_or (shared c.args.page.now) n d).0) same ∙
          ap (λ e. g.K.Ord.cmp c.args.key.now e.0)
          (read_entry c.args.page.now m c.index-page-middle.result inside c.index-page-middle.is d ∙ sym c.deref.ensures) ∙ sym c.cmp.ensures ∙ c.in-Greater.is;
      next = i.next;
      halving = halving_step _ _ _ _ i.halving (omega arith) (omega arith);
    }

pub returns-clause-place : goal.returns-clause-place
returns-clause-place g c =
    let i = c.loop-low.invariant in
    let e : c.loop-low.low ≡ c.loop-low.high = omega arith in
    let long = length-map c.args.page.now (λ p. p.value) in
    record {
      inside = omega (arith, long, i.inside);
      last = i.last;
      next = λ d h. ap (λ n. g.K.Ord.cmp c.args.key.now (get_or (shared c.args.page.now) n d).0) e ∙ i.next d (omega (arith, long, h, e));
    }
