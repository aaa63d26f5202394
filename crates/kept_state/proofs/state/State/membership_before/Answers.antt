use Rattle.std.proofs.Common.{◌≡◌, ◌≤◌, ◌<◌, ◌+◌, ◌-◌, ℕ, List, Some, None, length, take, get_or, sym, ap, ◌∙◌, arith}
use Rattle.std.proofs.lemmas.List.{take_all}
use Rattle.std.specs.declared.alloc.Global.{Global}
use Rattle.std.specs.declared.sync.Arc.{Arc}
use Rattle.fab_types.specs.declared.membership.Membership.{Membership}
use Rattle.ledger_model.specs.Chain.{Chain}
use Rattle.persist_map.specs.Pages.{shared}
use Rattle.world_state.specs.Kept.{Kept, IsKeptOf}
use Rattle.kept_state.specs.Standing.{membership_before}
use Rattle.kept_state.proofs.Before.{last_before, newer, not_newer, one_more, stands_before}
use Rattle.kept_state.proofs.state.State.membership_before.Goals as goal

-- the first of these amendments, and the one at a place
module _ (n : ℕ) (all : List (Arc (ℕ × Membership) Global)) (count : ℕ) (last : Arc (ℕ × Membership) Global) (some : 0 < count) (inside : count ≤ length all)
    (is : last ≡ get_or all (count - 1) last) where
  with_last : last_before n None (shared (take count all)) ≡ last_before n None (shared (take (count - 1 + 1) all))
  with_last = let same : count ≡ count - 1 + 1 = omega (arith, some) in ap (λ (k : ℕ). last_before n None (shared (take k all))) same

  last_is : last.value.0 < n → last_before n None (shared (take count all)) ≡ Some last.value.1
  last_is below = with_last ∙ one_more n all (count - 1) last (omega (arith, some, inside)) is ∙ newer n last.value.0 last.value.1 _ below

  last_is_not : n ≤ last.value.0 → last_before n None (shared (take count all)) ≡ last_before n None (shared (take (count - 1) all))
  last_is_not above = with_last ∙ one_more n all (count - 1) last (omega (arith, some, inside)) is ∙ not_newer n last.value.0 last.value.1 _ above

-- what the last of all amendments before a block says of a chain
told : (n : ℕ) (all : List (Arc (ℕ × Membership) Global)) (kept : Kept) (chain : Chain) → shared all ≡ kept.amended → IsKeptOf kept chain →
    last_before n None (shared all) ≡ membership_before n chain
told n all kept chain is of = ap (last_before n None) (is ∙ of.amended) ∙ stands_before n chain

pub loop-count-init : goal.loop-count-init
loop-count-init c =
    let all = c.self.inside.amended.items in
    record {
      inside = omega (arith, c.len-count.ensures);
      told = ap (λ l. last_before c.args.number None (shared l)) (take_all c.len-count.result all (omega (arith, c.len-count.ensures)));
    }

pub index-requires : goal.index-requires
index-requires c = omega (arith, c.loop-count.invariant.inside, c.loop-count-test.true)

pub returns-then-amendment-number : goal.returns-then-amendment-number
returns-then-amendment-number c = λ chain of.
    let n = c.args.number in
    let all = c.self.inside.amended.items in
    let i = c.loop-count.invariant in
    let below : c.index.result.now.value.0 < n = omega (arith, ap (λ (a : ℕ × Membership). a.0) c.deref-amendment.ensures, c.if-amendment-number.true) in
    ap (λ (a : ℕ × Membership). Some a.1) c.deref-amendment.ensures
    ∙ sym (last_is n all c.loop-count.count c.index.result.now c.loop-count-test.true i.inside c.index.ensures below)
    ∙ i.told ∙ told n all c.args.self.now chain (ap (λ (k : Kept). k.amended) c.self.view_is) of

pub loop-count-preserved : goal.loop-count-preserved
loop-count-preserved c =
    let n = c.args.number in
    let all = c.self.inside.amended.items in
    let i = c.loop-count.invariant in
    let above : n ≤ c.index.result.now.value.0 = omega (arith, ap (λ (a : ℕ × Membership). a.0) c.deref-amendment.ensures, c.if-amendment-number.false) in
    record {
      inside = omega (arith, i.inside);
      told = sym (last_is_not n all c.loop-count.count c.index.result.now c.loop-count-test.true i.inside c.index.ensures above) ∙ i.told;
    }

pub returns : goal.returns
returns c = λ chain of.
    let n = c.args.number in
    let all = c.self.inside.amended.items in
    let none : c.loop-count.count ≡ 0 = omega (arith, c.loop-count-test.false) in
    sym (ap (λ (k : ℕ). last_before n None (shared (take k all))) none)
    ∙ c.loop-count.invariant.told ∙ told n all c.args.self.now chain (ap (λ (k : Kept). k.amended) c.self.view_is) of
