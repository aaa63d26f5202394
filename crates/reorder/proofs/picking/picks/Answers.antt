use Rattle.std.proofs.Common.{◌≡◌, ℕ, ◌<◌, ◌&&◌, Bool, true, false, List, [], length, get_or, set, drop, sym, ap, ◌∙◌, subst, arith}
use Rattle.std.proofs.lemmas.List.{append-nil, length-set}
use Rattle.std.specs.List.{remove}
use Rattle.reorder.specs.Plan.{IsDone, IsPlan, waits, tally, all_but}
use Rattle.reorder.specs.Counts.{IsAscending, IsListed, IsNext}
use Rattle.reorder.specs.Cells.{edge_at}
use Rattle.reorder.proofs.Plans.{length-all_but, waits_within}
use Rattle.reorder.proofs.Listing.{ascending_removed, taken_is, taken_waits, listed_taken, listed_within}
use Rattle.reorder.proofs.Counted.{AreLowered, counted_first, counted_unpick, into_counted, out_counted, same_counts, same_next, same_lowered}
use Rattle.reorder.proofs.Counted.{plan_more, none_waits, put_back}
use Rattle.reorder.proofs.picking.picks.Goals as goal

pub counts_into-requires-clause-long : goal.counts_into-requires-clause-long
counts_into-requires-clause-long c =
    ap length c.deref-2.ensures.value ∙ ap length c.in_ok-left.ensures ∙ length-all_but c.args.gone.now c.args.edges.now.size

pub counts_out-requires-clause-long : goal.counts_out-requires-clause-long
counts_out-requires-clause-long c =
    ap length c.deref-3.ensures.value ∙ ap length c.in_ok-left.ensures ∙ length-all_but c.args.gone.now c.args.edges.now.size

pub loop-next-init : goal.loop-next-init
loop-next-init c =
    let n = c.args.edges.now.size in
    let edge = edge_at c.args.edges.now in
    let gone = c.args.gone.now in
    let left = c.in_ok-left.left.items in
    let into = c.in_ok-into.into.items in
    let out = c.in_ok-out.out.items in
    let left_is : left ≡ all_but gone n = c.in_ok-left.ensures in
    let long : length left ≡ n = ap length left_is ∙ length-all_but gone n in
    let into_is : (i : ℕ) → i < n → get_or into i 0 ≡ tally n (λ k. waits left k && edge k i) =
    subst (λ (x : List Bool). (i : ℕ) → i < n → get_or into i 0 ≡ tally n (λ k. waits x k && edge k i)) c.deref-2.ensures.value c.in_ok-into.ensures.each
    in
    let out_is : (i : ℕ) → i < n → get_or out i 0 ≡ tally n (λ k. waits left k && edge i k) =
    subst (λ (x : List Bool). (i : ℕ) → i < n → get_or out i 0 ≡ tally n (λ k. waits x k && edge i k)) c.deref-3.ensures.value c.in_ok-out.ensures.each
    in
    record {
      wait = left;
      listed = subst (λ (x : List Bool). IsListed x c.in_ok-waiting.waiting.items) c.deref.ensures.value c.in_ok-waiting.ensures;
      counted = counted_first n edge left into out long c.in_ok-into.ensures.long c.in_ok-out.ensures.long into_is out_is;
      goes_on = λ rest p. rw c.in_ok-picks.ensures.items (subst (λ (x : List Bool). IsPlan n edge x rest) left_is p);
    }

pub next_pick-requires-clause-inside : goal.next_pick-requires-clause-inside
next_pick-requires-clause-inside c = λ k d lt.
    let n = c.args.edges.now.size in
    let v = c.loop-next.invariant in
    let long : length c.deref-in-loop-next-2.result.now ≡ n = ap length c.deref-in-loop-next-2.ensures.value ∙ v.counted.into_long in
    let within : (p e : ℕ) → p < length c.deref-in-loop-next.result.now → get_or c.deref-in-loop-next.result.now p e < n =
    subst (λ (x : List ℕ). (p e : ℕ) → p < length x → get_or x p e < n) (sym c.deref-in-loop-next.ensures.value)
    (listed_within n v.wait c.loop-next.waiting.items v.counted.left_long v.listed)
    in
    let here = within k d lt in
    omega arith

pub take_out-requires-clause-ascending : goal.take_out-requires-clause-ascending
take_out-requires-clause-ascending c =
    let waiting = c.loop-next.waiting.items in
    let at = c.in-Some.next.at in
    let next : IsNext waiting c.loop-next.into.items c.loop-next.out.items at c.in-Some.next.pick =
    same_next waiting _ _ _ _ _ at c.in-Some.next.pick c.deref-in-loop-next.ensures.value c.deref-in-loop-next-2.ensures.value
    c.deref-in-loop-next-3.ensures.value c.in-Some.ensures in
    subst (λ (x : List ℕ). IsAscending x) (sym (c.deref-in-Some.ensures.value ∙ c.remove-i.ensures.items))
    (ascending_removed waiting at next.within c.loop-next.invariant.listed.ascending)

pub take_out-requires-clause-inside : goal.take_out-requires-clause-inside
take_out-requires-clause-inside c =
    let n = c.args.edges.now.size in
    let v = c.loop-next.invariant in
    let waiting = c.loop-next.waiting.items in
    let at = c.in-Some.next.at in
    let i = c.remove-i.result in
    let next : IsNext waiting c.loop-next.into.items c.loop-next.out.items at c.in-Some.next.pick =
    same_next waiting _ _ _ _ _ at c.in-Some.next.pick c.deref-in-loop-next.ensures.value c.deref-in-loop-next-2.ensures.value
    c.deref-in-loop-next-3.ensures.value c.in-Some.ensures in
    let listed = listed_taken v.wait waiting at i next.within c.remove-i.ensures.value v.listed in
    let long : length (set v.wait i false) ≡ n = length-set v.wait i false ∙ v.counted.left_long in
    subst (λ (x : List ℕ). (k d : ℕ) → k < length x → get_or x k d < n) (sym (c.deref-in-Some.ensures.value ∙ c.remove-i.ensures.items))
    (listed_within n (set v.wait i false) (remove waiting at) long listed)

pub take_out-requires-clause-into_counted : goal.take_out-requires-clause-into_counted
take_out-requires-clause-into_counted c =
    let edges = c.args.edges.now in
    let n = edges.size in
    let edge = edge_at edges in
    let v = c.loop-next.invariant in
    let waiting = c.loop-next.waiting.items in
    let at = c.in-Some.next.at in
    let i = c.remove-i.result in
    let next : IsNext waiting c.loop-next.into.items c.loop-next.out.items at c.in-Some.next.pick =
    same_next waiting _ _ _ _ _ at c.in-Some.next.pick c.deref-in-loop-next.ensures.value c.deref-in-loop-next-2.ensures.value
    c.deref-in-loop-next-3.ensures.value c.in-Some.ensures in
    let w = taken_waits v.wait waiting at i next.within c.remove-i.ensures.value v.listed in
    let inside = waits_within n v.wait i v.counted.left_long w in
    let within : (k : ℕ) → edge i k ≡ true → k < n = λ k e. waits_within n (get_or edges.rows.items i []) k (edges.square.1 i inside) e in
    let counted : (k : ℕ) → edge i k ≡ true → 0 < get_or c.loop-next.into.items k 0 =
    into_counted n edge v.wait c.loop-next.into.items c.loop-next.out.items i v.counted w within
    in
    subst (λ (x : List ℕ). (k : ℕ) → edge i k ≡ true → 0 < get_or x k 0) (sym c.deref_mut.ensures.value) counted

pub take_out-requires-clause-out_counted : goal.take_out-requires-clause-out_counted
take_out-requires-clause-out_counted c =
    let n = c.args.edges.now.size in
    let edge = edge_at c.args.edges.now in
    let v = c.loop-next.invariant in
    let waiting = c.loop-next.waiting.items in
    let out = c.loop-next.out.items in
    let at = c.in-Some.next.at in
    let i = c.remove-i.result in
    let next : IsNext waiting c.loop-next.into.items out at c.in-Some.next.pick =
    same_next waiting _ _ _ _ _ at c.in-Some.next.pick c.deref-in-loop-next.ensures.value c.deref-in-loop-next-2.ensures.value
    c.deref-in-loop-next-3.ensures.value c.in-Some.ensures in
    let w = taken_waits v.wait waiting at i next.within c.remove-i.ensures.value v.listed in
    let listed = listed_taken v.wait waiting at i next.within c.remove-i.ensures.value v.listed in
    let rest = remove waiting at in
    let counted : (p : ℕ) → p < length rest → edge (get_or rest p 0) i ≡ true → 0 < get_or out (get_or rest p 0) 0 =
    out_counted n edge v.wait rest c.loop-next.into.items out i v.counted w listed
    in
    subst (λ (y : List ℕ). (p : ℕ) → p < length c.deref-in-Some.result.now → edge (get_or c.deref-in-Some.result.now p 0) i ≡ true →
    0 < get_or y (get_or c.deref-in-Some.result.now p 0) 0) (sym c.deref_mut-in-Some.ensures.value)
    (subst (λ (x : List ℕ). (p : ℕ) → p < length x → edge (get_or x p 0) i ≡ true → 0 < get_or out (get_or x p 0) 0)
    (sym (c.deref-in-Some.ensures.value ∙ c.remove-i.ensures.items)) counted)

pub loop-next-preserved : goal.loop-next-preserved
loop-next-preserved c =
    let n = c.args.edges.now.size in
    let edge = edge_at c.args.edges.now in
    let start = all_but c.args.gone.now n in
    let v = c.loop-next.invariant in
    let waiting = c.loop-next.waiting.items in
    let into = c.loop-next.into.items in
    let out = c.loop-next.out.items in
    let at = c.in-Some.next.at in
    let pick = c.in-Some.next.pick in
    let i = c.remove-i.result in
    let next : IsNext waiting into out at pick =
    same_next waiting _ into _ out _ at pick c.deref-in-loop-next.ensures.value c.deref-in-loop-next-2.ensures.value
    c.deref-in-loop-next-3.ensures.value c.in-Some.ensures in
    let w = taken_waits v.wait waiting at i next.within c.remove-i.ensures.value v.listed in
    let rest = remove waiting at in
    let listed : IsListed (set v.wait i false) rest = listed_taken v.wait waiting at i next.within c.remove-i.ensures.value v.listed in
    let new_into = c.take_out.new.into in
    let new_out = c.take_out.new.out in
    let raw : AreLowered edge c.deref-in-Some.result.now c.deref_mut.result.now c.deref_mut-in-Some.result.now new_into new_out i = record {
      into_long = c.take_out.auto.into;
      out_long = c.take_out.auto.out;
      into_less = c.take_out.ensures.into;
      into_stays = c.take_out.ensures.into_stays;
      out_less = c.take_out.ensures.out;
      out_stays = c.take_out.ensures.out_stays;
    } in
    let lowered : AreLowered edge rest into out new_into new_out i =
    same_lowered edge rest _ into _ out _ new_into new_out i (c.deref-in-Some.ensures.value ∙ c.remove-i.ensures.items) c.deref_mut.ensures.value
    c.deref_mut-in-Some.ensures.value raw in
    let into_long = lowered.into_long in
    let out_long = lowered.out_long in
    let into_put = put_back c.loop-next.into.len new_into (drop (length new_into) into) (omega arith) in
    let out_put = put_back c.loop-next.out.len new_out (drop (length new_out) out) (omega arith) in
    let counted = counted_unpick n edge v.wait rest into out new_into new_out i v.counted w listed lowered in
    record {
      wait = set v.wait i false;
      listed = subst (λ (x : List ℕ). IsListed (set v.wait i false) x) (sym c.remove-i.ensures.items) listed;
      counted = same_counts n edge (set v.wait i false) _ new_into _ new_out into_put out_put counted;
      goes_on = λ picks p.
          rw c.in_ok-push.ensures.items
          (plan_more n edge start v.wait waiting into out at pick i c.loop-next.picks.items picks
          (taken_is waiting at i next.within c.remove-i.ensures.value ∙ next.is) v.counted v.listed next v.goes_on p);
    }

pub returns : goal.returns
returns c =
    let v = c.loop-next.invariant in
    let waiting = c.loop-next.waiting.items in
    let none : length waiting ≡ 0 = sym (ap length c.deref-in-loop-next.ensures.value) ∙ c.in_default.ensures in
    let done : IsDone v.wait = none_waits v.wait waiting none v.listed in
    rw append-nil at (v.goes_on [] done)
