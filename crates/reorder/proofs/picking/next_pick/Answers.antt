use Rattle.std.proofs.Common.{◌≡◌, ℕ, ◌+◌, ◌<◌, get_or, arith, rules, below_more}
use Rattle.reorder.specs.Counts.{edges_at}
use Rattle.reorder.proofs.Best.{best_first, best_changes, best_stays}
use Rattle.reorder.proofs.picking.next_pick.Goals as goal
use Rattle.reorder.proofs.picking.next_pick.Goals.{then-weight-most, else-weight-most}

pub loop-at-init : goal.loop-at-init
loop-at-init c = record {
  blocked = λ p lt. absurd (omega arith);
  best = best_first (edges_at c.args.waiting.now c.args.into.now c.args.out.now);
}

pub returns-then-into-i-eq0 : goal.returns-then-into-i-eq0
returns-then-into-i-eq0 c = record {
  within = omega arith;
  is = search rules;
  by_counts = (c.if-into-i-eq0.true, c.loop-at.invariant.blocked);
}

pub loop-at-preserved : goal.loop-at-preserved
loop-at-preserved c =
    let waiting = c.args.waiting.now in
    let into = c.args.into.now in
    let out = c.args.out.now in
    let l = c.loop-at in
    let weight = c.weight_of-weight.result in
    let is : weight ≡ edges_at waiting into out l.at = search rules in
    let here : 0 < get_or into (get_or waiting l.at 0) 0 = search rules in
    let blocked : (p : ℕ) → p < l.at + 1 → 0 < get_or into (get_or waiting p 0) 0 =
    below_more (λ p. 0 < get_or into (get_or waiting p 0) 0) l.at l.invariant.blocked here in
    elim c.if-weight-most.branch [
      | then-weight-most w ↦
          rw (w.best-is, w.most-is)
          (record { blocked = blocked; best = best_changes (edges_at waiting into out) l.at l.best l.most weight is (omega arith) l.invariant.best })
      | else-weight-most w ↦
          rw (w.best-is, w.most-is)
          (record { blocked = blocked; best = best_stays (edges_at waiting into out) l.at l.best l.most weight is (omega arith) l.invariant.best })
    ]
