use Rattle.std.proofs.Common.{◌-◌, ◌^◌, ◌≡◌, ◌≤◌, ◌<◌, length, get_or}
use Rattle.std.specs.declared.cmp.Ordering.TheVariants.{Less, Greater}
use Rattle.persist_map.specs.Pages.{shared}
use Rattle.persist_map.proofs.Halving.{IsHalving}
use Rattle.persist_map.proofs.search.find_in.Given as goal

abbrev pub invariant-loop-low : goal.invariant-loop-low
invariant-loop-low g l = record {
  small : length l.page < 2 ^ 64;
  order : l.low ≤ l.high;
  inside : l.high ≤ length l.page;
  last : (d : g.row.K.Denot × g.row.V.Denot) → 0 < l.low → g.K.Ord.cmp l.key (get_or (shared l.page) (l.low - 1) d).0 ≡ Greater;
  next : (d : g.row.K.Denot × g.row.V.Denot) → l.high < length l.page → g.K.Ord.cmp l.key (get_or (shared l.page) l.high d).0 ≡ Less;
  halving : IsHalving (length l.page) l.asked (l.high - l.low);
}

abbrev pub decreases-loop-low : goal.decreases-loop-low
decreases-loop-low g l = l.high - l.low
