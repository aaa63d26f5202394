use Rattle.std.proofs.Common.{◌-◌, ◌^◌, ◌≡◌, ◌≤◌, ◌<◌, true, false, length, List, get_or}
use Rattle.persist_map.specs.Pages.{pages_of}
use Rattle.persist_map.specs.Search.{begins_after}
use Rattle.persist_map.proofs.Halving.{IsHalving, IsReaching}
use Rattle.persist_map.proofs.search.pages_up_to.Given as goal

abbrev pub invariant-loop-low : goal.invariant-loop-low
invariant-loop-low g l = record {
  small : length l.pages < 2 ^ 64;
  order : l.low ≤ l.high;
  inside : l.high ≤ length l.pages;
  last : (d : List (g.row.K.Denot × g.row.V.Denot)) → 0 < l.low → begins_after g.K.Ord.cmp l.key (get_or (pages_of l.pages) (l.low - 1) d) ≡ false;
  next : (d : List (g.row.K.Denot × g.row.V.Denot)) → l.high < length l.pages → begins_after g.K.Ord.cmp l.key (get_or (pages_of l.pages) l.high d) ≡ true;
  halving : IsHalving (length l.pages) l.asked (l.high - l.low);
  reaching : IsReaching (length l.pages) l.asked (l.high - l.low);
}

abbrev pub decreases-loop-low : goal.decreases-loop-low
decreases-loop-low g l = l.high - l.low
