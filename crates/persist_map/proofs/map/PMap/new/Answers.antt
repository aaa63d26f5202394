use Rattle.std.proofs.Common.{sym, subst}
use Rattle.persist_map.specs.Pages.{pages_of, AreLaid}
use Rattle.persist_map.proofs.Ordered.{ascend_nil}
use Rattle.persist_map.proofs.map.PMap.new.Goals as goal

pub invariant_of-result : goal.invariant_of-result
invariant_of-result g c = subst (λ ps. AreLaid g.K.Ord.cmp (pages_of ps)) (sym c.new.ensures.items) (record { sizes = tt; ascending = ascend_nil g.K.Ord.cmp })
