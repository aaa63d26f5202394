use Rattle.std.proofs.lemmas.Iterator.{YieldsList-from_take}
use Rattle.std.proofs.lemmas.Iterator.Consumers.{YieldsList-from_rest, YieldsList-at, map_from_collect}
use Rattle.persist_map.proofs.map.PMap.first_from.Goals as goal

pub returns : goal.returns
returns g c =
    map_from_collect c.collect.result c.collect.ensures.ran
    (YieldsList-from_take c.args.n (YieldsList-at c.take.ensures.source (YieldsList-from_rest _ c.range.ensures.all)) c.take.ensures.count)
