use Rattle.std.proofs.Common.{◌∙◌}
use Rattle.std.proofs.lemmas.Iterator.Consumers.{YieldsList-from_rest, map_from_collect}
use Rattle.world_state.proofs.Bounds.{span_all}
use Rattle.cli_show.proofs.entries.all_entries.Goals as goal

pub returns-clause-all : goal.returns-clause-all
returns-clause-all c =
    map_from_collect c.collect.result c.collect.ensures.ran (YieldsList-from_rest _ (c.range.ensures.all ∙ span_all c.args.state.now.entries))
