use Rattle.std.proofs.Common.{refl, ◌∙◌}
use Rattle.std.proofs.lemmas.Iterator.Consumers.{YieldsList-from_rest, map_from_collect}
use Rattle.world_state.specs.Writing.{as_state}
use Rattle.world_state.proofs.Bounds.{span_all}
use Rattle.world_state.proofs.Entries.{entries_of}
use Rattle.checkpoint.proofs.writing.all_entries.Goals as goal

pub returns : goal.returns
returns c =
    let es = c.args.state.now.entries in
    map_from_collect c.collect.result c.collect.ensures.ran
    (YieldsList-from_rest _ (c.range.ensures.all ∙ span_all es ∙ entries_of es (as_state es) refl c.range.ensures.ordered))
