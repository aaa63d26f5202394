use Rattle.std.proofs.Common.{rules, subst}
use Rattle.std.specs.List.{AllByRecursion}
use Rattle.fab_types.specs.BlockWithin.{IsEnvelope}
use Rattle.world_state.proofs.within.show_block.Goals as goal

pub returns : goal.returns
returns c = record {
  header = record { number = search rules; previous_hash = search rules; data_hash = search rules };
  envelopes = c.as_slice.ensures.limits;
  each_envelope = subst (AllByRecursion IsEnvelope) c.as_slice.ensures.value c.show_envelopes.ensures;
}
