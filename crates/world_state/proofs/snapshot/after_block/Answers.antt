use Rattle.std.proofs.Common.{◌∙◌}
use Rattle.world_state.specs.Ids.{block_behind}
use Rattle.world_state.specs.Writing.{as_state, put_block}
use Rattle.world_state.proofs.snapshot.after_block.Goals as goal

pub returns-clause-map : goal.returns-clause-map
returns-clause-map c =
    let b = c.args.block.now in
    c.in_ok-apply_block.ensures.map
    ∙ (λ i. put_block (as_state (c.in_ok-map.ensures.cases i).entries) b.header.number 0 b.envelopes c.args.flags.now)

pub returns-clause-ids : goal.returns-clause-ids
returns-clause-ids c = λ q.
    c.in_ok-index_all.ensures q ∙ (λ i. block_behind (c.in_ok-known.ensures.cases i).entries (c.get.ensures.value i) c.args.ids.now q)
