use Rattle.std.proofs.Common.{◌≡◌, ◌∙◌, Some, ap}
use Rattle.ledger_model.specs.Views.{key_cmp}
use Rattle.persist_map.specs.Entries.{between}
use Rattle.world_state.specs.Ranges.{as_key}
use Rattle.world_state.proofs.ranges.range_in.Goals as goal
use Rattle.world_state.proofs.Bounds.{span_within}

pub returns-clause-all : goal.returns-clause-all
returns-clause-all c =
    let es = c.args.entries.now.entries in
    let key = c.first_key-key.result in
    let e : c.bound_key-end.result ≡ as_key c.args.end.now = c.bound_key-end.ensures in
    c.range.ensures.all
    ∙ ap (λ end. between key_cmp (Some key) end es) (c.as_ref.ensures.value ∙ e)
    ∙ span_within c.args.start.now key c.args.end.now es c.first_key-key.ensures
