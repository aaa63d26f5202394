-- What is true of a snapshot's fields after one block more.
use Rattle.std.proofs.Common.{◌≡◌, ◌≤◌, ℕ, ◌+◌, List, [], ◌∷◌, ◌++◌, length, length-append, ap, ◌∙◌, arith}
use Rattle.std.specs.List.{AllByRecursion}
use Rattle.fab_types.specs.BlockWithin.{IsBlock}
use Rattle.ledger_model.specs.Chain.{Bytes, Version, Committed, Chain}
use Rattle.world_state.specs.Writing.{as_state, put_block}
use Rattle.world_state.specs.Ids.{ids_of, block_of_id, block_behind}
use Rattle.world_state.specs.Inside.{IsRight}
use Rattle.world_state.proofs.Blocks.{state_more}
use Rattle.world_state.proofs.Placed.{ids_more}

one_more : (chain : Chain) (c : Committed) → AllByRecursion (λ (b : Committed). IsBlock b.block) chain → IsBlock c.block →
    AllByRecursion (λ (b : Committed). IsBlock b.block) (chain ++ c ∷ [])
one_more [] c h k = (k, tt)
one_more (b ∷ chain) c h k = (h.0, one_more chain c h.1 k)

pub right_more : (chain : Chain) (c : Committed) (old new : List (Bytes × (Bytes × Version))) (known longer : List (Bytes × ℕ)) → IsRight chain old known →
    c.block.header.number ≡ length chain + 1 → c.block.header.number ≤ 4000000000 → length c.flags ≡ length c.block.envelopes →
    as_state new ≡ put_block (as_state old) c.block.header.number 0 c.block.envelopes c.flags →
    ((q : Bytes) → block_of_id longer q ≡ block_behind known c.block.header.number (ids_of c.block.envelopes) q) → IsBlock c.block →
    IsRight (chain ++ c ∷ []) new longer
right_more chain c old new known longer right number limit each made ids within = record {
  map =
      made
      ∙ ap (λ m. put_block m c.block.header.number 0 c.block.envelopes c.flags) right.map
      ∙ state_more chain c c.block.header.number number;
  ids = ids_more chain c known longer number each right.ids ids;
  limit = omega (arith, length-append chain (c ∷ []), number, limit);
  blocks = one_more chain c right.blocks within;
}
