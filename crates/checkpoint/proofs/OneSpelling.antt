-- A chain has one checkpoint.
use Rattle.std.proofs.Common.{◌≡◌, sym, ap, ◌∙◌}
use Rattle.std.specs.FinMap.{entries}
use Rattle.ledger_model.specs.Chain.{Bytes, Chain}
use Rattle.id_runs.proofs.OneOrder.{one_order}
use Rattle.world_state.specs.Kept.{Kept}
use Rattle.kept_state.proofs.Growing.{found_kept}
use Rattle.checkpoint.specs.Checkpoint.{IsKeptInOrder, IsCheckpointOf, checkpoint_bytes, sizes_of}

-- in order it is kept in one way
same_kept : (chain : Chain) (one two : Kept) → IsKeptInOrder one chain → IsKeptInOrder two chain → one ≡ two
same_kept chain one two a b =
    let all : one.entries ≡ two.entries = a.entries ∙ ap entries (a.is_kept.state ∙ sym b.is_kept.state) ∙ sym b.entries in
    let ids : one.ids ≡ two.ids =
    one_order one.ids two.ids a.ids b.ids
    (λ q. found_kept one.ids q ∙ a.is_kept.ids q ∙ sym (b.is_kept.ids q) ∙ sym (found_kept two.ids q)) in
    let height : one.height ≡ two.height = a.is_kept.height ∙ sym b.is_kept.height in
    let link : one.link ≡ two.link = a.is_kept.link ∙ sym b.is_kept.link in
    let hashes : one.hashes ≡ two.hashes = a.hashes ∙ sym b.hashes in
    let amended : one.amended ≡ two.amended = a.is_kept.amended ∙ sym b.is_kept.amended in
    λ i. record { entries = all i; ids = ids i; height = height i; link = link i; hashes = hashes i; amended = amended i }

pub one_spelling : (genesis : Bytes) (chain : Chain) (bytes other : Bytes) → IsCheckpointOf genesis bytes chain → IsCheckpointOf genesis other chain →
    bytes ≡ other
one_spelling genesis chain bytes other a b =
    a.2 ∙ ap (λ (kept : Kept). checkpoint_bytes genesis kept (sizes_of chain)) (same_kept chain a.0 b.0 a.1 b.1) ∙ sym b.2
