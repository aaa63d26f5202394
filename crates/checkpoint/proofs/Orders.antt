-- What is kept of a chain, in order.
use Rattle.std.proofs.Common.{◌≡◌, ℕ, List, sym, ap, ◌∙◌}
use Rattle.std.specs.FinMap.{entries}
use Rattle.ledger_model.specs.Chain.{Bytes, Chain}
use Rattle.id_runs.specs.Entries.{Ascends}
use Rattle.world_state.specs.Kept.{Kept, IsKeptOf, block_of_id, hashes_of, state_in}
use Rattle.world_state.proofs.Keeping.{of_entries}
use Rattle.checkpoint.specs.Checkpoint.{IsKeptInOrder}
use Rattle.checkpoint.specs.Within.{IsKeptWithin}

-- with the entries in key order, and these ids
abbrev pub ordered : Kept → List (Bytes × ℕ) → Kept
ordered kept ids = record {
  entries = entries (state_in kept);
  ids = ids;
  height = kept.height;
  link = kept.link;
  hashes = kept.hashes;
  amended = kept.amended;
}

pub in_order : (kept : Kept) (ids : List (Bytes × ℕ)) (chain : Chain) → IsKeptOf kept chain → kept.hashes ≡ hashes_of chain →
    ((sought : Bytes) → block_of_id ids sought ≡ block_of_id kept.ids sought) → Ascends ids → IsKeptWithin (ordered kept ids) →
    IsKeptInOrder (ordered kept ids) chain
in_order kept ids chain is all found up within = record {
  is_kept = record {
    state = of_entries (state_in kept) ∙ is.state;
    ids = λ q. found q ∙ is.ids q;
    height = is.height;
    link = is.link;
    hashes = is.hashes;
    amended = is.amended;
  };
  hashes = all;
  entries = ap entries (sym (of_entries (state_in kept)));
  ids = up;
  within = within;
}
