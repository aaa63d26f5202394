-- What is given back of a chain whose blocks lie somewhere else.
use Rattle.std.specs.Prelude.{◌≡◌, ℕ, ◌-◌, ◌≤◌, Bool, true, false, Some, slice_get}
use Rattle.sha2.specs.Sha256.{sha256}
use Rattle.fab_types.specs.Committed.{Committed}
use Rattle.fab_types.specs.BlockSpelling.{header_bytes}
use Rattle.ledger_model.specs.Chain.{Chain}
use Rattle.kept_state.specs.Asking.{hash_in}

-- at a number: the block, or else one of that number whose header has the hash of the block's header
abbrev pub IsGiven : Bool → Chain → ℕ → Committed → Type 0
IsGiven true chain n c = (1 ≤ n) × (slice_get chain (n - 1) ≡ Some c)
IsGiven false chain n c = (hash_in chain n ≡ Some (sha256 (header_bytes c.block.header))) × (c.block.header.number ≡ n)
