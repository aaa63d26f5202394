-- What is asked of the blocks of a chain that nobody holds.
use Rattle.std.specs.Prelude.{ℕ, zero, suc, Option, None, slice_get}
use Rattle.ledger_model.specs.Chain.{Bytes, Chain}
use Rattle.world_state.specs.Kept.{hashes_of}

-- the hash of the header of the block of a number: numbers go from 1 on
abbrev pub hash_in : Chain → ℕ → Option Bytes
hash_in chain zero = None
hash_in chain (suc place) = slice_get (hashes_of chain) place
