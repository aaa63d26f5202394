-- The store of which a checkpoint is written.
use Rattle.std.specs.Prelude.{Option, [], Result, Ok, Err}
use Rattle.kept_state.specs.Keeping.{chain_of}
use Rattle.ledger_model.specs.Chain.{Bytes}
use Rattle.ledger_model.specs.Judged.{BlockRule}
use Rattle.log_peer.specs.Opening.{IsChainOf}
use Rattle.log_peer.specs.Storing.{IsOpenRefused, IsOpened}
use Rattle.log_peer.specs.declared.refusal.StoreRefusal.{StoreRefusal}
use Rattle.store_replay.specs.Lawful.{AreLawful}
use Rattle.cli_peer.specs.declared.checkpointing.Stored.{Stored}

-- its chain is kept, and it is known where each of its records ends
abbrev pub IsSoundStored : Stored → Type 0
IsSoundStored s = IsChainOf s.chain s.places (chain_of s.chain)

-- a store, which has the known bytes where they are known, is read: as the chain of all its records, which are lawful; or it is refused
abbrev pub IsRead : BlockRule → (held : Option Bytes) → Result Stored StoreRefusal → Type 0
IsRead rule held (Ok s) = IsSoundStored s × AreLawful rule [] (chain_of s.chain) × IsOpened held (chain_of s.chain) s.held
IsRead rule held (Err refusal) = IsOpenRefused rule held refusal
