use Rattle.std.proofs.Common.{◌≡◌, ◌++◌, take}
use Rattle.ledger_model.specs.Chain.{Chain}
use Rattle.block_store.specs.Store.{AreRecords}
use Rattle.store_devices.specs.Places.{ends_of}
use Rattle.log_peer.proofs.opening.push_sizes.Given as goal

abbrev pub invariant-records : goal.invariant-records
invariant-records l =
    (before : Chain) → (AreRecords 1 before → l.fn.places ≡ ends_of before) → AreRecords 1 (before ++ l.records) →
    l.places ≡ ends_of (before ++ take l.committed-index l.records)
