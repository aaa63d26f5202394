use Rattle.std.proofs.Common.{◌≡◌}
use Rattle.json_genesis.specs.Spelling.{chaincodes_of, ids_of, policies_of}
use Rattle.json_genesis.proofs.chaincodes.parted.Given as goal

abbrev pub invariant-definitions : goal.invariant-definitions
invariant-definitions l =
    let p = l.parted in
    (p.chaincodes.items ≡ chaincodes_of l.yielded) × (p.ids.items ≡ ids_of l.yielded) × (p.policies.items ≡ policies_of l.yielded)
