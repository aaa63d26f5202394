use Rattle.std.proofs.Common.{◌≡◌, take}
use Rattle.json_genesis.specs.Spelling.{names_of}
use Rattle.json_genesis.proofs.organisations.names.Given as goal

abbrev pub invariant-names : goal.invariant-names
invariant-names l = l.names.items ≡ names_of (take l.organisation-index l.organisations)
