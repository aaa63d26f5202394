use Rattle.std.proofs.Common.{◌≡◌, ◌++◌}
use Rattle.json_genesis.specs.Spelling.{more_ids_of, more_modules_of}
use Rattle.json_genesis.proofs.modules.modules_apart.Given as goal

abbrev pub invariant-modules : goal.invariant-modules
invariant-modules l = (l.modules.items ≡ more_modules_of l.yielded) × (l.ids.items ≡ l.fn.ids.items ++ more_ids_of l.yielded)
