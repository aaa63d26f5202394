use Rattle.std.proofs.Common.{◌≡◌, take, map}
use Rattle.fab_types.specs.FlagNumber.{flag_number}
use Rattle.block_store.proofs.flag_numbers.flags_of.Given as goal

abbrev pub invariant-loop-number : goal.invariant-loop-number
invariant-loop-number l = map flag_number l.flags.items ≡ take l.number-index l.numbers
