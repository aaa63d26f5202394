-- The numbers of refusals.
use Rattle.std.specs.Prelude.{ℕ}
use Rattle.json_genesis.specs.declared.refusal.GenesisRefusal.{GenesisRefusal}
use Rattle.json_genesis.specs.declared.refusal.GenesisRefusal.TheVariants.{Memory, Json, Field, Range, Module, Policy, Names}

abbrev pub refusal_number : GenesisRefusal → ℕ
refusal_number Memory = 9
refusal_number Json = 801
refusal_number Field = 802
refusal_number Range = 803
refusal_number Module = 804
refusal_number Policy = 805
refusal_number Names = 806
