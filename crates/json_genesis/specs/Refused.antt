-- What a refusal says that is not of the text as JSON.
use Rattle.std.specs.Prelude.{◌≡◌}
use Rattle.json_genesis.specs.declared.refusal.GenesisRefusal.{GenesisRefusal}
use Rattle.json_genesis.specs.declared.refusal.GenesisRefusal.TheVariants.{Memory, Json}

-- the text was read as JSON; and but for want of memory, no value is such
abbrev pub NoneIs : {A : Type 0} → (A → Type 0) → GenesisRefusal → Type 0
NoneIs {A} Is r = (¬ (r ≡ Json)) × (¬ (r ≡ Memory) → (x : A) → ¬ Is x)
