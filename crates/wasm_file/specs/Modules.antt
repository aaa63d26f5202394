-- Modules, and why bytes give none.
use Rattle.std.specs.Prelude.{◌≡◌, ◌≢◌, ◌⊎◌, ℕ, List, length}
use Rattle.wasm_profile.specs.declared.profile.Profile.{Profile}
use Rattle.wasm_ast.specs.declared.module.Module.{Module}
use Rattle.wasm_decode.specs.ModuleSpelling.{IsModule}
use Rattle.wasm_decode.specs.Faults.{Stands}
use Rattle.wasm_decode.specs.declared.fault.DecodeFault.{DecodeFault}
use Rattle.wasm_decode.specs.declared.fault.DecodeFault.TheVariants as decode
use Rattle.wasm_typing.specs.ModuleRules.{IsValid}
use Rattle.wasm_typing.specs.Broken.{Broken}
use Rattle.wasm_typing.specs.declared.fault.ValidateFault.{ValidateFault}
use Rattle.wasm_typing.specs.declared.fault.ValidateFault.TheVariants as validate
use Rattle.wasm_file.specs.declared.module.ModuleRefusal.{ModuleRefusal}
use Rattle.wasm_file.specs.declared.module.ModuleRefusal.TheVariants.{Memory, Malformed, Invalid}

-- the module of a profile that the bytes spell is valid, and defines this many functions, imports left out (Core 1.0, section 2.5.3)
abbrev pub IsDefinedBy : Profile → List ℕ → ℕ → Type 0
IsDefinedBy profile bytes count = (m : Module) × IsModule profile m bytes × IsValid m × (count ≡ length m.functions)

-- why the bytes give no valid module of a profile: they spell none, as what stands at the offset
-- says, or one that breaks a rule
abbrev pub NoModule : Profile → List ℕ → ModuleRefusal → Type 0
NoModule profile bytes Memory = Unit {0}
NoModule profile bytes (Malformed kind offset) =
    ((m : Module) → ¬ IsModule profile m bytes) × Stands profile kind offset (length bytes) bytes
NoModule profile bytes (Invalid fault) = (m : Module) × IsModule profile m bytes × Broken fault m × ¬ IsValid m

-- the refusal that a fault of the bytes comes to
abbrev pub decode_refusal : DecodeFault → ModuleRefusal
decode_refusal decode.Memory = Memory
decode_refusal (decode.Malformed kind offset) = Malformed kind offset

-- the refusal comes of a broken rule, or of want of memory
abbrev pub IsOfRule : ValidateFault → ModuleRefusal → Type 0
IsOfRule fault refusal = ((fault ≢ validate.Memory) × (refusal ≡ Invalid fault)) ⊎ ((fault ≡ validate.Memory) × (refusal ≡ Memory))
