-- How a refusal is written.
use Rattle.std.specs.Prelude.{◌++◌, List, ℕ, codes}
use Rattle.std.specs.Fmt.{decimal}
use Rattle.wasm_decode.specs.FaultNumbers.{number_of as decode_number}
use Rattle.wasm_typing.specs.FaultNumbers.{number_of as validate_number}
use Rattle.wasm_file.specs.declared.module.ModuleRefusal.{ModuleRefusal}
use Rattle.wasm_file.specs.declared.module.ModuleRefusal.TheVariants.{Memory, Malformed, Invalid}

abbrev pub refusal_text : ModuleRefusal → List ℕ
refusal_text Memory = codes "refused 9"
refusal_text (Malformed kind offset) = codes "refused " ++ decimal (decode_number kind) ++ codes " at " ++ decimal offset
refusal_text (Invalid fault) = codes "refused " ++ decimal (validate_number fault)
