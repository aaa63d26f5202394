-- Reading a module from left to right.
use Rattle.std.specs.Prelude.{ℕ, List, [], ◌∷◌, length, Option, Some, None, nat_lt, ◌==◌, if◌then◌else◌}
use Rattle.wasm_profile.specs.declared.profile.Profile.{Profile}
use Rattle.grammar.specs.Reading.{◌>>=◌, text_at}
use Rattle.wasm_ast.specs.declared.module.Module.{Module}
use Rattle.wasm_decode.specs.PartsOf.{no_parts}
use Rattle.wasm_decode.specs.SectionReading.{sections_at}

abbrev pub header_bytes : List ℕ
header_bytes = 0x00 ∷ 0x61 ∷ 0x73 ∷ 0x6d ∷ 0x01 ∷ 0x00 ∷ 0x00 ∷ 0x00 ∷ []

unfoldable pub module_at : Profile → List ℕ → Option Module
module_at profile bytes =
    if nat_lt 262144 (length bytes) then None
    else (text_at header_bytes bytes >>= λ h.
    (sections_at profile (length h.1) 0 no_parts h.1 >>= λ p. if length p.type_indices == length p.«module».functions then Some p.«module» else None))
