-- Indices of types.
use Rattle.std.specs.Prelude.{◌≡◌, ◌<◌, ℕ, List, length, Some}
use Rattle.wasm_ast.specs.declared.types.FuncType.{FuncType}
use Rattle.wasm_typing.specs.Typing.{at}

-- each of these is the index of a type
abbrev pub AreTypes : List ℕ → List FuncType → Type 0
AreTypes indices types = (k : ℕ) (t : ℕ) → at indices k ≡ Some t → t < length types
