-- Which bytes spell which expression (Core 1.0, sections 5.4.1 and 5.4.6), within the limits of the profile.
use Rattle.std.specs.Prelude.{◌≡◌, ℕ, suc, max, ◌≤◌, ◌⊎◌, List}
use Rattle.wasm_profile.specs.declared.profile.Profile.{Profile}
use Rattle.grammar.specs.Spelling.{◌⟫◌, IsByte}
use Rattle.wasm_ast.specs.Code.{Code, End, Do, Block, Loop, If, code_size}
use Rattle.wasm_decode.specs.Opcodes.{IsOp}
use Rattle.wasm_decode.specs.TypeSpelling.{IsBlockType}

-- how deep blocks stand in one another
abbrev pub nesting : Code → ℕ
nesting End = 0
nesting (Do o c) = nesting c
nesting (Block t b c) = max (suc (nesting b)) (nesting c)
nesting (Loop t b c) = max (suc (nesting b)) (nesting c)
nesting (If t a b c) = max (suc (max (nesting a) (nesting b))) (nesting c)

-- The bodies of an `if`: the first ends with `end` where the second is empty, or with `else` before the second.
abbrev pub IsEither : Code → (List ℕ → Type 0) → (List ℕ → Type 0) → (List ℕ → Type 0) → List ℕ → Type 0
IsEither other alone first second text = ((other ≡ End) × alone text) ⊎ (first ⟫ second) text

-- instructions, and then the byte that ends them: 0x0b for `end`, 0x05 for `else`
abbrev pub IsCode : Profile → ℕ → Code → List ℕ → Type 0
IsCode profile last End = IsByte last
IsCode profile last (Do o c) = IsOp profile o ⟫ IsCode profile last c
IsCode profile last (Block t b c) = IsByte 0x02 ⟫ IsBlockType t ⟫ IsCode profile 0x0b b ⟫ IsCode profile last c
IsCode profile last (Loop t b c) = IsByte 0x03 ⟫ IsBlockType t ⟫ IsCode profile 0x0b b ⟫ IsCode profile last c
IsCode profile last (If t a b c) =
    IsByte 0x04 ⟫ IsBlockType t ⟫ IsEither b (IsCode profile 0x0b a) (IsCode profile 0x05 a) (IsCode profile 0x0b b) ⟫ IsCode profile last c

-- at most 8,192 instructions, with blocks at most 64 deep in one another
abbrev pub IsExpression : Profile → Code → List ℕ → Type 0
IsExpression profile c text = (nesting c ≤ 64) × (code_size c ≤ 8192) × IsCode profile 0x0b c text
