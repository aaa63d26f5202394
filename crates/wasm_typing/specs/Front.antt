-- The front of a body: its instructions up to some place, whatever comes after.
use Rattle.std.specs.Prelude.{◌≡◌, ◌⊎◌}
use Rattle.wasm_ast.specs.Op.{Unreachable}
use Rattle.wasm_ast.specs.Code.{Code, End, Do, Block, Loop, If}

-- `unreachable` stands for all that comes after, since after it any operands may be
abbrev pub unreachable_end : Code
unreachable_end = Do Unreachable End

-- `front` is `body`, whole or cut at some place, be it inside a block
abbrev pub IsFront : (body front : Code) → Type 0
IsFront End front = (front ≡ End) ⊎ (front ≡ unreachable_end)
IsFront (Do o rest) front = (front ≡ unreachable_end) ⊎ ((r : Code) × IsFront rest r × (front ≡ Do o r))
IsFront (Block t b rest) front =
    (front ≡ unreachable_end)
    ⊎ ((i : Code) × IsFront b i × (front ≡ Block t i unreachable_end))
    ⊎ ((r : Code) × IsFront rest r × (front ≡ Block t b r))
IsFront (Loop t b rest) front =
    (front ≡ unreachable_end)
    ⊎ ((i : Code) × IsFront b i × (front ≡ Loop t i unreachable_end))
    ⊎ ((r : Code) × IsFront rest r × (front ≡ Loop t b r))
IsFront (If t a b rest) front =
    (front ≡ unreachable_end)
    ⊎ ((i : Code) × IsFront a i × (front ≡ If t i unreachable_end unreachable_end))
    ⊎ ((i : Code) × IsFront b i × (front ≡ If t a i unreachable_end))
    ⊎ ((r : Code) × IsFront rest r × (front ≡ If t a b r))
