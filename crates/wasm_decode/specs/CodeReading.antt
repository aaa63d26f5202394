-- Reading expressions from left to right.
use Rattle.std.specs.Prelude.{ℕ, zero, suc, ◌-◌, Bool, ◌||◌, List, Option, Some, None, ◌==◌, if◌then◌else◌}
use Rattle.wasm_profile.specs.declared.profile.Profile.{Profile}
use Rattle.grammar.specs.Reading.{◌>>=◌, byte_at}
use Rattle.grammar.specs.Table.{row_byte_at}
use Rattle.wasm_ast.specs.Code.{BlockType, Code, End, Do, Block, Loop, If}
use Rattle.wasm_decode.specs.Tables.{block_type_rows}
use Rattle.wasm_decode.specs.OpReading.{plain_at}

-- What is left is how many more instructions there may be.

-- instructions, and the byte that ends them
pub record Instructions : Type 0 where
  pub code : Code
  pub last : ℕ
  pub left : ℕ

-- one instruction, or those before an `end`
pub record Step : Type 0 where
  pub code : Code
  pub left : ℕ

pub record OneBody : Type 0 where
  pub result : BlockType
  pub body : Code
  pub left : ℕ

pub record TwoBodies : Type 0 where
  pub result : BlockType
  pub yes : Code
  pub no : Code
  pub left : ℕ

-- how to read the body of a block
abbrev pub Inner : Type 0
Inner = ℕ → List ℕ → Option (Instructions × List ℕ)

abbrev pub append : Code → Code → Code
append End d = d
append (Do o c) d = Do o (append c d)
append (Block t b c) d = Block t b (append c d)
append (Loop t b c) d = Loop t b (append c d)
append (If t a b c) d = If t a b (append c d)

-- instructions, and the `end` after them
unfoldable pub closed_at : Inner → ℕ → List ℕ → Option (Step × List ℕ)
closed_at inner left bytes = inner left bytes >>= λ b. if b.0.last == 0x0b then Some (record { code = b.0.code; left = b.0.left }, b.1) else None

unfoldable pub block_at : Inner → ℕ → List ℕ → Option (OneBody × List ℕ)
block_at inner left bytes =
    row_byte_at block_type_rows bytes >>= λ t. (closed_at inner left t.1 >>= λ b. Some (record { result = t.0; body = b.0.code; left = b.0.left }, b.1))

unfoldable pub conditional_at : Inner → ℕ → List ℕ → Option (TwoBodies × List ℕ)
conditional_at inner left bytes =
    row_byte_at block_type_rows bytes >>= λ t. (inner left t.1 >>= λ a.
    if a.0.last == 0x0b then Some (record { result = t.0; yes = a.0.code; no = End; left = a.0.left }, a.1)
    else (closed_at inner a.0.left a.1 >>= λ b. Some (record { result = t.0; yes = a.0.code; no = b.0.code; left = b.0.left }, b.1)))

abbrev pub as_block : (BlockType → Code → Code → Code) → Option (OneBody × List ℕ) → Option (Step × List ℕ)
as_block make read = read >>= λ b. Some (record { code = make b.0.result b.0.body End; left = b.0.left }, b.1)

abbrev pub as_if : Option (TwoBodies × List ℕ) → Option (Step × List ℕ)
as_if read = read >>= λ b. Some (record { code = If b.0.result b.0.yes b.0.no End; left = b.0.left }, b.1)

abbrev pub as_step : ℕ → Option (Code × List ℕ) → Option (Step × List ℕ)
as_step left read = read >>= λ c. Some (record { code = c.0; left = left }, c.1)

-- an instruction after its opcode
unfoldable pub step_at : Profile → Inner → ℕ → ℕ → List ℕ → Option (Step × List ℕ)
step_at profile inner op left bytes =
    if op == 0x02 then as_block Block (block_at inner left bytes)
    else (if op == 0x03 then as_block Loop (block_at inner left bytes)
    else (if op == 0x04 then as_if (conditional_at inner left bytes)
    else as_step left (plain_at profile op bytes)))

-- the step before other instructions
abbrev pub before : Code → Option (Instructions × List ℕ) → Option (Instructions × List ℕ)
before front read = read >>= λ c. Some (record { code = append front c.0.code; last = c.0.last; left = c.0.left }, c.1)

abbrev pub is_last : ℕ → Bool
is_last op = (op == 0x0b) || (op == 0x05)

-- The number bounds the turns: one more than what is left is always enough.
unfoldable pub code_at : (ℕ → ℕ → List ℕ → Option (Step × List ℕ)) → ℕ → ℕ → List ℕ → Option (Instructions × List ℕ)
code_at one zero left bytes = None
code_at one (suc n) left bytes =
    byte_at bytes >>= λ op.
    if is_last op.0 then Some (record { code = End; last = op.0; left = left }, op.1)
    else (if left == 0 then None else (one op.0 (left - 1) op.1 >>= λ i. before i.0.code (code_at one n i.0.left i.1)))

-- instructions in which blocks nest no deeper than the number, and the byte that ends them
unfoldable pub body_at : Profile → ℕ → Inner
body_at profile zero left bytes = code_at (step_at profile (λ _ _. None)) (suc left) left bytes
body_at profile (suc d) left bytes = code_at (step_at profile (body_at profile d)) (suc left) left bytes

-- how to read what is inside a block
abbrev pub below : Profile → ℕ → Inner
below profile zero left bytes = None
below profile (suc d) left bytes = body_at profile d left bytes

unfoldable pub expression_at : Profile → List ℕ → Option (Code × List ℕ)
expression_at profile bytes = closed_at (body_at profile 64) 8192 bytes >>= λ b. Some (b.0.code, b.1)
