-- Reading an instruction with no instruction inside, from left to right.
use Rattle.std.specs.Prelude.{ℕ, List, Option, Some, None, option_map}
use Rattle.wasm_profile.specs.declared.profile.Profile.{Profile}
use Rattle.grammar.specs.Reading.{◌>>=◌, made_at, tagged_at}
use Rattle.grammar.specs.Table.{row_at}
use Rattle.wasm_bytes.specs.Reading.{u32_at, s32_at, s64_at, list_at}
use Rattle.wasm_ast.specs.declared.body.MemoryArgument.{MemoryArgument}
use Rattle.wasm_ast.specs.Op.{Op, CallIndirect}
use Rattle.wasm_ast.specs.Code.{Code}
use Rattle.wasm_operators.specs.Operators.{alone, load_rows, store_rows, operator_rows}
use Rattle.wasm_decode.specs.Opcodes.{Form, bare, indexed, labelled, indirect, reserved, access, constant_32, constant_64, other_rows, load_of, store_of}
use Rattle.wasm_decode.specs.Opcodes.{constant_32_of, constant_64_of, branch_table_of}

-- the byte 0
unfoldable pub reserved_at : List ℕ → Option (Unit {0} × List ℕ)
reserved_at bytes = tagged_at 0x00 (λ rest. Some (tt, rest)) bytes

unfoldable pub branch_table_at : List ℕ → Option ((List ℕ × ℕ) × List ℕ)
branch_table_at bytes = list_at 1024 u32_at bytes >>= λ ls. (u32_at ls.1 >>= λ d. Some ((ls.0, d.0), d.1))

unfoldable pub argument_at : List ℕ → Option (MemoryArgument × List ℕ)
argument_at bytes = u32_at bytes >>= λ align. (u32_at align.1 >>= λ offset. Some (record { align = align.0; offset = offset.0 }, offset.1))

unfoldable pub reserved_index_at : List ℕ → Option (ℕ × List ℕ)
reserved_index_at bytes = u32_at bytes >>= λ n. (reserved_at n.1 >>= λ z. Some (n.0, z.1))

abbrev pub op_after : Form → List ℕ → Option (Op × List ℕ)
op_after (bare p) bytes = Some (p, bytes)
op_after (indexed make) bytes = made_at make u32_at bytes
op_after labelled bytes = made_at branch_table_of branch_table_at bytes
op_after indirect bytes = made_at CallIndirect reserved_index_at bytes
op_after (reserved p) bytes = reserved_at bytes >>= λ z. Some (p, z.1)
op_after (access make) bytes = made_at make argument_at bytes
op_after constant_32 bytes = made_at constant_32_of s32_at bytes
op_after constant_64 bytes = made_at constant_64_of s64_at bytes

-- one that is no operator, load or store, after the opcode
unfoldable pub other_at : ℕ → List ℕ → Option (Code × List ℕ)
other_at op bytes = row_at other_rows op >>= λ f. (op_after f bytes >>= λ o. Some (alone o.0, o.1))

abbrev pub or_else : {A B : Type 0} → Option A → (A → Option B) → Option B → Option B
or_else (Some x) f other = f x
or_else None f other = other

-- after the opcode
unfoldable pub plain_at : Profile → ℕ → List ℕ → Option (Code × List ℕ)
plain_at profile op bytes =
    or_else (option_map alone (row_at (operator_rows profile) op)) (λ c. Some (c, bytes))
    (or_else (row_at load_rows op) (λ o. argument_at bytes >>= λ a. Some (alone (load_of o a.0), a.1))
    (or_else (row_at store_rows op) (λ o. argument_at bytes >>= λ a. Some (alone (store_of o a.0), a.1)) (other_at op bytes)))
