-- Reading an instruction with no instruction inside reads its spelling.
use Rattle.std.proofs.Common.{◌≡◌, ℕ, ◌^◌, true, false, eqb, List, [], ◌∷◌, ◌++◌, Option, Some, None, refl, sym, ap, ap₂, ◌∙◌}
use Rattle.std.specs.Prelude.{option_map}
use Rattle.std.proofs.lemmas.Option.{some_pair_parts}
use Rattle.wasm_profile.specs.declared.profile.Profile.{Profile}
use Rattle.wasm_profile.specs.declared.profile.Profile.TheVariants.{Core1, SignExtension}
use Rattle.grammar.specs.Spelling.{IsByte}
use Rattle.grammar.specs.Reading.{◌>>=◌}
use Rattle.grammar.specs.Table.{row_at, is_unique}
use Rattle.grammar.specs.Laws.Rows.{has_row, row_found, row_is_not}
use Rattle.grammar.specs.Reads.{Reads, Any}
use Rattle.grammar.specs.Laws.Steps.{bind_some}
use Rattle.grammar.specs.Laws.Wholes.{made_reads, text_reads, then_reads, last_reads}
use Rattle.wasm_bytes.specs.Spelling.{IsU32, IsS32, IsS64, IsList}
use Rattle.wasm_bytes.specs.Reading.{u32_at, s32_at, s64_at, list_at}
use Rattle.wasm_bytes.specs.Laws.Leb.{signed_reads}
use Rattle.wasm_ast.specs.declared.operators.LoadOp.{LoadOp}
use Rattle.wasm_ast.specs.declared.operators.StoreOp.{StoreOp}
use Rattle.wasm_ast.specs.declared.body.MemoryArgument.{MemoryArgument}
use Rattle.wasm_ast.specs.Op.{Op, CallIndirect}
use Rattle.wasm_ast.specs.Code.{Code, Do, End}
use Rattle.wasm_operators.specs.Operators.{load_rows, store_rows, comparison_rows, arithmetic_32_rows, arithmetic_64_rows, conversion_rows, sign_extension_rows}
use Rattle.wasm_operators.specs.Operators.{operator_rows}
use Rattle.wasm_decode.specs.Opcodes.{Form, bare, indexed, labelled, indirect, reserved, access, constant_32, constant_64, other_rows, with_form, opcodes}
use Rattle.wasm_decode.specs.Opcodes.{load_of, store_of, constant_32_of, constant_64_of, branch_table_of, IsBranchTable, IsMemoryArgument, IsReservedIndex}
use Rattle.wasm_decode.specs.Opcodes.{IsAfter, IsOp}
use Rattle.wasm_operators.specs.Operators.{alone}
use Rattle.wasm_decode.specs.OpReading.{reserved_at, branch_table_at, argument_at, reserved_index_at, op_after, other_at, or_else, plain_at}
use Rattle.wasm_decode.specs.CodeReading.{is_last}
use Rattle.wasm_decode.proofs.TypeLaws.{u32_reads, list_reads}
use Rattle.wasm_operators.proofs.Rows.{first_of, row_at-append, row_at-map}

branch_table_reads : Reads IsBranchTable branch_table_at
unfolding branch_table_at
branch_table_reads =
    then_reads Any (IsList 1024 IsU32) (list_at 1024 u32_at) (λ (t : List ℕ × ℕ). t.0) (λ t. IsU32 t.1)
    (λ ls bytes. u32_at bytes >>= λ d. Some ((ls, d.0), d.1)) (list_reads 1024 IsU32 u32_at u32_reads)
    (λ ls. last_reads (λ (t : List ℕ × ℕ). Any t × (t.0 ≡ ls)) IsU32 u32_at (λ t. t.1) (λ d. (ls, d)) u32_reads (λ d. ((tt, refl), refl))
    (λ t k. ap (λ (ls : List ℕ). let made : List ℕ × ℕ = (ls, t.1) in made) (sym k.1)))

argument_reads : Reads IsMemoryArgument argument_at
unfolding argument_at
argument_reads =
    then_reads Any IsU32 u32_at (λ (a : MemoryArgument). a.align) (λ a. IsU32 a.offset)
    (λ align bytes. u32_at bytes >>= λ offset. Some (record { align = align; offset = offset.0 }, offset.1)) u32_reads
    (λ align. last_reads (λ (a : MemoryArgument). Any a × (a.align ≡ align)) IsU32 u32_at (λ a. a.offset) (λ offset. record { align = align; offset = offset })
    u32_reads (λ offset. ((tt, refl), refl))
    (λ a k. ap (λ (align : ℕ). let made : MemoryArgument = record { align = align; offset = a.offset } in made) (sym k.1)))

reserved_reads : Reads (λ (_ : Unit {0}). IsByte 0x00) reserved_at
unfolding reserved_at
reserved_reads = text_reads (0x00 ∷ [])

reserved_index_reads : Reads IsReservedIndex reserved_index_at
unfolding reserved_index_at
reserved_index_reads =
    then_reads Any IsU32 u32_at (λ (n : ℕ). n) (λ n. IsByte 0x00) (λ n bytes. reserved_at bytes >>= λ z. Some (n, z.1)) u32_reads
    (λ n. last_reads (λ (m : ℕ). Any m × (m ≡ n)) (λ _. IsByte 0x00) reserved_at (λ _. tt) (λ _. n) reserved_reads (λ z. ((tt, refl), refl)) (λ m k. sym k.1))

op_after_reads : (f : Form) → Reads (IsAfter f) (op_after f)
op_after_reads (bare p) = record {
  takes = λ bytes o rest e. let parts = some_pair_parts p o bytes rest e in (tt, [], (sym parts.0, refl), parts.1);
  again = λ o text rest _ h. ap (λ (x : List ℕ). op_after (bare p) (x ++ rest)) h.1 ∙ ap (λ (q : Op). Some (q, rest)) (sym h.0);
}
op_after_reads (indexed make) = made_reads make IsU32 u32_at u32_reads
op_after_reads labelled = made_reads branch_table_of IsBranchTable branch_table_at branch_table_reads
op_after_reads indirect = made_reads CallIndirect IsReservedIndex reserved_index_at reserved_index_reads
op_after_reads (reserved p) = record {
  takes = λ bytes o rest e.
      let s = bind_some (reserved_at bytes) (λ z. Some (p, z.1)) (o, rest) e in
      let t = reserved_reads.takes bytes s.0.0 s.0.1 s.1 in
      let parts = some_pair_parts p o s.0.1 rest s.2 in
      (tt, t.1, (sym parts.0, t.2), t.3 ∙ ap (λ (x : List ℕ). t.1 ++ x) parts.1);
  again = λ o text rest _ h.
      ap (λ (o : Option (Unit {0} × List ℕ)). o >>= λ z. Some (p, z.1)) (reserved_reads.again tt text rest tt h.1) ∙ ap (λ (q : Op). Some (q, rest)) (sym h.0);
}
op_after_reads (access make) = made_reads make IsMemoryArgument argument_at argument_reads
op_after_reads constant_32 = made_reads constant_32_of IsS32 s32_at (signed_reads (2 ^ 31))
op_after_reads constant_64 = made_reads constant_64_of IsS64 s64_at (signed_reads (2 ^ 63))

-- ---- what is read after an opcode is what its row says

abbrev op_read : Form → List ℕ → Option (Code × List ℕ)
op_read f bytes = op_after f bytes >>= λ o. Some (alone o.0, o.1)

abbrev made : {A B : Type 0} → (A → B) → Option (A × List ℕ) → Option (B × List ℕ)
made make read = read >>= λ a. Some (make a.0, a.1)

made_alone : {A : Type 0} (make : A → Op) (o : Option (A × List ℕ)) → made (λ a. alone (make a)) o ≡ made alone (made make o)
made_alone make (Some a) = refl
made_alone make None = refl

by_groups : (o : Option Op) (l : Option LoadOp) (s : Option StoreOp) (f : Option Form) (bytes : List ℕ)
    → or_else (option_map alone o) (λ c. Some (c, bytes))
    (or_else l (λ o. argument_at bytes >>= λ a. Some (alone (load_of o a.0), a.1))
    (or_else s (λ o. argument_at bytes >>= λ a. Some (alone (store_of o a.0), a.1)) (f >>= λ f. op_read f bytes)))
    ≡ (first_of (option_map bare o) (first_of (option_map (λ o. access (load_of o)) l) (first_of (option_map (λ o. access (store_of o)) s) f)) >>= λ f.
    op_read f bytes)
by_groups (Some o) l s f bytes = refl
by_groups None (Some o) s f bytes = made_alone (load_of o) (argument_at bytes)
by_groups None None (Some o) f bytes = made_alone (store_of o) (argument_at bytes)
by_groups None None None f bytes = refl

opcodes_unique : (profile : Profile) → is_unique (opcodes profile) ≡ true
unfolding opcodes other_rows operator_rows load_rows store_rows comparison_rows arithmetic_32_rows arithmetic_64_rows conversion_rows sign_extension_rows
opcodes_unique Core1 = refl
opcodes_unique SignExtension = refl

-- opcodes that open or end a block are in no row
absent : (profile : Profile) → (row_at (opcodes profile) 0x0b ≡ None) × (row_at (opcodes profile) 0x05 ≡ None) × (row_at (opcodes profile) 0x02 ≡ None) ×
    (row_at (opcodes profile) 0x03 ≡ None) × (row_at (opcodes profile) 0x04 ≡ None)
unfolding opcodes other_rows operator_rows load_rows store_rows comparison_rows arithmetic_32_rows arithmetic_64_rows conversion_rows sign_extension_rows
absent Core1 = (refl, refl, refl, refl, refl)
absent SignExtension = (refl, refl, refl, refl, refl)

module _ (profile : Profile) where
  in_groups : (op : ℕ) →
      row_at (opcodes profile) op ≡ first_of (option_map bare (row_at (operator_rows profile) op))
      (first_of (option_map (λ o. access (load_of o)) (row_at load_rows op))
      (first_of (option_map (λ o. access (store_of o)) (row_at store_rows op)) (row_at other_rows op)))
  unfolding opcodes
  in_groups op =
      let loads = with_form (λ o. access (load_of o)) load_rows in
      let stores = with_form (λ o. access (store_of o)) store_rows in
      row_at-append (with_form bare (operator_rows profile)) (loads ++ (stores ++ other_rows)) op
      ∙ ap₂ first_of (row_at-map bare (operator_rows profile) op)
      (row_at-append loads (stores ++ other_rows) op ∙
      ap₂ first_of (row_at-map (λ o. access (load_of o)) load_rows op)
      (row_at-append stores other_rows op ∙ ap (λ o. first_of o (row_at other_rows op)) (row_at-map (λ o. access (store_of o)) store_rows op)))

  plain_by_row : (op : ℕ) (bytes : List ℕ) → plain_at profile op bytes ≡ (row_at (opcodes profile) op >>= λ f. op_read f bytes)
  unfolding plain_at other_at
  plain_by_row op bytes =
      by_groups (row_at (operator_rows profile) op) (row_at load_rows op) (row_at store_rows op) (row_at other_rows op) bytes ∙
      ap (λ (f : Option Form). f >>= λ f. op_read f bytes) (sym (in_groups op))

  -- What was read is spelled by the opcode and what was taken.
  pub record IsPlain (op : ℕ) (bytes : List ℕ) (c : Code) (rest : List ℕ) : Type 0 where
    pub instruction : Op
    pub text : List ℕ
    pub spelled : IsOp profile instruction (op ∷ text)
    pub code : Do instruction End ≡ c
    pub split : bytes ≡ text ++ rest

  pub plain_takes : (op : ℕ) (bytes : List ℕ) (c : Code) (rest : List ℕ) → plain_at profile op bytes ≡ Some (c, rest) → IsPlain op bytes c rest
  plain_takes op bytes c rest e =
      let coded = λ (o : Op × List ℕ). Some (Do o.0 End, o.1) in
      let f = bind_some (row_at (opcodes profile) op) (λ f. op_after f bytes >>= coded) (c, rest) (sym (plain_by_row op bytes) ∙ e) in
      let o = bind_some (op_after f.0 bytes) coded (c, rest) f.2 in
      let parts = some_pair_parts (Do o.0.0 End) c o.0.1 rest o.2 in
      let one = (op_after_reads f.0).takes bytes o.0.0 o.0.1 o.1 in
      record {
        instruction = o.0.0;
        text = one.1;
        spelled = (op, f.0, has_row (opcodes profile) op f.0 f.1, (op ∷ [], one.1, refl, one.2, refl));
        code = parts.0;
        split = one.3 ∙ ap (λ (x : List ℕ). one.1 ++ x) parts.1;
      }

  -- the opcode of a spelling, which opens or ends no block, and what is read after it
  pub record IsRead (o : Op) (text rest : List ℕ) : Type 0 where
    pub opcode : ℕ
    pub after : List ℕ
    pub split : text ≡ opcode ∷ after
    pub goes_on : is_last opcode ≡ false
    pub not_block : eqb opcode 0x02 ≡ false
    pub not_loop : eqb opcode 0x03 ≡ false
    pub not_if : eqb opcode 0x04 ≡ false
    pub read : plain_at profile opcode (after ++ rest) ≡ Some (Do o End, rest)

  pub plain_again : (o : Op) (text rest : List ℕ) → IsOp profile o text → IsRead o text rest
  plain_again o text rest h =
      let b = h.0 in
      let f = h.1 in
      let found : row_at (opcodes profile) b ≡ Some f = row_found (opcodes profile) b f (opcodes_unique profile) h.2 in
      let s = h.3 in
      record {
        opcode = b;
        after = s.1;
        split = s.4 ∙ ap (λ (x : List ℕ). x ++ s.1) s.2;
        goes_on = rw (row_is_not (opcodes profile) b 0x0b f (absent profile).0 found, row_is_not (opcodes profile) b 0x05 f (absent profile).1 found) refl;
        not_block = row_is_not (opcodes profile) b 0x02 f (absent profile).2 found;
        not_loop = row_is_not (opcodes profile) b 0x03 f (absent profile).3 found;
        not_if = row_is_not (opcodes profile) b 0x04 f (absent profile).4 found;
        read = plain_by_row b (s.1 ++ rest) ∙ ap (λ (g : Option Form). g >>= λ f. op_read f (s.1 ++ rest)) found
            ∙ ap (λ (p : Option (Op × List ℕ)). p >>= λ o. Some (alone o.0, o.1)) ((op_after_reads f).again o s.1 rest tt s.3);
      }
