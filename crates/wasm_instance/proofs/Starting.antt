-- The segments and initializers of a valid module.
use Rattle.std.proofs.Common.{◌≡◌, ◌≤◌, ◌+◌, ◌*◌, ℕ, zero, suc, List, [], ◌∷◌, length, Some, sym, subst, arith}
use Rattle.std.specs.Prelude.{slice_get}
use Rattle.wasm_ast.specs.declared.types.Limits.{Limits}
use Rattle.wasm_ast.specs.declared.module.Module.{Module}
use Rattle.wasm_typing.specs.ModuleRules.{IsValid}
use Rattle.wasm_meaning.specs.Program.{first_limits}
use Rattle.wasm_instance.specs.Segments.{AreConstants, AreData, AreElements}

-- the limits of what there is at most one of
only : (ls : List Limits) (i : ℕ) (l : Limits) → length ls ≤ 1 → slice_get ls i ≡ Some l → first_limits ls ≡ l
only [] i l le g = cc
only (x ∷ []) zero l le g = cc
only (x ∷ []) (suc i) l le g = cc
only (x ∷ y ∷ ls) i l le g = absurd (omega arith)

pub data_within : (m : Module) → IsValid m → AreData m.data (65536 * (first_limits m.memories).least)
data_within m valid k d e =
    let found = valid.segments k d e in
    record {
      offset = found.offset;
      constant = found.constant;
      within = subst (λ (l : Limits). found.offset + length d.bytes ≤ 65536 * l.least)
          (sym (only m.memories d.memory found.memory valid.one_memory found.exists)) found.within;
    }

pub elements_within : (m : Module) → IsValid m → AreElements m.elements (first_limits m.tables).least
elements_within m valid k e h =
    let found = valid.elements k e h in
    record {
      offset = found.offset;
      constant = found.constant;
      within = subst (λ (l : Limits). found.offset + length e.functions ≤ l.least) (sym (only m.tables e.table found.table valid.one_table found.exists))
          found.within;
    }

pub globals_constant : (m : Module) → IsValid m → AreConstants m.globals
globals_constant m valid k g h =
    let found = valid.globals k g h in
    record { type = g.global_type.value_type; word = found.word; is = found.constant }
