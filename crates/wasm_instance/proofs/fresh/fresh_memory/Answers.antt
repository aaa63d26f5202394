use Rattle.std.proofs.Common.{ℕ, ◌*◌, length, sym, ap, ◌∙◌, subst}
use Rattle.std.proofs.lemmas.List.{length-replicate}
use Rattle.wasm_ast.specs.declared.types.Limits.{Limits}
use Rattle.wasm_meaning.specs.Program.{first_limits}
use Rattle.wasm_instance.specs.Segments.{AreData}
use Rattle.wasm_instance.proofs.Starting.{data_within}
use Rattle.wasm_instance.proofs.fresh.fresh_memory.Goals as goal

pub write_segments-requires : goal.write_segments-requires
write_segments-requires c =
    let size = ap length c.in_ok-memory.ensures ∙ length-replicate {A = ℕ} _ 0 ∙
    ap (λ (l : Limits). 65536 * l.least) (c.first_limits.ensures ∙ ap first_limits c.as_slice.ensures) in
    subst (λ n. AreData c.as_slice-2.result.now n) (sym size)
    (subst (λ ds. AreData ds (65536 * (first_limits c.args.module.now.memories).least)) (sym c.as_slice-2.ensures)
    (data_within c.args.module.now c.requires))
