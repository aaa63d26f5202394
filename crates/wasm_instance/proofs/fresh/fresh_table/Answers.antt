use Rattle.std.proofs.Common.{sym, ap, ◌∙◌, subst}
use Rattle.wasm_ast.specs.declared.types.Limits.{Limits}
use Rattle.wasm_meaning.specs.Program.{first_limits}
use Rattle.wasm_instance.specs.Segments.{AreElements}
use Rattle.wasm_instance.proofs.Starting.{elements_within}
use Rattle.wasm_instance.proofs.fresh.fresh_table.Goals as goal

pub set_elements-requires : goal.set_elements-requires
set_elements-requires c =
    let size = c.deref_mut.ensures.len ∙ c.in_ok-resize.ensures.len ∙
    ap (λ (l : Limits). l.least) (c.first_limits.ensures ∙ ap first_limits c.as_slice.ensures) in
    subst (λ n. AreElements c.as_slice-2.result.now n) (sym size)
    (subst (λ es. AreElements es (first_limits c.args.module.now.tables).least) (sym c.as_slice-2.ensures) (elements_within c.args.module.now c.requires))
