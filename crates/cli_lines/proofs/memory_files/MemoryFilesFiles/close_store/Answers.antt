use Rattle.std.proofs.Common.{IsSome, Some, refl, subst, vec_items}
use Rattle.cli_lines.proofs.ByName.{others_kept}
use Rattle.cli_lines.proofs.memory_files.MemoryFilesFiles.close_store.Goals as goal

pub returns-in-Some-clause-others : goal.returns-in-Some-clause-others
returns-in-Some-clause-others c = λ known other apart.
    let name = c.args.name.now in
    let bytes = c.into_bytes.result in
    others_kept vec_items name name c.args.self.now.by_name (c.get_mut.follows.lender bytes) (Some bytes) refl
    ((c.get_mut.follows.holds bytes).3 (subst IsSome c.in-Some.ensures.value refl)) other apart.0
