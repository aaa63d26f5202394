use Rattle.std.proofs.Common.{Some, string_bytes, vec_items}
use Rattle.cli_lines.proofs.ByName.{others_kept}
use Rattle.cli_lines.proofs.memory_files.MemoryFiles.put.Goals as goal

pub returns-clause-others : goal.returns-clause-others
returns-clause-others c = λ known other apart.
    others_kept vec_items (string_bytes c.in_ok-name.name) c.args.name.now c.args.self.now.by_name c.insert.new.self (Some c.args.bytes)
    c.in_ok-name.ensures.ok c.in_ok-insert.ensures.updates other apart.0
