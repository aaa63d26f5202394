use Rattle.std.proofs.Common.{None, ap, option_map, refl, vec_items}
use Rattle.cli_lines.proofs.ByName.{others_kept}
use Rattle.cli_lines.proofs.memory_files.MemoryFilesFiles.remove.Goals as goal

pub returns : goal.returns
returns c = record {
  removed = λ known. ap (option_map vec_items) c.remove.ensures.updates.1;
  others = λ known other apart.
      others_kept vec_items c.args.name.now c.args.name.now c.args.self.now.by_name c.remove.new.self None refl c.remove.ensures.updates other apart.0;
}
