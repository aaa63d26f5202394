use Rattle.std.proofs.Common.{ap}
use Rattle.cli_lines.specs.Places.{FilesHeld}
use Rattle.cli_lines.proofs.memory_files.MemoryFilesFiles.keep.Goals as goal

pub returns-in-Ok-clause-others : goal.returns-in-Ok-clause-others
returns-in-Ok-clause-others c = λ known other apart. c.put.ensures.others known other apart.1

pub returns-in-Err-clause-others : goal.returns-in-Err-clause-others
returns-in-Err-clause-others c = λ known other apart. c.put.ensures.others known other apart.1

pub returns-in-Err-clause-refused : goal.returns-in-Err-clause-refused
returns-in-Err-clause-refused c = λ known not. ap (λ (h : FilesHeld). h c.args.to.now) c.in-Err.ensures.refused
