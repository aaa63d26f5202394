-- Files in memory.
use Rattle.std.specs.Prelude.{ℕ, List, Option, option_map, vec_items}
use Rattle.std.specs.BTreeMap.{get_by_text}
use Rattle.cli_lines.specs.declared.memory_files.MemoryFiles.{MemoryFiles}

-- the bytes of the file of a name, if there is one
abbrev pub bytes_in : MemoryFiles → List ℕ → Option (List ℕ)
bytes_in files name = option_map vec_items (get_by_text files.by_name name)
