-- What the program prints of a failure.
use Rattle.std.specs.Prelude.{◌++◌, ℕ, List, [], Option, Some, None, codes, option_map}
use Rattle.std.specs.Fmt.{decimal}
use Rattle.block_store.specs.End.{end_text}
use Rattle.committer.specs.Numbers.{refusal_number as commit_number}
use Rattle.json_genesis.specs.Numbers.{refusal_number as genesis_number}
use Rattle.json_genesis.specs.declared.refusal.GenesisRefusal.{GenesisRefusal}
use Rattle.json_genesis.specs.declared.refusal.GenesisRefusal.TheVariants as genesis
use Rattle.wasm_file.specs.Texts.{refusal_text as module_text}
use Rattle.wasm_file.specs.declared.module.ModuleRefusal.{ModuleRefusal}
use Rattle.wasm_file.specs.declared.module.ModuleRefusal.TheVariants as module_refusal
use Rattle.simulator.specs.RefusalNumber.{refusal_text as simulation_text}
use Rattle.simulator.specs.declared.refusal.SimRefusal.{SimRefusal}
use Rattle.simulator.specs.declared.refusal.SimRefusal.TheVariants as simulation
use Rattle.cli_lines.specs.declared.files.FileFault.{FileFault}
use Rattle.cli_lines.specs.declared.files.FileFault.TheVariants as file
use Rattle.cli_lines.specs.declared.failure.Failure.{Failure}
use Rattle.cli_lines.specs.declared.failure.Failure.TheVariants as failure

-- a refusal by its number
abbrev pub refused : ℕ → List ℕ
refused n = codes "refused " ++ decimal n

-- what is said of a line of the input, from 1, that spells nothing
abbrev pub bad_line : ℕ → List ℕ
bad_line n = codes "bad line " ++ decimal n

-- the text of a failure, empty where it is told otherwise
abbrev pub failure_text : Failure → Option (List ℕ)
failure_text failure.Usage = Some []
failure_text failure.Memory = Some (codes "refused 9")
failure_text failure.File = Some (codes "refused 703")
failure_text (failure.Module refusal) = Some (module_text refusal)
failure_text (failure.Genesis refusal) = Some (refused (genesis_number refusal))
failure_text failure.KeyFile = Some (codes "refused 809")
failure_text failure.NoSeed = Some (codes "refused 808")
failure_text (failure.Simulation refusal) = Some (simulation_text refusal)
failure_text failure.NoPlace = Some (codes "refused 431")
failure_text failure.NotEntered = Some (codes "refused 432")
failure_text (failure.Commit refusal) = Some (refused (commit_number refusal))
failure_text (failure.Flags n) = Some (codes "refused 711 block " ++ decimal n)
failure_text (failure.Store end) = Some (codes "refused " ++ end_text end)
failure_text (failure.BadLine n) = Some (bad_line n)
failure_text failure.Printed = Some []
failure_text failure.Output = Some []

-- a text with its line's end
abbrev pub line : List ℕ → List ℕ
line text = text ++ codes "\n"

-- what is printed of a failure at the end: nothing more where that is done, or cannot be. None of a usage, which is the program's
abbrev pub last_line : Failure → Option (List ℕ)
last_line failure.Usage = None
last_line failure.Printed = Some []
last_line failure.Output = Some []
last_line f = option_map line (failure_text f)

-- ---- each cause as the failure that tells it

abbrev pub file_failure : FileFault → Failure
file_failure file.Memory = failure.Memory
file_failure file.Device = failure.File

abbrev pub module_failure : ModuleRefusal → Failure
module_failure module_refusal.Memory = failure.Memory
module_failure refusal = failure.Module refusal

abbrev pub genesis_failure : GenesisRefusal → Failure
genesis_failure genesis.Memory = failure.Memory
genesis_failure refusal = failure.Genesis refusal

abbrev pub simulation_failure : SimRefusal → Failure
simulation_failure simulation.Memory = failure.Memory
simulation_failure refusal = failure.Simulation refusal
