-- What is printed of a module.
use Rattle.std.specs.Prelude.{◌≡◌, ℕ, [], ◌++◌, Option, IfSome, Result, Ok, Err, codes, length, take}
use Rattle.std.specs.Fmt.{decimal}
use Rattle.hex.specs.Hex.{encode_lower}
use Rattle.sha2.specs.Sha256.{sha256}
use Rattle.wasm_profile.specs.declared.profile.Profile.{Profile}
use Rattle.ledger_model.specs.Chain.{Bytes}
use Rattle.wasm_file.specs.Modules.{IsDefinedBy, NoModule}
use Rattle.wasm_file.specs.declared.module.ModuleRefusal.{ModuleRefusal}
use Rattle.cli_lines.specs.Texts.{line, module_failure}
use Rattle.cli_lines.specs.Told.{IsHeld}
use Rattle.cli_lines.specs.declared.failure.Failure.{Failure}

abbrev pub valid_text : (functions size : ℕ) → Bytes
valid_text functions size = codes "valid functions=" ++ (decimal functions ++ (codes " bytes=" ++ (decimal size ++ codes "\n")))

-- what is read of a module's file: one byte more than a module has at most
abbrev pub IsFrontOf : Option Bytes → Bytes → Type 0
IsFrontOf held read = IfSome held (λ bytes. read ≡ take 262145 bytes)

-- a file holds a valid module of the profile, of which this text is printed, or its bytes are none
abbrev pub TellsOfModule : (ℕ → Bytes → Bytes) → Profile → Option Bytes → Result (Unit {0}) Failure → Bytes → Type 0
TellsOfModule said profile held (Ok done) text =
    (bytes : Bytes) × IsHeld held bytes × (functions : ℕ) × IsDefinedBy profile bytes functions × (text ≡ said functions bytes)
TellsOfModule said profile held (Err failure) text =
    (read : Bytes) × IsFrontOf held read × (refusal : ModuleRefusal) × NoModule profile read refusal × (failure ≡ module_failure refusal) × (text ≡ [])

-- `check`: how many functions the module defines, and how many bytes it has
abbrev pub Checks : Profile → Option Bytes → Result (Unit {0}) Failure → Bytes → Type 0
Checks profile held answer text = TellsOfModule (λ functions bytes. valid_text functions (length bytes)) profile held answer text

-- `digest`: its SHA-256 in lower-case hex
abbrev pub Digests : Profile → Option Bytes → Result (Unit {0}) Failure → Bytes → Type 0
Digests profile held answer text = TellsOfModule (λ functions bytes. line (encode_lower (sha256 bytes))) profile held answer text
