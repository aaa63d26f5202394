-- A module that was read is all that its file holds.
use Rattle.std.proofs.Common.{◌≡◌, ◌≤◌, ℕ, Option, Some, None, IfErr, OnOk, Result, Ok, Err, length, take, min, ap, inl, inr, refl, ◌∙◌, arith}
use Rattle.std.proofs.lemmas.List.{length-take, take_all}
use Rattle.wasm_profile.specs.declared.profile.Profile.{Profile}
use Rattle.ledger_model.specs.Chain.{Bytes}
use Rattle.wasm_file.specs.Modules.{IsDefinedBy, NoModule}
use Rattle.wasm_file.specs.declared.module.ModuleRefusal.{ModuleRefusal}
use Rattle.cli_lines.specs.Texts.{module_failure}
use Rattle.cli_lines.specs.Told.{Answers, IsBrokenOff, IsHeld, Prints, Told}
use Rattle.cli_lines.specs.declared.failure.Failure.{Failure}
use Rattle.cli_show.specs.Modules.{IsFrontOf, TellsOfModule}
use Rattle.cli_show.proofs.Answering.{untold}

-- what is shorter than what was asked for is all
whole : (read bytes : Bytes) → read ≡ take 262145 bytes → length read ≤ 262144 → read ≡ bytes
whole read bytes is short =
    let cut : length read ≡ min 262145 (length bytes) = ap (λ (xs : Bytes). length xs) is ∙ length-take 262145 bytes in
    is ∙ take_all 262145 bytes (omega (arith, cut, short))

all_read : (held : Option Bytes) (read : Bytes) → IsFrontOf held read → length read ≤ 262144 → IsHeld held read
all_read None read is short = tt
all_read (Some bytes) read is short = whole read bytes is short

pub module_told : (said : ℕ → Bytes → Bytes) (profile : Profile) (held : Option Bytes) (read : Bytes) (functions : ℕ) (text : Bytes) (t u : Told)
    (r : Result (Unit {0}) Failure) → IsFrontOf held read → IsDefinedBy profile read functions → text ≡ said functions read → IfErr r IsBrokenOff →
    OnOk r (Prints t u text) → Answers (TellsOfModule said profile held) t u r
module_told said profile held read functions text t u (Ok x) front defined is lost printed =
    inr (text, (read, all_read held read front defined.1.0, functions, defined, is), printed)
module_told said profile held read functions text t u (Err f) front defined is lost printed = inl lost

pub module_refused : (said : ℕ → Bytes → Bytes) (profile : Profile) (held : Option Bytes) (read : Bytes) (refusal : ModuleRefusal) (failure : Failure)
    (t : Told) → IsFrontOf held read → NoModule profile read refusal → failure ≡ module_failure refusal →
    Answers (TellsOfModule said profile held) t t (Err failure)
module_refused said profile held read refusal failure t front why is =
    untold (TellsOfModule said profile held) t (Err failure) (read, front, refusal, why, is, refl)
