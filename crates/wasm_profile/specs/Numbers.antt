-- The numbers by which definitions of chaincodes and the files of a ledger name profiles.
use Rattle.std.specs.Prelude.{ℕ, Option, Some, None, nat_eq, if◌then◌else◌}
use Rattle.wasm_profile.specs.declared.profile.Profile.{Profile}
use Rattle.wasm_profile.specs.declared.profile.Profile.TheVariants.{Core1, SignExtension}

abbrev pub number_of : Profile → ℕ
number_of Core1 = 1
number_of SignExtension = 2

-- the profile of a number, 1 or 2
abbrev pub profile_of : ℕ → Option Profile
profile_of n = if nat_eq n 1 then Some Core1 else (if nat_eq n 2 then Some SignExtension else None)
