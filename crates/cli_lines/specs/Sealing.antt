-- Which organisations cannot endorse for want of a seed, and why a key file is refused.
use Rattle.std.specs.Prelude.{◌≡◌, ◌⊎◌, ℕ, List, Bool, false, not, Option}
use Rattle.std.specs.Option.{option_map_or}
use Rattle.key_file.specs.KeyFiles.{IsKeyFile}
use Rattle.org_keys.specs.Signers.{Seeds, is_at_hand}
use Rattle.endorsement_policy.specs.Endorsed.{Listed, key_of}
use Rattle.cli_lines.specs.Told.{IsBrokenOff, IsHeld}
use Rattle.cli_lines.specs.declared.failure.Failure.{Failure}
use Rattle.cli_lines.specs.declared.failure.Failure.TheVariants.{KeyFile}

-- an organisation is listed, and its key is not at hand: it is a public one, of which there is no seed
abbrev pub lacks_seed : Listed → Seeds → List ℕ → Bool
lacks_seed listed seeds org = option_map_or (λ key. not (is_at_hand seeds key)) (key_of listed.orgs org) false

-- a file, which holds these bytes where that is known, has these seeds
abbrev pub HasSeeds : Option (List ℕ) → List (List ℕ) → Type 0
HasSeeds held seeds = (bytes : List ℕ) × IsHeld held bytes × IsKeyFile bytes seeds

-- it is no key file, or the task was broken off
abbrev pub IsNoKeyFile : Option (List ℕ) → Failure → Type 0
IsNoKeyFile held f =
    IsBrokenOff f ⊎ ((f ≡ KeyFile) × (bytes : List ℕ) × IsHeld held bytes × ((seeds : List (List ℕ)) → ¬ IsKeyFile bytes seeds))
