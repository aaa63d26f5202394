-- What `public` prints of a key file.
use Rattle.std.specs.Prelude.{◌≡◌, ◌++◌, ℕ, List, [], Option, Result, Ok, Err, codes}
use Rattle.std.specs.List.{flat_map}
use Rattle.hex.specs.Hex.{encode_lower}
use Rattle.ed25519.specs.Signing.{public_key}
use Rattle.cli_lines.specs.Sealing.{HasSeeds, IsNoKeyFile}
use Rattle.cli_lines.specs.declared.failure.Failure.{Failure}

-- the line of the public key of a seed
abbrev pub public_text : List ℕ → List ℕ
public_text seed = codes "public " ++ (encode_lower (public_key seed) ++ codes "\n")

-- `public`: a line for each seed of the file, in order; or why it has none
abbrev pub Publishes : Option (List ℕ) → Result (Unit {0}) Failure → List ℕ → Type 0
Publishes held (Ok done) text = (seeds : List (List ℕ)) × HasSeeds held seeds × (text ≡ flat_map public_text seeds)
Publishes held (Err f) text = IsNoKeyFile held f × (text ≡ [])
