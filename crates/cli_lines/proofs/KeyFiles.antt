-- A key file of which as many bytes were read as it can have, and one more.
use Rattle.std.proofs.Common.{◌≡◌, ℕ, ◌<◌, List, Option, Some, None, IfSome, length, min, take, refl, sym, ap, subst, ◌∙◌, arith}
use Rattle.std.proofs.lemmas.List.{length-take, take_all, take_min}
use Rattle.std.proofs.Math.Seq.{take-length}
use Rattle.key_file.specs.KeyFiles.{IsKeyFile}
use Rattle.cli_lines.specs.Sealing.{HasSeeds}
use Rattle.cli_lines.specs.Told.{IsHeld}
use Rattle.key_file.proofs.Lines.{size}

-- where fewer bytes are there than were asked for, these are all
all_bytes : (n : ℕ) (bytes : List ℕ) → length (take n bytes) < n → take n bytes ≡ bytes
all_bytes n bytes short =
    let e = length-take n bytes in
    let whole : min n (length bytes) ≡ length bytes = omega (arith, e, short) in
    sym (take_min n bytes) ∙ ap (λ (k : ℕ). take k bytes) whole ∙ take-length bytes

pub whole_file : (read : List ℕ) (seeds : List (List ℕ)) (held : Option (List ℕ)) → IsKeyFile read seeds
    → IfSome held (λ bytes. read ≡ take 1041 bytes) → HasSeeds held seeds
whole_file read seeds None h e = (read, tt, h)
whole_file read seeds (Some bytes) h e =
    let n = size read seeds h.0 in
    let most = h.2 in
    let short : length (take 1041 bytes) < 1041 = rw (← e) (omega (arith, n, most)) in
    (bytes, refl, subst (λ xs. IsKeyFile xs seeds) (e ∙ all_bytes 1041 bytes short) h)

-- where what was read is no key file, neither is the file
pub no_file : (read : List ℕ) (held : Option (List ℕ)) → ((seeds : List (List ℕ)) → ¬ IsKeyFile read seeds)
    → IfSome held (λ bytes. read ≡ take 1041 bytes)
    → (bytes : List ℕ) × IsHeld held bytes × ((seeds : List (List ℕ)) → ¬ IsKeyFile bytes seeds)
no_file read None other e = (read, tt, other)
no_file read (Some bytes) other e = (bytes, refl, λ seeds is. other seeds (subst (λ xs. IsKeyFile xs seeds) (sym (e ∙ all bytes seeds is)) is))
  where
    all : (xs : List ℕ) (seeds : List (List ℕ)) → IsKeyFile xs seeds → take 1041 xs ≡ xs
    all xs seeds is =
        let n = size xs seeds is.0 in
        let most = is.2 in
        take_all 1041 xs (omega (arith, n, most))
