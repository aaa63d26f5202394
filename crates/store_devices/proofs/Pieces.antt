-- Bytes that are read of a file from a place on.
use Rattle.std.proofs.Common.{◌≡◌, ◌+◌, ◌<◌, ℕ, List, ◌++◌, Option, Some, None, arith, length, take, drop, sym, ap, ◌∙◌}
use Rattle.std.proofs.lemmas.List.{drop-drop, drop_all, take-append-drop}
use Rattle.std.specs.Io.KnownBytes.{Consumes, IsAtEnd}
use Rattle.store_devices.specs.StoreFile.{Gives, from_place}

-- they are taken from the bytes that are left
pub piece_taken : (known : Option (List ℕ)) (place n : ℕ) (buffer : List ℕ) → Gives known place n buffer →
    Consumes (from_place place known) (from_place (place + n) known) (take n buffer)
piece_taken None place n buffer gives = tt
piece_taken (Some held) place n buffer gives =
    sym (take-append-drop n (drop place held)) ∙ ap (λ (front : List ℕ). front ++ drop n (drop place held)) (sym gives.0)
    ∙ ap (λ (rest : List ℕ). take n buffer ++ rest) (drop-drop n place held)

-- none are read only at the end
pub piece_last : (known : Option (List ℕ)) (place n : ℕ) (buffer : List ℕ) → Gives known place n buffer → n ≡ 0 → 0 < length buffer →
    IsAtEnd (from_place (place + n) known)
piece_last None place n buffer gives none room = tt
piece_last (Some held) place n buffer gives none room = let past = gives.1 none room in drop_all (place + n) held (omega (arith, past))
