-- Texts that are put together.
use Rattle.std.proofs.Common.{◌≡◌, ℕ, List, [], ◌∷◌, ◌++◌, map, take, drop, ap, ◌∙◌, append_assoc}
use Rattle.std.specs.Int.{w32, w64, to_be_bytes}
use Rattle.std.specs.List.{AllByRecursion}

-- the last bytes of a count
pub last_four : (bytes : List ℕ) (n : ℕ) → bytes ≡ to_be_bytes w64 n → take 4 (drop 4 bytes) ≡ to_be_bytes w32 n
last_four bytes n is = ap (λ (l : List ℕ). take 4 (drop 4 l)) is

-- what holds of each item that is made
pub all_made : {X Y : Type 0} (P : Y → Type 0) (make : X → Y) (xs : List X) → AllByRecursion (λ x. P (make x)) xs → AllByRecursion P (map make xs)
all_made P make [] all = tt
all_made P make (x ∷ xs) all = (all.0, all_made P make xs all.1)

-- one part behind the other
pub four_parts : (t a b c d : List ℕ) → t ++ a ++ b ++ c ++ d ≡ t ++ (a ++ b ++ c ++ d)
four_parts t a b c d =
    ap (λ (x : List ℕ). x ++ c ++ d) (append_assoc t a b) ∙ ap (λ (x : List ℕ). x ++ d) (append_assoc t (a ++ b) c) ∙ append_assoc t (a ++ b ++ c) d
