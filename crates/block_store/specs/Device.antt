-- What a call of a device leaves.
use Rattle.std.specs.Prelude.{◌≡◌, ℕ, suc, ◌<◌, ◌≤◌, List, ◌++◌, length, take, Result, Ok, Err}

-- A read puts bytes at the front of the buffer, none only at the end; or it is one more failed call and hands out nothing.
abbrev pub ReadOnce : {E : Type 0} → Result ℕ E → List ℕ → List ℕ → List ℕ → ℕ → ℕ → Type 0 → Type 0
ReadOnce (Ok n) buffer old new failures now AtEnd =
    (n ≤ length buffer) × (new ≡ old ++ take n buffer) × (now ≡ failures) × (n ≡ 0 → AtEnd)
ReadOnce (Err e) buffer old new failures now AtEnd = (new ≡ old) × (now ≡ suc failures)

-- A write takes some of the bytes, at least one; or it is one more failed call and takes nothing.
abbrev pub WroteOnce : {E : Type 0} → Result ℕ E → List ℕ → List ℕ → List ℕ → ℕ → ℕ → Type 0
WroteOnce (Ok n) bytes old new failures now = (0 < n) × (n ≤ length bytes) × (new ≡ old ++ take n bytes) × (now ≡ failures)
WroteOnce (Err e) bytes old new failures now = (new ≡ old) × (now ≡ suc failures)
