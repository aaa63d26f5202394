use Rattle.std.proofs.Common.{◌≡◌, ℕ, ◌≤◌, length}
use Rattle.wasm_decode.specs.SectionReading.{sections_at}
use Rattle.wasm_bytes.specs.Place.{offset_of}
use Rattle.wasm_decode.specs.Faults.{ComesBehind, Kept}
use Rattle.wasm_decode.proofs.sections.sections.Given as goal

abbrev pub invariant-sections : goal.invariant-sections
invariant-sections l =
    (n : ℕ) × (length l.cursor.rest ≤ n)
    × (sections_at l.profile n l.last l.parts l.cursor.rest ≡ sections_at l.profile (length l.fn.cursor.rest) 0 l.fn.parts l.fn.cursor.rest)
    × Kept l.fn.cursor l.cursor × (length l.cursor.rest ≤ 262144) × ComesBehind l.last l.cursor.whole (offset_of l.cursor)

abbrev pub decreases-sections : goal.decreases-sections
decreases-sections l = length l.cursor.rest
