-- Reading numbers and names from left to right: the item at the front and the bytes after it, or nothing.
use Rattle.std.specs.Prelude.{◌≡◌, ℕ, ◌+◌, ◌-◌, ◌*◌, ◌/◌, ◌^◌, ℤ, pos, negsuc, ◌+ℤ◌, ◌*ℤ◌, List, [], ◌∷◌, length, take, drop, Option, Some, None, Result, Ok}
use Rattle.std.specs.Prelude.{Err, nat_lt, nat_le, if◌then◌else◌}
use Rattle.std.specs.Str.{is_utf8}
use Rattle.grammar.specs.Reading.{◌>>=◌, counted_at, measured_at}

unfoldable pub unsigned_at : ℕ → List ℕ → Option (ℕ × List ℕ)
unsigned_at bound [] = None
unsigned_at bound (b ∷ rest) =
    if nat_lt b 128 then (if nat_lt b bound then Some (b, rest) else None)
    else if nat_lt 128 bound then (unsigned_at (bound / 128) rest >>= λ high. Some ((b - 128) + 128 * high.0, high.1))
    else None

unfoldable pub signed_at : ℕ → List ℕ → Option (ℤ × List ℕ)
signed_at half [] = None
signed_at half (b ∷ rest) =
    if nat_lt b 64 then (if nat_lt b half then Some (pos b, rest) else None)
    else if nat_lt b 128 then (if nat_le 128 (b + half) then Some (negsuc (127 - b), rest) else None)
    else if nat_lt 64 half then (signed_at (half / 128) rest >>= λ high. Some (pos (b - 128) +ℤ pos 128 *ℤ high.0, high.1))
    else None

abbrev pub u32_at : List ℕ → Option (ℕ × List ℕ)
u32_at bytes = unsigned_at (2 ^ 32) bytes

abbrev pub s32_at : List ℕ → Option (ℤ × List ℕ)
s32_at bytes = signed_at (2 ^ 31) bytes

abbrev pub s64_at : List ℕ → Option (ℤ × List ℕ)
s64_at bytes = signed_at (2 ^ 63) bytes

unfoldable pub name_at : List ℕ → Option (List ℕ × List ℕ)
name_at bytes = u32_at bytes >>= λ n. if nat_lt (length n.1) n.0 then None else (if is_utf8 (take n.0 n.1) then Some (take n.0 n.1, drop n.0 n.1) else None)

abbrev pub list_at : {A : Type 0} → ℕ → (List ℕ → Option (A × List ℕ)) → List ℕ → Option (List A × List ℕ)
list_at most read = counted_at u32_at most read

abbrev pub sized_at : {A : Type 0} → (List ℕ → Option A) → List ℕ → Option (A × List ℕ)
sized_at content = measured_at u32_at content

-- What a function returned, seen by view, is what reading gives.
abbrev pub Gives : {X Y E : Type 0} → (X → Y) → Result X E → Option Y → Type 0
Gives view (Ok x) read = read ≡ Some (view x)
Gives view (Err e) read = read ≡ None
