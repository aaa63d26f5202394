-- Where an item stands, or would stand, among items in key order.
use Rattle.std.specs.Prelude.{ℕ, List, Bool, false, Option, Some, None, Result, Ok, Err, if◌then◌else◌}
use Rattle.std.specs.Ordering.{eq_by_cmp}
use Rattle.std.specs.List.{prefix_len, slice_get}
use Rattle.fab_types.specs.Order.{key_cmp, is_before}
use Rattle.ledger_model.specs.Chain.{Bytes}

-- how many of the first items have a key before this one
abbrev pub place_of : {X : Type 0} → (X → Bytes) → Bytes → List X → ℕ
place_of key_of key xs = prefix_len (λ x. is_before (key_of x) key) xs

-- whether there is an item, with this key
abbrev pub has_key : {X : Type 0} → (X → Bytes) → Bytes → Option X → Bool
has_key key_of key None = false
has_key key_of key (Some x) = eq_by_cmp key_cmp (key_of x) key

-- the place of the item with the key, or else the place where one would stand
abbrev pub found_at : {X : Type 0} → (X → Bytes) → Bytes → List X → Result ℕ ℕ
found_at key_of key xs =
    let n = place_of key_of key xs in if has_key key_of key (slice_get xs n) then Ok n else Err n
