-- How deep the table nests, and that it has no floats.
use Rattle.std.proofs.Common.{◌≡◌, ◌≤◌, ℕ, false, List, [], ◌∷◌, map, arith, refl}
use Rattle.serde_json.specs.Data.{Data, depth, items_depth}
use Rattle.serde_json.specs.View.{items_of}
use Rattle.serde_json.specs.Written.{has_float, items_have_float}
use Rattle.ledger_table.specs.Table.{all_flags, all_limits, all_names, all_numbers, flag_json, limit_json, name_json, number_json, table_json}

items_low : {A : Type 0} (json : A → Data) (n : ℕ) → ((x : A) → depth (json x) ≤ n) → (xs : List A) → items_depth (items_of (map json xs)) ≤ n
items_low json n low [] = omega arith
items_low json n low (x ∷ xs) = omega (arith, low x, items_low json n low xs)

items_plain : {A : Type 0} (json : A → Data) → ((x : A) → has_float (json x) ≡ false) → (xs : List A) →
    items_have_float (items_of (map json xs)) ≡ false
items_plain json plain [] = refl
items_plain json plain (x ∷ xs) = rw (plain x, items_plain json plain xs) refl

pub table_low : depth table_json ≤ 3
table_low =
    omega (
      arith,
      items_low flag_json 1 (λ r. omega arith) all_flags,
      items_low limit_json 1 (λ r. omega arith) all_limits,
      items_low name_json 1 (λ r. omega arith) all_names,
      items_low number_json 1 (λ r. omega arith) all_numbers,
    )

pub table_plain : has_float table_json ≡ false
table_plain =
    rw (
      items_plain flag_json (λ r. refl) all_flags,
      items_plain limit_json (λ r. refl) all_limits,
      items_plain name_json (λ r. refl) all_names,
      items_plain number_json (λ r. refl) all_numbers,
    ) refl
