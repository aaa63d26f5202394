-- Points prepared for a sum: y - x, y + x and 2 d x y.
use Rattle.std.specs.Prelude.{◌≡◌, ℕ, zero, suc, ◌+◌, ◌*◌, ◌/◌, ◌%◌, ◌^◌, List, [], get_or, slice_index}
use Rattle.field25519.specs.Modulo.{p, plus, minus, times}
use Rattle.edwards_model.specs.Curve.{d, Affine, IsPoint}
use Rattle.edwards_model.specs.Extended.{Extended, added_from}
use Rattle.edwards25519.specs.declared.prepared.Row.{Row}

-- the inverse of 2
abbrev pub half : ℕ
half = (p + 1) / 2

-- the point with this y - x and y + x
abbrev pub halved : ℕ → ℕ → Affine
halved difference sum = record { x = times half (minus sum difference); y = times half (plus sum difference) }

pub record Prepares (difference sum product : ℕ) (a : Affine) : Type 0 where
  pub point : IsPoint a
  pub difference_is : difference ≡ minus a.y a.x
  pub sum_is : sum ≡ plus a.y a.x
  pub product_is : product ≡ times (2 * d) (times a.x a.y)

-- the addition of RFC 8032, section 5.1.4, of which part is prepared, and with 1 as the z of the second point
unfoldable pub added_prepared : Extended → ℕ → ℕ → ℕ → Extended
added_prepared q difference sum product =
    added_from (times (minus q.y q.x) difference) (times (plus q.y q.x) sum) (times q.t product) (times 2 q.z)

-- the number in four words of a row
abbrev pub number_at : List ℕ → ℕ → ℕ
number_at row place =
    slice_index row place + 2 ^ 64 * slice_index row (place + 1) + 2 ^ 128 * slice_index row (place + 2)
    + 2 ^ 192 * slice_index row (place + 3)

abbrev pub row_of : List ℕ → Row
row_of words = record { difference = number_at words 0; sum = number_at words 4; product = number_at words 8 }

-- the residues of a row prepare a point
abbrev pub IsRow : Row → Type 0
IsRow r = Prepares (r.difference % p) (r.sum % p) (r.product % p) (halved (r.difference % p) (r.sum % p))

abbrev pub neutral_row : Row
neutral_row = record { difference = 1; sum = 1; product = 0 }

-- the row of a multiple, or that of the neutral point for 0
abbrev pub row_for : ℕ → List (List ℕ) → Row
row_for zero rows = neutral_row
row_for (suc k) rows = row_of (get_or rows k [])
