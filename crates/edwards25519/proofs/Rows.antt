-- The rows of the table prepare the multiples of the base point: a test that computes.
use Rattle.std.proofs.Common.{◌≡◌, ◌≢◌, ℕ, zero, suc, ◌+◌, ◌*◌, ◌%◌, ◌^◌, ◌<◌, Bool, true, List, [], ◌∷◌, length, get_or, refl, sym, ap, ap₂, ◌∙◌, subst, arith}
use Rattle.std.specs.Prelude.{nat_eq, ◌&&◌}
use Rattle.std.proofs.lemmas.Bool.{eqb-true}
use Rattle.std.proofs.Math.Nat.{pow-zero, pow-suc}
use Rattle.field25519.specs.Modulo.{p, plus, minus, times, power}
use Rattle.edwards_model.specs.Curve.{d, Affine, IsPoint, base, multiple}
use Rattle.edwards_model.specs.Extended.{Extended, Represents, added, doubled, extended}
use Rattle.field25519.proofs.Powers.{times_comm}
use Rattle.edwards_model.proofs.Units.{times_whole, cancel}
use Rattle.edwards_model.proofs.Representing.{added_represents}
use Rattle.edwards_model.proofs.Doubling.{doubled_represents}
use Rattle.edwards_model.proofs.Ring.{and_left, and_right}
use Rattle.edwards_model.proofs.Group.{of_represents, at_one, base_is, multiple_is, multiple_sum, multiple_multiple}
use Rattle.edwards25519.specs.Prepared.{halved, row_of, IsRow}
use Rattle.edwards25519.specs.declared.prepared.Row.{Row}
use Rattle.edwards25519.specs.declared.table.TheConstants.{MULTIPLES}
use Rattle.edwards25519.proofs.Multiples.{once}

-- the point of a row
abbrev pub point_of : Row → Affine
point_of r = halved (r.difference % p) (r.sum % p)

-- whether a row prepares the point with these coordinates
abbrev is_row : Row → Extended → Bool
is_row r q =
    let a = point_of r in
    nat_eq (r.difference % p) (minus a.y a.x) && (nat_eq (r.sum % p) (plus a.y a.x) && (nat_eq (r.product % p) (times (2 * d) (times a.x a.y))
    && (nat_eq (times a.x q.z) q.x && nat_eq (times a.y q.z) q.y)))

-- whether each row is the sum of the one before it and this point
abbrev are_rows : List (List ℕ) → Extended → Extended → Bool
are_rows [] q s = true
are_rows (row ∷ rows) q s = is_row (row_of row) q && are_rows rows (added q s) s

abbrev doublings : ℕ → Extended → Extended
doublings zero q = q
doublings (suc n) q = doublings n (doubled q)

-- whether each window is of the point of the one before it, doubled 16 times
abbrev are_windows : List (List (List ℕ)) → Extended → Bool
are_windows [] q = true
are_windows (rows ∷ windows) q = are_rows rows q q && are_windows windows (doublings 16 q)

are_all : are_windows MULTIPLES (extended base 1) ≡ true
unfolding added doubled plus minus times power
are_all = refl

same_coordinate : (x y z v : ℕ) → z % p ≢ 0 → x % p ≡ x → y % p ≡ y → v ≡ times y z → times x z ≡ v → x ≡ y
same_coordinate x y z v n hx hy e f = sym hx ∙ cancel z x y n (times_comm z x ∙ f ∙ e ∙ times_comm y z) ∙ hy

-- a row that passes the test
row_is : (r : Row) (q : Extended) (a : Affine) → Represents q a → is_row r q ≡ true → IsRow r × (point_of r ≡ a)
row_is r q a h t =
    let make : ℕ → ℕ → Affine = λ x y. record { x = x; y = y } in
    let b = point_of r in
    let t2 = and_right _ _ t in
    let t3 = and_right _ _ t2 in
    let t4 = and_right _ _ t3 in
    let x : b.x ≡ a.x =
    same_coordinate b.x a.x q.z q.x h.z_nonzero (times_whole _ _) h.x_residue (ap (λ (s : Extended). s.x) h.point) (eqb-true _ _ (and_left _ _ t4)) in
    let y : b.y ≡ a.y =
    same_coordinate b.y a.y q.z q.y h.z_nonzero (times_whole _ _) h.y_residue (ap (λ (s : Extended). s.y) h.point) (eqb-true _ _ (and_right _ _ t4)) in
    let same : b ≡ a = ap₂ make x y in (
      record {
        point = subst IsPoint (sym same) (of_represents q a h);
        difference_is = eqb-true _ _ (and_left _ _ t);
        sum_is = eqb-true _ _ (and_left _ _ t2);
        product_is = eqb-true _ _ (and_left _ _ t3);
      },
      same,
    )

rows_are : (rows : List (List ℕ)) (q s : Extended) (a : Affine) (j k : ℕ) → Represents q (multiple j a) → Represents s a → are_rows rows q s ≡ true →
    k < length rows →
    IsRow (row_of (get_or rows k [])) × (point_of (row_of (get_or rows k [])) ≡ multiple (j + k) a)
unfolding multiple
rows_are [] q s a j k h g t l = absurd (omega (arith, l))
rows_are (row ∷ rows) q s a j zero h g t l =
    let r = row_is (row_of row) q (multiple j a) h (and_left _ _ t) in
    (r.0, r.1 ∙ ap (λ i. multiple i a) (let o : j ≡ j + 0 = omega arith in o))
rows_are (row ∷ rows) q s a j (suc k) h g t l =
    let r = rows_are rows (added q s) s a (suc j) k (added_represents q s (multiple j a) a h g) g (and_right _ _ t) (omega (arith, l)) in
    (r.0, r.1 ∙ ap (λ i. multiple i a) (let o : suc j + k ≡ j + suc k = omega arith in o))

doublings_represent : (n : ℕ) (q : Extended) (a : Affine) (m : ℕ) → IsPoint a → Represents q (multiple m a) → Represents (doublings n q) (multiple (2
    ^ n * m) a)
doublings_represent zero q a m h g =
    subst (λ i. Represents q (multiple i a)) (one m) g
  where
    one : (m : ℕ) → m ≡ 2 ^ 0 * m
    one m = (let o : m ≡ 1 * m = omega arith in o) ∙ ap (λ x. x * m) (sym (pow-zero 2))
doublings_represent (suc n) q a m h g =
    let more : 2 ^ n * (m + m) ≡ 2 ^ suc n * m = (let two : 2 ^ suc n ≡ 2 ^ n * 2 = pow-suc 2 n in let o : 2 ^ n * (m + m) ≡ 2 ^ n * 2 * m = omega
    arith in o ∙ ap (λ x. x * m) (sym two)) in
    subst (λ i. Represents (doublings n (doubled q)) (multiple i a)) more
    (doublings_represent n (doubled q) a (m + m) h (subst (Represents (doubled q)) (sym (multiple_sum a h m m)) (doubled_represents q (multiple m a) g)))

windows_are : (windows : List (List (List ℕ))) (q : Extended) (n w k : ℕ) → Represents q (multiple n base) → are_windows windows q ≡ true → w < length windows →
    k < length (get_or windows w []) →
    IsRow (row_of (get_or (get_or windows w []) k [])) × (point_of (row_of (get_or (get_or windows w []) k [])) ≡ multiple (65536 ^ w * n * suc k) base)
windows_are [] q n w k h t l b = absurd (omega (arith, l))
windows_are (rows ∷ windows) q n zero k h t l b =
    let a = multiple n base in
    let r = rows_are rows q q a 1 k (subst (Represents q) (sym (once a (multiple_is base base_is n))) h) h (and_left _ _ t) b in (
      r.0,
      r.1 ∙ multiple_multiple base base_is (1 + k) n
          ∙ ap (λ i. multiple i base) ((let o : (1 + k) * n ≡ 1 * n * suc k = omega arith in o) ∙ ap (λ x. x * n * suc k) (sym (pow-zero 65536))),
    )
windows_are (rows ∷ windows) q n (suc w) k h t l b =
    let next : Represents (doublings 16 q) (multiple (65536 * n) base) = doublings_represent 16 q base n base_is h in
    let r = windows_are windows (doublings 16 q) (65536 * n) w k next (and_right _ _ t) (omega (arith, l)) b in
    let more : 65536 ^ w * (65536 * n) * suc k ≡ 65536 ^ suc w * n * suc k =
    (let o : 65536 ^ w * (65536 * n) * suc k ≡ 65536 ^ w * 65536 * n * suc k = omega arith in o) ∙ ap (λ x. x * n * suc k) (sym (pow-suc 65536 w)) in
    (r.0, r.1 ∙ ap (λ i. multiple i base) more)

-- the row of a multiple of the base point
pub multiple_at : (w k : ℕ) → w < 16 → k < length (get_or MULTIPLES w []) →
    IsRow (row_of (get_or (get_or MULTIPLES w []) k [])) × (point_of (row_of (get_or (get_or MULTIPLES w []) k [])) ≡ multiple (65536 ^ w * suc k) base)
multiple_at w k h l =
    let r = windows_are MULTIPLES (extended base 1) 1 w k (subst (Represents (extended base 1)) (sym (once base base_is)) (at_one base base_is)) are_all h l in
    (r.0, r.1 ∙ ap (λ i. multiple i base) (let o : 65536 ^ w * 1 * suc k ≡ 65536 ^ w * suc k = omega arith in o))
