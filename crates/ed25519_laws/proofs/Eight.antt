-- The eight encodings of small order.
use Rattle.std.proofs.Common.{◌≡◌, ℕ, ◌+◌, ◌-◌, ◌*◌, ◌%◌, ◌^◌, ◌<◌, Bool, true, false, List, [], ◌∷◌}
use Rattle.std.proofs.Common.{refl, sym, ap, ap₂, ◌∙◌, subst, inl, inr, arith}
use Rattle.std.specs.Prelude.{nat_eq, ◌||◌}
use Rattle.std.specs.List.{AllByRecursion, list_any}
use Rattle.std.proofs.lemmas.Bool.{eqb-true, cases_eq}
use Rattle.field25519.specs.Bytes.{number, bytes_of}
use Rattle.field25519.specs.Modulo.{p, plus, minus, times}
use Rattle.edwards_model.specs.Curve.{Affine, IsPoint, sum, neutral, multiple}
use Rattle.edwards_model.specs.Encoding.{decoded, encoded}
use Rattle.edwards_model.proofs.Decoding.{decoded-encoded, number_bytes}
use Rattle.edwards_model.proofs.Group.{neutral_is, with_neutral}
use Rattle.edwards_model.proofs.Rooting.{decoded_is_point}
use Rattle.ed25519_laws.specs.Laws.{SmallOrdersAreEight, eighth, small_orders}
use Rattle.ed25519_laws.proofs.Doublings.{IsSmall, double_is, small_is, thrice}
use Rattle.ed25519_laws.proofs.Encodings.{encoding_is_unique, same_bytes}

-- ---- the points

abbrev half : Affine
half = record { x = 0; y = p - 1 }

-- a root of -1
abbrev i : ℕ
i = 19681161376707505956807079304988542015446066515923890162744021073123829784752

abbrev quarter : Affine
quarter = record { x = i; y = 0 }

abbrev other_quarter : Affine
other_quarter = record { x = p - i; y = 0 }

abbrev x8 : ℕ
x8 = 14399317868200118260347934320527232580618823971194345261214217575416788799818

abbrev eighth_of : ℕ → ℕ → Affine
eighth_of x y = record { x = x; y = y }

half_is : IsPoint half
unfolding plus minus times
half_is = record { curve = record { curve = refl }; x_residue = refl; y_residue = refl }

quarter_is : IsPoint quarter
unfolding plus minus times
quarter_is = record { curve = record { curve = refl }; x_residue = refl; y_residue = refl }

other_quarter_is : IsPoint other_quarter
unfolding plus minus times
other_quarter_is = record { curve = record { curve = refl }; x_residue = refl; y_residue = refl }

first_is : IsPoint (eighth_of x8 eighth)
unfolding plus minus times
first_is = record { curve = record { curve = refl }; x_residue = refl; y_residue = refl }

second_is : IsPoint (eighth_of (p - x8) eighth)
unfolding plus minus times
second_is = record { curve = record { curve = refl }; x_residue = refl; y_residue = refl }

third_is : IsPoint (eighth_of x8 (p - eighth))
unfolding plus minus times
third_is = record { curve = record { curve = refl }; x_residue = refl; y_residue = refl }

fourth_is : IsPoint (eighth_of (p - x8) (p - eighth))
unfolding plus minus times
fourth_is = record { curve = record { curve = refl }; x_residue = refl; y_residue = refl }

-- ---- their doubles

none_doubled : sum neutral neutral ≡ neutral
none_doubled = with_neutral neutral neutral_is

half_doubled : sum half half ≡ neutral
unfolding plus minus times
half_doubled = double_is half neutral half_is refl refl refl refl

quarter_doubled : sum quarter quarter ≡ half
unfolding plus minus times
quarter_doubled = double_is quarter half quarter_is refl refl refl refl

other_quarter_doubled : sum other_quarter other_quarter ≡ half
unfolding plus minus times
other_quarter_doubled = double_is other_quarter half other_quarter_is refl refl refl refl

first_doubled : sum (eighth_of x8 eighth) (eighth_of x8 eighth) ≡ quarter
unfolding plus minus times
first_doubled = double_is (eighth_of x8 eighth) quarter first_is refl refl refl refl

second_doubled : sum (eighth_of (p - x8) eighth) (eighth_of (p - x8) eighth) ≡ other_quarter
unfolding plus minus times
second_doubled = double_is (eighth_of (p - x8) eighth) other_quarter second_is refl refl refl refl

third_doubled : sum (eighth_of x8 (p - eighth)) (eighth_of x8 (p - eighth)) ≡ other_quarter
unfolding plus minus times
third_doubled = double_is (eighth_of x8 (p - eighth)) other_quarter third_is refl refl refl refl

fourth_doubled : sum (eighth_of (p - x8) (p - eighth)) (eighth_of (p - x8) (p - eighth)) ≡ quarter
unfolding plus minus times
fourth_doubled = double_is (eighth_of (p - x8) (p - eighth)) quarter fourth_is refl refl refl refl

eight_times : (a b c : Affine) → IsPoint a → sum a a ≡ b → sum b b ≡ c → sum c c ≡ neutral → multiple 8 a ≡ neutral
eight_times a b c h one two three =
    thrice a h ∙ ap (λ (q : Affine). sum (sum q q) (sum q q)) one ∙ ap (λ (q : Affine). sum q q) two ∙ three

-- ---- the numbers

abbrev IsSmallAt : ℕ → Type 0
IsSmallAt n = (a : Affine) × IsPoint a × (n ≡ a.y + 2 ^ 255 * (a.x % 2)) × (multiple 8 a ≡ neutral)

all_small : AllByRecursion IsSmallAt small_orders
all_small =
    let quarters = eight_times quarter half neutral quarter_is quarter_doubled half_doubled none_doubled in
    let others = eight_times other_quarter half neutral other_quarter_is other_quarter_doubled half_doubled none_doubled in
    let nones = eight_times neutral neutral neutral neutral_is none_doubled none_doubled none_doubled in
    let halves = eight_times half neutral neutral half_is half_doubled none_doubled none_doubled in
    let firsts = eight_times (eighth_of x8 eighth) quarter half first_is first_doubled quarter_doubled half_doubled in
    let seconds = eight_times (eighth_of (p - x8) eighth) other_quarter half second_is second_doubled other_quarter_doubled half_doubled in
    let thirds = eight_times (eighth_of x8 (p - eighth)) other_quarter half third_is third_doubled other_quarter_doubled half_doubled in
    let fourths = eight_times (eighth_of (p - x8) (p - eighth)) quarter half fourth_is fourth_doubled quarter_doubled half_doubled in (
      (quarter, quarter_is, refl, quarters),
      (
        (other_quarter, other_quarter_is, refl, others),
        (
          (neutral, neutral_is, refl, nones),
          (
            (half, half_is, refl, halves),
            (
              (eighth_of x8 eighth, first_is, refl, firsts),
              (
                (eighth_of (p - x8) eighth, second_is, refl, seconds),
                ((eighth_of x8 (p - eighth), third_is, refl, thirds), ((eighth_of (p - x8) (p - eighth), fourth_is, refl, fourths), tt)),
              ),
            ),
          ),
        ),
      ),
    )

either : (P : ℕ → Type 0) (n x : ℕ) (rest b : Bool) → nat_eq n x ≡ b → P x → (rest ≡ true → P n) → b || rest ≡ true → P n
either P n x rest true is here later any = subst P (sym (eqb-true n x is)) here
either P n x rest false is here later any = later any

among : (P : ℕ → Type 0) (n : ℕ) (xs : List ℕ) → AllByRecursion P xs → list_any (nat_eq n) xs ≡ true → P n
among P n [] all h = absurd (cc)
among P n (x ∷ xs) all h = either P n x (list_any (nat_eq n) xs) (nat_eq n x) refl all.0 (λ any. among P n xs all.1 any) h

-- ---- which bytes they are

tested : (a : Affine) (n y s : ℕ) → n ≡ a.y + 2 ^ 255 * (a.x % 2) → a.y ≡ y → a.x % 2 ≡ s → list_any (nat_eq (y + 2 ^ 255 * s)) small_orders ≡ true →
    list_any (nat_eq n) small_orders ≡ true
tested a n y s e ey es t = ap (λ (k : ℕ). list_any (nat_eq k) small_orders) (e ∙ ap₂ (λ (u v : ℕ). u + 2 ^ 255 * v) ey es) ∙ t

by_sign : (a : Affine) (n y : ℕ) → n ≡ a.y + 2 ^ 255 * (a.x % 2) → a.y ≡ y → list_any (nat_eq (y + 2 ^ 255 * 0)) small_orders ≡ true →
    list_any (nat_eq (y + 2 ^ 255 * 1)) small_orders ≡ true → list_any (nat_eq n) small_orders ≡ true
by_sign a n y e ey even odd =
    elim (cases_eq (a.x % 2) 0) [
      | inl z ↦ tested a n y 0 e ey z even
      | inr some ↦ tested a n y 1 e ey (omega (arith, some)) odd
    ]

is_tested : (a : Affine) (n : ℕ) → n ≡ a.y + 2 ^ 255 * (a.x % 2) → IsSmall a → list_any (nat_eq n) small_orders ≡ true
is_tested a n e is =
    elim is [
      | inl unit ↦
          let sign : a.x % 2 ≡ 0 = ap (λ (x : ℕ). x % 2) unit.0 in
          elim unit.1 [ inl one ↦ tested a n 1 0 e one sign refl | inr less ↦ tested a n (p - 1) 0 e less sign refl ]
      | inr row ↦
          elim row [
            | inl none ↦ by_sign a n 0 e none refl refl
            | inr of_eight ↦
                elim of_eight [ inl up ↦ by_sign a n eighth e up refl refl | inr down ↦ by_sign a n (p - eighth) e down refl refl ]
          ]
    ]

encoded_small : (y x : ℕ) → y % p ≡ y → y + 2 ^ 255 * (x % 2) < 256 ^ 32
encoded_small y x h = omega (arith, h)

pub small_orders_are_eight : SmallOrdersAreEight
small_orders_are_eight bytes long bytes_small = (
  λ h.
      let a = h.0 in
      let point = decoded_is_point bytes a h.1 in
      let whole : number bytes ≡ a.y + 2 ^ 255 * (a.x % 2) =
      ap number (sym (encoding_is_unique bytes a long bytes_small h.1)) ∙ number_bytes 32 _ (encoded_small a.y a.x point.y_residue) in
      is_tested a (number bytes) whole (small_is a point h.2),
  λ t.
      let s = among IsSmallAt (number bytes) small_orders all_small t in
      let a = s.0 in
      let same : bytes ≡ encoded a =
      sym (same_bytes bytes bytes_small) ∙ ap (λ (k : ℕ). bytes_of k (number bytes)) long ∙ ap (bytes_of 32) s.2 in
      (a, ap decoded same ∙ decoded-encoded a s.1, s.3),
)
