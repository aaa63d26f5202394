-- Where the amendments of a chain stand.
use Rattle.std.proofs.Common.{◌≡◌, ◌+◌, ◌-◌, ◌<◌, min, ℕ, zero, suc, Bool, true, false, cond, List, [], ◌∷◌, ◌++◌, length, get_or, take, Option, Some, None, slice_get}
use Rattle.std.proofs.Common.{refl, sym, ap, ◌∙◌, arith}
use Rattle.std.proofs.Math.Nat.{min-le_right}
use Rattle.std.proofs.lemmas.List.{take_min}
use Rattle.ledger_model.specs.Chain.{Chain, Committed}
use Rattle.world_state.specs.Amending.{amended_at, amends, last_amending, last_of}

-- a number for each block
pub length-amended : (n l : ℕ) (cs : Chain) → length (amended_at n l cs) ≡ length cs
length-amended n l [] = refl
length-amended n l (c ∷ cs) = ap suc (length-amended (suc n) (cond (amends c) n l) cs)

-- the last of numbers, of which there are some
pub last_is : (n : ℕ) (ns : List ℕ) → slice_get (n ∷ ns) (length ns) ≡ Some (last_of n ns)
last_is n [] = refl
last_is n (m ∷ ns) = last_is m ns

pub last_read : (l n : ℕ) (ns : List ℕ) → slice_get ns (length ns - 1) ≡ Some n → last_of l ns ≡ n
last_read l n [] there = absurd cc
last_read l n (m ∷ ns) there =
    let place : length (m ∷ ns) - 1 ≡ length ns = omega arith in
    let same : Some (last_of m ns) ≡ Some n = sym (last_is m ns) ∙ ap (λ (k : ℕ). slice_get (m ∷ ns) k) (sym place) ∙ there in
    cc

-- ---- one block more

one_more : (b : Bool) (n m l : ℕ) → n ≡ m → cond b n l ≡ cond b m l
one_more b n m l same = ap (λ (k : ℕ). cond b k l) same

pub amended_more : (n l : ℕ) (cs : Chain) (c : Committed) →
    amended_at n l (cs ++ c ∷ []) ≡ amended_at n l cs ++ cond (amends c) (n + length cs) (last_of l (amended_at n l cs)) ∷ []
amended_more n l [] c = ap (λ (k : ℕ). k ∷ []) (one_more (amends c) n (n + zero) l (omega arith))
amended_more n l (d ∷ cs) c =
    let now = cond (amends d) n l in
    let rest = amended_at (suc n) now cs in
    let same : suc n + length cs ≡ n + suc (length cs) = omega arith in
    ap (λ (ns : List ℕ). now ∷ ns)
    (amended_more (suc n) now cs c ∙ ap (λ (k : ℕ). rest ++ k ∷ []) (one_more (amends c) (suc n + length cs) (n + suc (length cs)) (last_of now rest) same))

pub numbers_more : (chain : Chain) (c : Committed) (ns : List ℕ) (n : ℕ) → ns ≡ amended_at 1 0 chain → c.block.header.number ≡ length chain + 1 →
    n ≡ cond (amends c) c.block.header.number (last_of 0 ns) → ns ++ n ∷ [] ≡ amended_at 1 0 (chain ++ c ∷ [])
numbers_more chain c ns n are next is =
    let number : c.block.header.number ≡ 1 + length chain = omega (arith, next) in
    let last : n ≡ cond (amends c) (1 + length chain) (last_of 0 (amended_at 1 0 chain)) =
    is ∙ (λ i. cond (amends c) (number i) (last_of 0 (are i))) in
    (λ i. are i ++ last i ∷ []) ∙ sym (amended_more 1 0 chain c)

-- ---- the block that has such a number

below_then : (b : Bool) (n l m : ℕ) → n < m → l < m → cond b n l < m
below_then true n l m now before = now
below_then false n l m now before = before

pub number_below : (n l k : ℕ) (cs : Chain) → l < n → k < length cs → get_or (amended_at n l cs) k 0 < n + length cs
number_below n l k [] before less = absurd (omega arith)
number_below n l zero (c ∷ cs) before less = below_then (amends c) n l (n + suc (length cs)) (omega arith) (omega arith)
number_below n l (suc k) (c ∷ cs) before less =
    let below = number_below (suc n) (cond (amends c) n l) k cs (below_then (amends c) n l (suc n) (omega arith) (omega arith)) (omega arith) in
    omega (arith, below)

module _ (whole : Chain) where
  -- none has the number 0
  abbrev pub numbered : ℕ → Option Committed
  numbered zero = None
  numbered (suc m) = slice_get whole m

  -- these stand behind so many
  abbrev StandBehind : ℕ → Chain → Type 0
  StandBehind n cs = (j : ℕ) → slice_get whole (j + n) ≡ slice_get cs j

  then_stand : (n : ℕ) (c : Committed) (cs : Chain) → StandBehind n (c ∷ cs) → StandBehind (suc n) cs
  then_stand n c cs stand j =
      let next : j + suc n ≡ suc j + n = omega arith in
      ap (λ (k : ℕ). slice_get whole k) next ∙ stand (suc j)

  now_or_before : (b : Bool) (n l : ℕ) (c : Committed) (was : Option Committed) → slice_get whole n ≡ Some c → numbered l ≡ was →
      numbered (cond b (suc n) l) ≡ cond b (Some c) was
  now_or_before true n l c was here before = here
  now_or_before false n l c was here before = before

  first_stands : (n : ℕ) (c : Committed) (cs : Chain) → StandBehind n (c ∷ cs) → slice_get whole n ≡ Some c
  first_stands n c cs stand =
      let first : n ≡ zero + n = omega arith in
      ap (λ (k : ℕ). slice_get whole k) first ∙ stand zero

  last_numbered : (n l k : ℕ) (was : Option Committed) (cs : Chain) → StandBehind n cs → numbered l ≡ was → k < length cs →
      numbered (get_or (amended_at (suc n) l cs) k 0) ≡ last_amending was (take (suc k) cs)
  last_numbered n l k was [] stand before less = absurd (omega arith)
  last_numbered n l zero was (c ∷ cs) stand before less = now_or_before (amends c) n l c was (first_stands n c cs stand) before
  last_numbered n l (suc k) was (c ∷ cs) stand before less =
      last_numbered (suc n) (cond (amends c) (suc n) l) k (cond (amends c) (Some c) was) cs (then_stand n c cs stand)
      (now_or_before (amends c) n l c was (first_stands n c cs stand) before) (omega arith)

  whole_stands : StandBehind zero whole
  whole_stands j =
      let same : j + zero ≡ j = omega arith in
      ap (λ (k : ℕ). slice_get whole k) same

  pub last_at : (k : ℕ) → k < length whole → numbered (get_or (amended_at 1 0 whole) k 0) ≡ last_amending None (take (suc k) whole)
  last_at k less = last_numbered zero zero k None whole whole_stands refl less

  pub last_told : (now : Chain) (ns : List ℕ) (height within : ℕ) → ns ≡ amended_at 1 0 whole → whole ≡ now → within ≡ min height (length ns) →
      ¬ (within ≡ 0) → numbered (get_or ns (within - 1) 0) ≡ last_amending None (take height now)
  last_told now ns height within are same least some =
      let few : length ns ≡ length whole = ap (λ (xs : List ℕ). length xs) are ∙ length-amended 1 0 whole in
      let count : suc (within - 1) ≡ min height (length whole) = omega (arith, least, some) ∙ ap (λ (n : ℕ). min height n) few in
      let less : within - 1 < length whole = omega (arith, least, some, few, min-le_right height (length ns)) in
      ap (λ (xs : List ℕ). numbered (get_or xs (within - 1) 0)) are ∙ last_at (within - 1) less
      ∙ ap (λ (n : ℕ). last_amending None (take n whole)) count
      ∙ ap (λ (cs : Chain). last_amending None cs) (take_min height whole ∙ ap (λ (cs : Chain). take height cs) same)
