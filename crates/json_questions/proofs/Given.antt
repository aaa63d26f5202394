-- Blocks that are given back of a chain, in the places of its own.
use Rattle.std.proofs.Common.{◌≡◌, ◌≤◌, ◌<◌, ◌+◌, ◌-◌, ◌⊎◌, ℕ, zero, suc, Bool, true, false, List, [], ◌∷◌, ◌++◌, Some, inl, inr}
use Rattle.std.proofs.Common.{length, map, take, drop, slice_get, refl, sym, ap, ◌∙◌, subst, arith}
use Rattle.std.specs.Prelude.{min}
use Rattle.std.proofs.Math.Nat.{min-eq_left, min-eq_right, min-le_left, min-le_right}
use Rattle.std.proofs.Math.Seq.{take-nil}
use Rattle.std.proofs.lemmas.Bool.{cases_lt}
use Rattle.std.proofs.lemmas.List.{append-nil, drop-map, drop_all, length-map, map-append, take-append-drop, take-append-le, take-map, take_all}
use Rattle.sha2.specs.Sha256.{sha256}
use Rattle.fab_types.specs.BlockSpelling.{header_bytes}
use Rattle.fab_types.specs.Committed.{Committed}
use Rattle.ledger_model.specs.Chain.{Bytes, Chain}
use Rattle.store_devices.specs.Blocks.{IsGiven}
use Rattle.json_questions.specs.Answers.{AreGiven, GivesBack}

-- a list with these in the place of as many, from a place on
abbrev pub over : {A : Type 0} (k : ℕ) (zs ys : List A) → List A
over k zs ys = take k ys ++ (zs ++ drop (k + length zs) ys)

-- each of these stands in a list, from a place on
abbrev AreAt : {A : Type 0} → ℕ → (zs ys : List A) → Type 0
AreAt k [] ys = Unit {0}
AreAt k (z ∷ zs) ys = (slice_get ys k ≡ Some z) × AreAt (suc k) zs ys

from_here : {A : Type 0} (k : ℕ) (z : A) (ys : List A) → slice_get ys k ≡ Some z → z ∷ drop (suc k) ys ≡ drop k ys
from_here k z [] at = absurd (cc at)
from_here zero z (y ∷ ys) at = (let same : y ≡ z = cc at in ap (λ x. x ∷ ys) (sym same))
from_here (suc k) z (y ∷ ys) at = from_here k z ys at

from_place : {A : Type 0} (k : ℕ) (zs ys : List A) → AreAt k zs ys → zs ++ drop (k + length zs) ys ≡ drop k ys
from_place k [] ys h = (let same : k + 0 ≡ k = omega arith in ap (λ n. drop n ys) same)
from_place k (z ∷ zs) ys h =
    let next : k + suc (length zs) ≡ suc k + length zs = omega arith in
    ap (λ n. z ∷ (zs ++ drop n ys)) next ∙ ap (λ xs. z ∷ xs) (from_place (suc k) zs ys h.1) ∙ from_here k z ys h.0

same_over : {A : Type 0} (k : ℕ) (zs ys : List A) → AreAt k zs ys → over k zs ys ≡ ys
same_over k zs ys h = ap (λ xs. take k ys ++ xs) (from_place k zs ys h) ∙ take-append-drop k ys

map_over : {A B : Type 0} (f : A → B) (k : ℕ) (zs ys : List A) → map f (over k zs ys) ≡ over k (map f zs) (map f ys)
map_over f k zs ys =
    let front = sym (take-map f k ys) in
    let behind = sym (drop-map f (k + length zs) ys) ∙ ap (λ n. drop (k + n) (map f ys)) (sym (length-map zs f)) in
    map-append f (take k ys) (zs ++ drop (k + length zs) ys)
    ∙ ap (λ xs. map f (take k ys) ++ xs) (map-append f zs (drop (k + length zs) ys))
    ∙ (λ i. front i ++ (map f zs ++ behind i))

-- ---- what is given back

kept_at : (chain : Chain) (k : ℕ) (cs : Chain) → AreGiven true chain (suc k) cs → AreAt k cs chain
kept_at chain k [] h = tt
kept_at chain k (c ∷ cs) h =
    let place : suc k - 1 ≡ k = omega arith in
    (ap (λ n. slice_get chain n) (sym place) ∙ h.0.1, kept_at chain (suc k) cs h.1)

abbrev hash_of : Committed → Bytes
hash_of c = sha256 (header_bytes c.block.header)

hashed_at : (chain : Chain) (k : ℕ) (cs : Chain) → AreGiven false chain (suc k) cs → AreAt k (map hash_of cs) (map hash_of chain)
hashed_at chain k [] h = tt
hashed_at chain k (c ∷ cs) h = (h.0.0, hashed_at chain (suc k) cs h.1)

-- put in their places they are what a file gives back
pub given_back : (keeps : Bool) (chain : Chain) (k : ℕ) (cs : Chain) → AreGiven keeps chain (suc k) cs → GivesBack keeps chain (over k cs chain)
given_back true chain k cs h = same_over k cs chain (kept_at chain k cs h)
given_back false chain k cs h = map_over hash_of k cs chain ∙ same_over k (map hash_of cs) (map hash_of chain) (hashed_at chain k cs h)

-- what the chain has may be given back
pub gives_chain : (keeps : Bool) (chain : Chain) → GivesBack keeps chain chain
gives_chain true chain = refl
gives_chain false chain = refl

pub one_given : (keeps : Bool) (chain : Chain) (n : ℕ) (c : Committed) → 1 ≤ n → IsGiven keeps chain n c → AreGiven keeps chain (suc (n - 1)) (c ∷ [])
one_given keeps chain n c above h = (let same : n ≡ suc (n - 1) = omega (arith, above) in (subst (λ m. IsGiven keeps chain m c) same h, tt))

pub one_more : (keeps : Bool) (chain : Chain) (n : ℕ) (cs : Chain) (c : Committed) → AreGiven keeps chain n cs → IsGiven keeps chain (n + length cs) c →
    AreGiven keeps chain n (cs ++ c ∷ [])
one_more keeps chain n [] c all h = (let same : n + 0 ≡ n = omega arith in (subst (λ m. IsGiven keeps chain m c) same h, tt))
one_more keeps chain n (d ∷ cs) c all h =
    let same : n + suc (length cs) ≡ suc n + length cs = omega arith in
    (all.0, one_more keeps chain (suc n) cs c all.1 (subst (λ m. IsGiven keeps chain m c) same h))

-- ---- places in it

pub at_over : {A : Type 0} (k : ℕ) (z : A) (ys rest : List A) → k ≤ length ys → slice_get (take k ys ++ z ∷ rest) k ≡ Some z
at_over zero z ys rest h = refl
at_over (suc k) z [] rest h = absurd (omega (arith, h))
at_over (suc k) z (y ∷ ys) rest h = at_over k z ys rest (omega (arith, h))

all_front : {A : Type 0} (most : ℕ) (zs rest : List A) → length zs ≤ most → (most ≤ length zs) ⊎ (rest ≡ []) → take most (zs ++ rest) ≡ zs
all_front most zs rest few (inl full) = take-append-le most zs rest full ∙ take_all most zs few
all_front most zs rest few (inr none) = ap (λ xs. take most (zs ++ xs)) none ∙ ap (λ xs. take most xs) (append-nil zs) ∙ take_all most zs few

none_behind : {A : Type 0} (most : ℕ) (zs ys : List A) → (most ≤ length zs) ⊎ (length ys - 0 ≤ length zs) → (most ≤ length zs) ⊎ (drop (0 + length zs) ys ≡ [])
none_behind most zs ys (inl full) = inl full
none_behind most zs ys (inr all) = inr (drop_all (0 + length zs) ys (omega (arith, all)))

one_later : {A : Type 0} (k most : ℕ) (zs : List A) (y : A) (ys : List A) → take most (drop k (over k zs ys)) ≡ zs →
    take most (drop (suc k) (over (suc k) zs (y ∷ ys))) ≡ zs
one_later k most zs y ys h =
    let next : suc k + length zs ≡ suc (k + length zs) = omega arith in
    ap (λ n. take most (drop (suc k) (take (suc k) (y ∷ ys) ++ (zs ++ drop n (y ∷ ys))))) next ∙ h

-- the first so many from a place on are those that were put there, where they are all that there are
part_over : {A : Type 0} (k most : ℕ) (zs ys : List A) → length zs ≤ most → length zs ≤ length ys - k →
    (most ≤ length zs) ⊎ (length ys - k ≤ length zs) → take most (drop k (over k zs ys)) ≡ zs
part_over zero most zs ys few there all = all_front most zs (drop (0 + length zs) ys) few (none_behind most zs ys all)
part_over (suc k) most [] [] few there all =
    ap (λ xs. take most (drop (suc k) xs)) (drop_all (suc k + 0) [] (omega arith)) ∙ take-nil most
part_over (suc k) most (z ∷ zs) [] few there all = absurd (omega (arith, there))
part_over (suc k) most zs (y ∷ ys) few there (inl full) =
    one_later k most zs y ys (part_over k most zs ys few (omega (arith, there)) (inl full))
part_over (suc k) most zs (y ∷ ys) few there (inr all) =
    one_later k most zs y ys (part_over k most zs ys few (omega (arith, there)) (inr (omega (arith, all))))

full_or_all : (size most left : ℕ) → size ≡ min most left → (most < left) ⊎ (left ≤ most) → (most ≤ size) ⊎ (left ≤ size)
full_or_all size most left is (inl less) = (let whole : min most left ≡ most = min-eq_left (omega (arith, less)) in inl (omega (arith, is, whole)))
full_or_all size most left is (inr less) = (let whole : min most left ≡ left = min-eq_right less in inr (omega (arith, is, whole)))

pub part_given : {A : Type 0} (k most : ℕ) (zs ys : List A) → length zs ≡ min most (length ys - k) → take most (drop k (over k zs ys)) ≡ zs
part_given k most zs ys size =
    let left = length ys - k in
    part_over k most zs ys (omega (arith, size, min-le_left most left)) (omega (arith, size, min-le_right most left))
    (full_or_all (length zs) most left size (cases_lt most left))

-- all of them, where as many were put in their place
pub whole_over : {A : Type 0} (zs ys : List A) → length zs ≡ length ys → over 0 zs ys ≡ zs
whole_over zs ys size = ap (λ xs. zs ++ xs) (drop_all (0 + length zs) ys (omega (arith, size))) ∙ append-nil zs
