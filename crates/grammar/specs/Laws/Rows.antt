-- What is found in a table is a row of it, and each row is found.
use Rattle.std.proofs.Common.{◌≡◌, ℕ, Bool, true, false, cond, eqb, List, [], ◌∷◌, inl, inr, Option, Some, None, refl, sym, ap, ◌∙◌}
use Rattle.std.proofs.lemmas.Bool.{eqb-true, eq-eqb}
use Rattle.std.specs.Prelude.{is_none, ◌&&◌}
use Rattle.grammar.specs.Table.{HasRow, row_at, is_unique}

has_row_at : {K : Type 0} (t : Bool) (b : ℕ) (r : ℕ × K) (rows : List (ℕ × K)) (k : K) → eqb b r.0 ≡ t → (row_at rows b ≡ Some k → HasRow rows b k) →
    cond t (Some r.1) (row_at rows b) ≡ Some k → HasRow (r ∷ rows) b k
has_row_at true b r rows k is more e = inl (eqb-true b r.0 is, cc)
has_row_at false b r rows k is more e = inr (more e)

pub has_row : {K : Type 0} (rows : List (ℕ × K)) (b : ℕ) (k : K) → row_at rows b ≡ Some k → HasRow rows b k
has_row [] b k e = absurd cc
has_row (r ∷ rows) b k e = has_row_at (eqb b r.0) b r rows k refl (has_row rows b k) e

unique_parts : {K : Type 0} (o : Option K) (more : Bool) → (is_none o && more) ≡ true → (o ≡ None) × (more ≡ true)
unique_parts None more e = (refl, e)
unique_parts (Some k) more e = absurd cc

not_first : {K : Type 0} (t : Bool) (b n : ℕ) (rows : List (ℕ × K)) (k x : K) → eqb b n ≡ t → row_at rows n ≡ None → row_at rows b ≡ Some k →
    cond t (Some x) (row_at rows b) ≡ Some k
not_first true b n rows k x is none e =
    let same : row_at rows b ≡ None = ap (row_at rows) (eqb-true b n is) ∙ none in
    absurd (let f : Some k ≡ None = sym e ∙ same in cc)
not_first false b n rows k x is none e = e

pub row_found : {K : Type 0} (rows : List (ℕ × K)) (b : ℕ) (k : K) → is_unique rows ≡ true → HasRow rows b k → row_at rows b ≡ Some k
row_found [] b k unique h = absurd h
row_found (r ∷ rows) b k unique (inl h) = rw (eq-eqb b r.0 h.0, h.1) refl
row_found (r ∷ rows) b k unique (inr h) =
    let parts = unique_parts (row_at rows r.0) (is_unique rows) unique in
    not_first (eqb b r.0) b r.0 rows k r.1 refl parts.0 (row_found rows b k parts.1 h)

-- a byte of the table is none that is absent from it
pub row_is_not : {K : Type 0} (rows : List (ℕ × K)) (b n : ℕ) (k : K) → row_at rows n ≡ None → row_at rows b ≡ Some k → eqb b n ≡ false
row_is_not rows b n k none e = decided (eqb b n) refl
  where
    decided : (t : Bool) → eqb b n ≡ t → t ≡ false
    decided false is = refl
    decided true is =
        let same : row_at rows b ≡ None = ap (row_at rows) (eqb-true b n is) ∙ none in
        absurd (let f : Some k ≡ None = sym e ∙ same in cc)
