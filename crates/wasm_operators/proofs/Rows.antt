-- Rows of tables that are put together.
use Rattle.std.proofs.Common.{◌≡◌, ℕ, Bool, true, false, cond, eqb, List, [], ◌∷◌, ◌++◌, map, Option, Some, None, refl, sym, ap, ◌∙◌}
use Rattle.std.specs.Prelude.{option_map}
use Rattle.grammar.specs.Table.{row_at}

abbrev pub first_of : {A : Type 0} → Option A → Option A → Option A
first_of (Some x) o = Some x
first_of None o = o

first_of-cond : {A : Type 0} (t : Bool) (x : A) (o p : Option A) → cond t (Some x) (first_of o p) ≡ first_of (cond t (Some x) o) p
first_of-cond true x o p = refl
first_of-cond false x o p = refl

pub row_at-append : {K : Type 0} (rows more : List (ℕ × K)) (b : ℕ) → row_at (rows ++ more) b ≡ first_of (row_at rows b) (row_at more b)
row_at-append [] more b = refl
row_at-append (r ∷ rows) more b =
    ap (λ o. cond (eqb b r.0) (Some r.1) o) (row_at-append rows more b) ∙ first_of-cond (eqb b r.0) r.1 (row_at rows b) (row_at more b)

map-cond : {K L : Type 0} (f : K → L) (t : Bool) (k : K) (o : Option K) → cond t (Some (f k)) (option_map f o) ≡ option_map f (cond t (Some k) o)
map-cond f true k o = refl
map-cond f false k o = refl

pub row_at-map : {K L : Type 0} (f : K → L) (rows : List (ℕ × K)) (b : ℕ) → row_at (map (λ r. (r.0, f r.1)) rows) b ≡ option_map f (row_at rows b)
row_at-map f [] b = refl
row_at-map f (r ∷ rows) b = ap (λ o. cond (eqb b r.0) (Some (f r.1)) o) (row_at-map f rows b) ∙ map-cond f (eqb b r.0) r.1 (row_at rows b)

-- what is made of a row of the first table, or of the others
pub in_first : {K L : Type 0} (f : K → L) (rows more : List (ℕ × K)) (b : ℕ) (x : L) → Some x ≡ option_map f (row_at rows b) →
    Some x ≡ option_map f (row_at (rows ++ more) b)
in_first {K = K} f rows more b x h = found (row_at rows b) h ∙ ap (option_map f) (sym (row_at-append rows more b))
  where
    found : (o : Option K) → Some x ≡ option_map f o → Some x ≡ option_map f (first_of o (row_at more b))
    found (Some k) h = h
    found None h = absurd cc

pub in_others : {K L : Type 0} (f : K → L) (rows more : List (ℕ × K)) (b : ℕ) → None ≡ option_map f (row_at rows b) →
    option_map f (row_at more b) ≡ option_map f (row_at (rows ++ more) b)
in_others {K = K} f rows more b h = absent (row_at rows b) h ∙ ap (option_map f) (sym (row_at-append rows more b))
  where
    absent : (o : Option K) → None ≡ option_map f o → option_map f (row_at more b) ≡ option_map f (first_of o (row_at more b))
    absent (Some k) h = absurd cc
    absent None h = refl
