-- Rows that are collected as values.
use Rattle.std.proofs.Common.{◌≡◌, ◌∙◌, ℕ, ◌+◌, ◌<◌, List, [], ◌∷◌, ◌++◌, length, get_or, map, drop, suc, ap, sym, refl, add-one, append_assoc}
use Rattle.std.proofs.Math.Seq.{drop-cons}
use Rattle.std.proofs.lemmas.List.{map-append}
use Rattle.serde_json.specs.Data.{Data}
use Rattle.serde_json.specs.View.{view}
use Rattle.serde_json.specs.declared.value.Value.{Value}

-- an item that stands in a list, and what is behind it
here : {A : Type 0} (xs : List A) (i : ℕ) (x d : A) → i < length xs → x ≡ get_or xs i d → drop i xs ≡ x ∷ drop (i + 1) xs
here {A} xs i x d less is = rw add-one (drop-cons xs i d less ∙ ap (λ (y : A). y ∷ drop (suc i) xs) (sym is))

-- one value more in front of those that are to come
in_front : (vs news : List Value) (v : Value) (d : Data) (rest : List Data) → news ≡ vs ++ v ∷ [] → view v ≡ d
    → map view news ++ rest ≡ map view vs ++ d ∷ rest
in_front vs news v d rest pushed made = rw (pushed, map-append view vs (v ∷ []), append_assoc, made) refl

pub one_more : {A : Type 0} (f : A → Data) (vs news : List Value) (v : Value) (xs : List A) (i : ℕ) (x : A) → news ≡ vs ++ v ∷ []
    → i < length xs → x ≡ get_or xs i x → view v ≡ f x → map view vs ++ map f (drop i xs) ≡ map f xs
    → map view news ++ map f (drop (i + 1) xs) ≡ map f xs
one_more f vs news v xs i x pushed less is made before =
    let next = rw (here xs i x x less is) at before in
    in_front vs news v (f x) (map f (drop (i + 1) xs)) pushed made ∙ next

together : {A B : Type 0} (json : B → Data) (row : A → B) (rows : List A) → map (λ r. json (row r)) rows ≡ map json (map row rows)
together json row [] = refl
together json row (r ∷ rows) = ap (λ (ds : List Data). json (row r) ∷ ds) (together json row rows)

-- what rows are as JSON, by the table that they stand for
pub as_table : {A B : Type 0} (json : B → Data) (row : A → B) (rows : List A) (table : List B) → map row rows ≡ table
    → map (λ r. json (row r)) rows ≡ map json table
as_table json row rows table is = together json row rows ∙ ap (map json) is
