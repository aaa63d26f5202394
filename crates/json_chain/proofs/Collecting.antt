-- Values that are collected item by item.
use Rattle.std.proofs.Common.{◌≡◌, ◌∙◌, ℕ, ◌+◌, ◌<◌, List, [], ◌∷◌, ◌++◌, length, get_or, map, drop, suc, ap, sym, refl, add-one, append_assoc}
use Rattle.std.proofs.Math.Seq.{drop-cons}
use Rattle.std.proofs.lemmas.List.{map-append}
use Rattle.serde_json.specs.Data.{Data}
use Rattle.serde_json.specs.View.{view}
use Rattle.serde_json.specs.declared.value.Value.{Value}
use Rattle.json_chain.specs.Texts.{pairs_json}

-- an item that stands in a list, and what is behind it
here : {A : Type 0} (xs : List A) (i : ℕ) (x d : A) → i < length xs → x ≡ get_or xs i d → drop i xs ≡ x ∷ drop (i + 1) xs
here {A} xs i x d less is = rw add-one (drop-cons xs i d less ∙ ap (λ (y : A). y ∷ drop (suc i) xs) (sym is))

-- one value more in front of those that are to come
in_front : (vs news : List Value) (v : Value) (d : Data) (rest : List Data) → news ≡ vs ++ v ∷ [] → view v ≡ d
    → map view news ++ rest ≡ map view vs ++ d ∷ rest
in_front vs news v d rest pushed made = rw (pushed, map-append view vs (v ∷ []), append_assoc, made) refl

pub one_more : {A : Type 0} (f : A → Data) (vs news : List Value) (v : Value) (xs : List A) (i : ℕ) (x : A) → news ≡ vs ++ v ∷ []
    → i < length xs → x ≡ get_or xs i x → view v ≡ f x → map view vs ++ map f (drop i xs) ≡ map f xs
    → map view news ++ map f (drop (i + 1) xs) ≡ map f xs
one_more f vs news v xs i x pushed less is made before =
    let next = rw (here xs i x x less is) at before in
    in_front vs news v (f x) (map f (drop (i + 1) xs)) pushed made ∙ next

pub one_pair_more : {A B : Type 0} (f : A → B → Data) (vs news : List Value) (v : Value) (xs : List A) (ys : List B) (i : ℕ) (x : A) (y d : B)
    → news ≡ vs ++ v ∷ [] → i < length xs → x ≡ get_or xs i x → i < length ys → y ≡ get_or ys i d → view v ≡ f x y
    → map view vs ++ pairs_json f (drop i xs) (drop i ys) ≡ pairs_json f xs ys
    → map view news ++ pairs_json f (drop (i + 1) xs) (drop (i + 1) ys) ≡ pairs_json f xs ys
one_pair_more f vs news v xs ys i x y d pushed less is below same made before =
    let next = rw (here xs i x x less is, here ys i y d below same) at before in
    in_front vs news v (f x y) (pairs_json f (drop (i + 1) xs) (drop (i + 1) ys)) pushed made ∙ next
