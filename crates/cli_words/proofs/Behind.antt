-- Texts that are written one behind another.
use Rattle.std.proofs.Common.{◌≡◌, ◌∙◌, ℕ, ◌+◌, ◌<◌, ◌≤◌, List, [], ◌∷◌, ◌++◌, length, get_or, take, map, sym, ap, refl, append-nil, suc, arith}
use Rattle.std.proofs.lemmas.List.{flat_map_more, map-append, map_more, take_all}
use Rattle.std.specs.Borrow.{Bor}
use Rattle.std.specs.List.{flat_map}
use Rattle.cli_words.specs.UsageText.{behind, does_text}

-- the text behind which the next item stands
abbrev pub lead_of : {A : Type 0} → (first others : List ℕ) → List A → List ℕ
lead_of first others [] = first
lead_of first others (x ∷ xs) = others

pub lead_more : {A : Type 0} (first others : List ℕ) (xs : List A) (x : A) → lead_of first others (xs ++ x ∷ []) ≡ others
lead_more first others [] x = refl
lead_more first others (y ∷ ys) x = refl

pub behind_more : {A : Type 0} (text : List ℕ → A → List ℕ) (first others : List ℕ) (xs : List A) (x : A) →
    behind text first others xs ++ text (lead_of first others xs) x ≡ behind text first others (xs ++ x ∷ [])
behind_more text first others [] x = sym (append-nil (text first x))
behind_more text first others (y ∷ ys) x = flat_map_more (text others) (text first y) ys x

-- one item more of those of a slice, as what is made of them
pub mapped : {A B : Type 0} (f : A → B) (xs : List A) (i : ℕ) (d : A) → i < length xs → map f (take (i + 1) xs) ≡ map f (take i xs) ++ f (get_or xs i d) ∷ []
mapped f xs i d within = map_more f xs i d within

pub lead_next : {A B : Type 0} (f : A → B) (first others : List ℕ) (xs : List A) (i : ℕ) → i < length xs →
    others ≡ lead_of first others (map f (take (i + 1) xs))
lead_next f first others [] i within = absurd (omega arith)
lead_next f first others (y ∷ ys) i within = let next : i + 1 ≡ suc i = omega arith in rw next refl

pub behind_next : {A B : Type 0} (f : A → B) (text : List ℕ → B → List ℕ) (first others : List ℕ) (xs : List A) (i : ℕ) (d : A) (lead : List ℕ) (b : B) →
    i < length xs → lead ≡ lead_of first others (map f (take i xs)) → b ≡ f (get_or xs i d) →
    behind text first others (map f (take i xs)) ++ text lead b ≡ behind text first others (map f (take (i + 1) xs))
behind_next {A} {B} f text first others xs i d lead b within leads made =
    (λ j. behind text first others (map f (take i xs)) ++ text (leads j) (made j)) ∙ behind_more text first others (map f (take i xs)) (f (get_or xs i d))
    ∙ sym (ap (λ (ys : List B). behind text first others ys) (mapped f xs i d within))

pub flat_next : {A B : Type 0} (f : A → B) (text : B → List ℕ) (xs : List A) (i : ℕ) (d : A) (b : B) → i < length xs → b ≡ f (get_or xs i d) →
    flat_map text (map f (take i xs)) ++ text b ≡ flat_map text (map f (take (i + 1) xs))
flat_next {A} {B} f text xs i d b within made =
    ap (λ (y : B). flat_map text (map f (take i xs)) ++ text y) made ∙ flat_map_more text [] (map f (take i xs)) (f (get_or xs i d))
    ∙ sym (ap (λ (ys : List B). flat_map text ys) (mapped f xs i d within))

pub mapped_all : {A B : Type 0} (f : A → B) (xs : List A) (i : ℕ) → length xs ≤ i → map f (take i xs) ≡ map f xs
mapped_all {A} f xs i past = ap (λ (ys : List A). map f ys) (take_all i xs past)

-- one line more of those of what a command does
lines_more : (xs : List (Bor (List ℕ))) (x : Bor (List ℕ)) → map (λ y. y.now) (xs ++ x ∷ []) ≡ map (λ y. y.now) xs ++ x.now ∷ []
lines_more xs x = map-append (λ y. y.now) xs (x ∷ [])

pub lead_line : (name : List ℕ) (xs : List (Bor (List ℕ))) (x : Bor (List ℕ)) → [] ≡ lead_of name [] (map (λ y. y.now) (xs ++ x ∷ []))
lead_line name xs x =
    sym (ap (λ (ls : List (List ℕ)). lead_of name [] ls) (lines_more xs x) ∙ lead_more name [] (map (λ y. y.now) xs) x.now)

pub behind_line : (name : List ℕ) (xs : List (Bor (List ℕ))) (x : Bor (List ℕ)) (lead : List ℕ) → lead ≡ lead_of name [] (map (λ y. y.now) xs) →
    behind does_text name [] (map (λ y. y.now) xs) ++ does_text lead x.now ≡ behind does_text name [] (map (λ y. y.now) (xs ++ x ∷ []))
behind_line name xs x lead leads =
    ap (λ (l : List ℕ). behind does_text name [] (map (λ y. y.now) xs) ++ does_text l x.now) leads
    ∙ behind_more does_text name [] (map (λ y. y.now) xs) x.now ∙ sym (ap (λ (ls : List (List ℕ)). behind does_text name [] ls) (lines_more xs x))
