-- Lists that are read item by item.
use Rattle.std.proofs.Common.{◌≡◌, ℕ, zero, suc, ◌+◌, ◌<◌, List, [], ◌∷◌, ◌++◌, length, get_or, take, map, refl, sym, ap, arith}
use Rattle.std.proofs.lemmas.List.{take_more}
use Rattle.serde_json.specs.Data.{Data, array, Items, no_items, item}
use Rattle.serde_json.specs.View.{view, items_view}
use Rattle.serde_json.specs.declared.value.Value.{Value}
use Rattle.json_fields.specs.Lists.{AreItems}

pub AreItems-append : {A : Type 0} (P : Data → A → Type 0) (vs : List Value) (xs : List A) (v : Value) (x : A)
    → AreItems P (items_view vs) xs → P (view v) x → AreItems P (items_view (vs ++ v ∷ [])) (xs ++ x ∷ [])
AreItems-append P [] [] v x h p = (p, tt)
AreItems-append P [] (y ∷ ys) v x h p = absurd h
AreItems-append P (w ∷ ws) [] v x h p = absurd h
AreItems-append P (w ∷ ws) (y ∷ ys) v x h p = (h.0, AreItems-append P ws ys v x h.1 p)

-- the items before the next place, and the next one
pub AreItems-more : {A : Type 0} (P : Data → A → Type 0) (vs : List Value) (xs : List A) (i : ℕ) (v : Value) (x : A)
    → AreItems P (items_view (take i vs)) xs → i < length vs → v ≡ get_or vs i v → P (view v) x → AreItems P (items_view (take (i + 1) vs)) (xs ++ x ∷ [])
AreItems-more P vs xs i v x h less is p = rw (take_more vs i v less, sym is) (AreItems-append P (take i vs) xs v x h p)

-- the value at a place
pub AreItems-at : {A : Type 0} (P : Data → A → Type 0) (vs : List Value) (xs : List A) (i : ℕ) (v : Value)
    → AreItems P (items_view vs) xs → i < length vs → (x : A) × P (view (get_or vs i v)) x
AreItems-at P [] xs i v h less = absurd (omega arith)
AreItems-at P (w ∷ ws) [] i v h less = absurd h
AreItems-at P (w ∷ ws) (y ∷ ys) zero v h less = (y, h.0)
AreItems-at P (w ∷ ws) (y ∷ ys) (suc i) v h less = AreItems-at P ws ys i v h.1 (omega arith)

pub AreItems-length : {A : Type 0} (P : Data → A → Type 0) (vs : List Value) (xs : List A) → AreItems P (items_view vs) xs → length xs ≡ length vs
AreItems-length P [] [] h = refl
AreItems-length P [] (y ∷ ys) h = absurd h
AreItems-length P (w ∷ ws) [] h = absurd h
AreItems-length P (w ∷ ws) (y ∷ ys) h = ap suc (AreItems-length P ws ys h.1)

abbrev items_in : Data → Items
items_in (array ds) = ds
items_in d = no_items

pub same_items : {ds es : Items} → array ds ≡ array es → ds ≡ es
same_items e = ap items_in e

pub AreItems-same : {A B : Type 0} (P : Data → A → Type 0) (f : A → B) → ((d : Data) (x y : A) → P d x → P d y → f x ≡ f y)
    → (ds : Items) (xs ys : List A) → AreItems P ds xs → AreItems P ds ys → map f xs ≡ map f ys
AreItems-same P f one no_items [] [] h k = refl
AreItems-same P f one no_items [] (y ∷ ys) h k = absurd k
AreItems-same P f one no_items (x ∷ xs) ys h k = absurd h
AreItems-same P f one (item d ds) [] ys h k = absurd h
AreItems-same P f one (item d ds) (x ∷ xs) [] h k = absurd k
AreItems-same P f one (item d ds) (x ∷ xs) (y ∷ ys) h k = rw (one d x y h.0 k.0, AreItems-same P f one ds xs ys h.1 k.1) refl
