-- The strings that the items of a list are.
use Rattle.std.proofs.Common.{◌≡◌, ◌<◌, ◌++◌, ℕ, List, [], ◌∷◌, String, Global, string_bytes, codes, length, get_or, map, refl, sym, ap, subst, ◌∙◌}
use Rattle.std.proofs.lemmas.List.Folds.{flat_map-map}
use Rattle.std.specs.List.{join_by}
use Rattle.serde_json.specs.Data.{Data, Items, string}
use Rattle.serde_json.specs.View.{view, items_view}
use Rattle.serde_json.specs.declared.value.Value.{Value}
use Rattle.json_fields.proofs.ReadItems.{AreItems-at, AreItems-length, AreItems-same}
use Rattle.json_events.specs.Spelling.{AreJoined, AreTexts}

abbrev IsText : Data → String Global → Type 0
IsText d x = d ≡ string (string_bytes x)

pub no_texts : (vs : List Value) (i : ℕ) (v : Value) → i < length vs → v ≡ get_or vs i v → ((s : List ℕ) → ¬ (view v ≡ string s)) →
    (xs : List (String Global)) → ¬ AreTexts (items_view vs) xs
no_texts vs i v less is none xs spelled =
    let found = AreItems-at IsText vs xs i v spelled less in
    none (string_bytes found.0) (subst (λ w. view w ≡ string (string_bytes found.0)) (sym is) found.1)

pub texts_length : (vs : List Value) (xs : List (String Global)) → AreTexts (items_view vs) xs → length xs ≡ length vs
texts_length vs xs h = AreItems-length IsText vs xs h

one_text : (d : Data) (x y : String Global) → IsText d x → IsText d y → string_bytes x ≡ string_bytes y
one_text d x y h k = let e = sym h ∙ k in cc

pub one_texts : (ds : Items) (xs ys : List (String Global)) → AreTexts ds xs → AreTexts ds ys → map string_bytes xs ≡ map string_bytes ys
one_texts ds xs ys h k = AreItems-same IsText string_bytes one_text ds xs ys h k

-- where strings lie in memory does not count where they are joined
by_bytes : (sep : List ℕ) (xs : List (String Global)) → join_by string_bytes sep xs ≡ join_by (λ t. t) sep (map string_bytes xs)
by_bytes sep [] = refl
by_bytes sep (x ∷ xs) = ap (λ rest. string_bytes x ++ rest) (sym (flat_map-map (λ t. sep ++ t) string_bytes xs))

pub one_joined : (ds : Items) (a b : List ℕ) → AreJoined ds a → AreJoined ds b → a ≡ b
one_joined ds a b h k =
    let same = ap (λ (ts : List (List ℕ)). join_by (λ t. t) (codes " ") ts) (one_texts ds h.0 k.0 h.1 k.1) in
    h.2 ∙ by_bytes (codes " ") h.0 ∙ same ∙ sym (by_bytes (codes " ") k.0) ∙ sym k.2
