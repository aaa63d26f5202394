-- Values pushed one after another, each made of the next item of a list.
use Rattle.std.proofs.Common.{◌≡◌, ◌<◌, ◌+◌, ℕ, List, [], ◌∷◌, ◌++◌, length, drop, sym, ap, ◌∙◌, slice_index_or, append_assoc}
use Rattle.std.proofs.lemmas.List.{drop_more, map-append}
use Rattle.wasm_meaning.specs.Values.{Val}
use Rattle.wasm_trace.specs.declared.parts.Value.{Value}
use Rattle.wasm_trace.specs.View.{val_of, vals}

pub pushed_next : {A : Type 0} (f : A → Val) (all_of : List A → List Val) → ((x : A) (xs : List A) → all_of (x ∷ xs) ≡ f x ∷ all_of xs) → (xs : List A) (i : ℕ)
    (d : A) (vs vs' : List Value) (v : Value) (all : List Val) → i < length xs → vs' ≡ vs ++ v ∷ [] → val_of v ≡ f (slice_index_or xs i d) →
    vals vs ++ all_of (drop i xs) ≡ all → vals vs' ++ all_of (drop (i + 1) xs) ≡ all
pushed_next f all_of next xs i d vs vs' v all lt more is before =
    let left = drop (i + 1) xs in
    ap (λ z. vals z ++ all_of left) more ∙ ap (λ z. z ++ all_of left) (map-append val_of vs (v ∷ [])) ∙ append_assoc (vals vs) (val_of v ∷ []) (all_of left) ∙
    ap (λ x. vals vs ++ (x ∷ all_of left)) is ∙ ap (λ z. vals vs ++ z) (sym (next (slice_index_or xs i d) left)) ∙
    ap (λ z. vals vs ++ all_of z) (sym (drop_more xs i d lt)) ∙ before
