-- What a batch leaves out, one after another.
use Rattle.std.proofs.Common.{◌≡◌, ◌+◌, ◌<◌, ◌≤◌, ℕ, List, [], ◌++◌, ◌⊎◌, inl, inr, Option, Some, None}
use Rattle.std.proofs.Common.{get_or, length, take, refl, sym, ap, ◌∙◌, arith}
use Rattle.std.proofs.lemmas.List.{append-nil, take_all}
use Rattle.std.proofs.lemmas.Option.{slice_get_cases, slice_get_past, slice_get_read, slice_get_within, slice_get-get_or, get_or_from_slice_get}
use Rattle.std.proofs.lemmas.Slice.Zip.{length-zip, get_or-zip}
use Rattle.std.specs.List.{flat_map, slice_get, zip}
use Rattle.std.specs.Slice.{IsItemAt}
use Rattle.std.specs.Prelude.{option_map}
use denote.Ref.{Bor}
use Rattle.orderer.specs.declared.arrangement.AbortCause.{AbortCause}
use Rattle.cli_lines.specs.Told.{Told, Prints}
use Rattle.cli_lines.proofs.Printing.{prints_next, prints_same, prints_then}
use Rattle.cli_peer.specs.Printed.{left_out_text, left_text}

left_out_next : (ids : List (List ℕ)) (causes : List (ℕ × AbortCause)) (i : ℕ) (id : List ℕ) (left : ℕ × AbortCause) (t u v : Told) →
    i < length ids → id ≡ get_or ids i id → slice_get causes i ≡ Some left → Prints t u ([] ++ flat_map left_out_text (take i (zip ids causes))) →
    Prints u v (left_out_text (id, left)) → Prints t v ([] ++ flat_map left_out_text (take (i + 1) (zip ids causes)))
left_out_next ids causes i id left t u v within is found before here =
    let inside = slice_get_within causes i left found in
    let pair : (id, left) ≡ get_or (zip ids causes) i (id, left) =
    sym (get_or-zip ids causes i (id, left) within inside ∙ ap (λ (a : List ℕ). (a, get_or causes i left)) (sym is)
    ∙ ap (λ (b : ℕ × AbortCause). (id, b)) (get_or_from_slice_get causes i left left found)) in
    let size = length-zip ids causes in
    prints_next left_out_text [] (zip ids causes) i (id, left) t u v (omega arith) pair before here

past_end : {X : Type 0} (xs : List X) (i : ℕ) → None ≡ slice_get xs i → length xs ≤ i
past_end {X} xs i none = at (slice_get_cases xs i).1
  where
    at : ((x : X) × (i < length xs) × (slice_get xs i ≡ Some x) × (get_or xs i x ≡ x)) ⊎ ((length xs ≤ i) × (slice_get xs i ≡ None)) → length xs ≤ i
    at (inl some) = let e = some.2 in absurd cc
    at (inr past) = past.0

-- what is lent of a place
pub item_at : {X : Type 0} (xs : List X) (i : ℕ) (r : Option (Bor X)) → IsItemAt xs i r → option_map (λ (x : Bor X). x.now) r ≡ slice_get xs i
item_at xs i None h = sym (slice_get_past xs i h.3)
item_at xs i (Some x) h = sym (slice_get_read xs (length xs) i x.now refl h.3.0 h.1)

pub same_item : {X : Type 0} (xs : List X) (i : ℕ) (d : X) → i < length xs → get_or xs i d ≡ get_or xs i (get_or xs i d)
same_item xs i d within = sym (get_or_from_slice_get xs i (get_or xs i d) (get_or xs i d) (slice_get-get_or xs i d within))

-- the transaction at a place, and its cause, if it has one
pub left_out_step : (ids : List (List ℕ)) (causes : List (ℕ × AbortCause)) (i : ℕ) (id : List ℕ) (left : Option (ℕ × AbortCause)) (t u v : Told) →
    i < length ids → id ≡ get_or ids i id → left ≡ slice_get causes i → Prints t u ([] ++ flat_map left_out_text (take i (zip ids causes))) →
    Prints u v (left_text id left) → Prints t v ([] ++ flat_map left_out_text (take (i + 1) (zip ids causes)))
left_out_step ids causes i id (Some cause) t u v within is found before here = left_out_next ids causes i id cause t u v within is (sym found) before here
left_out_step ids causes i id None t u v within is found before here =
    let past = past_end causes i found in
    let size = length-zip ids causes in
    let all = take_all i (zip ids causes) (omega (arith, size, past)) in
    let more = take_all (i + 1) (zip ids causes) (omega (arith, size, past)) in
    prints_same t v _ _ (append-nil _ ∙ ap (λ (ps : List (List ℕ × (ℕ × AbortCause))). flat_map left_out_text ps) (all ∙ sym more))
    (prints_then t u v _ [] before here)

pub left_out_all : (ids : List (List ℕ)) (causes : List (ℕ × AbortCause)) (i : ℕ) (t u : Told) → length ids ≤ i →
    Prints t u ([] ++ flat_map left_out_text (take i (zip ids causes))) → Prints t u (flat_map left_out_text (zip ids causes))
left_out_all ids causes i t u past =
    let size = length-zip ids causes in
    prints_same t u _ _ (ap (λ (ps : List (List ℕ × (ℕ × AbortCause))). flat_map left_out_text ps) (take_all i (zip ids causes) (omega arith)))
