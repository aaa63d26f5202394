-- A slice up to the end.
use Rattle.std.proofs.Common.{◌≡◌, ℕ, ◌-◌, List, [], length, take, drop, refl, sym, ap, ◌∙◌}
use Rattle.std.proofs.lemmas.List.{append-nil, length-drop, take_at}

pub slice_to_end : (at : ℕ) (bytes : List ℕ) → take (length bytes - at) (drop at bytes) ≡ drop at bytes
slice_to_end at bytes =
    let rest = drop at bytes in
    ap (λ (n : ℕ). take n rest) (sym (length-drop at bytes)) ∙ ap (λ (t : List ℕ). take (length rest) t) (sym (append-nil rest)) ∙
    take_at rest [] (length rest) refl
