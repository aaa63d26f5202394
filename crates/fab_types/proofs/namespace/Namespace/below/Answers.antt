use Rattle.std.proofs.Common.{◌≡◌, ℕ, ◌+◌, ◌-◌, ◌≤◌, List, [], ◌∷◌, ◌++◌, take, drop, length, replicate, arith, ap, ◌∙◌}
use Rattle.std.proofs.Math.Seq.{take-append-add}
use Rattle.std.proofs.lemmas.List.{drop-replicate, take-replicate}
use Rattle.fab_types.proofs.namespace.Namespace.below.Goals as goal

-- a name over as many '/', with one of those behind it
with_slash : (name copy : List ℕ) → length name ≤ 32 → copy ≡ name →
    take (length name + 1) (copy ++ drop (length name) (replicate 33 47)) ≡ name ++ 47 ∷ []
with_slash name copy short e =
    ap (λ l. take (length name + 1) (l ++ drop (length name) (replicate 33 47))) e
    ∙ take-append-add name (drop (length name) (replicate 33 47)) 1
    ∙ ap (λ l. name ++ take 1 l) (drop-replicate (length name) 33 47)
    ∙ ap (λ l. name ++ l) (take-replicate 1 (33 - length name) 47 (omega arith))

pub returns : goal.returns
returns c =
    c.new.ensures ∙ with_slash c.as_slice-name.result.now c.copy_from_slice.new.self (omega (arith, c.as_slice-name.ensures.limits, ap length c.as_slice-name.ensures.value)) c.copy_from_slice.ensures.after
    ∙ ap (λ name. name ++ 47 ∷ []) c.as_slice-name.ensures.value
