-- Operands off the vector of values.
use Rattle.std.proofs.Common.{◌≡◌, ℕ, true, cond, Some, List, [], ◌∷◌, ◌++◌, sym, ap, ◌∙◌}
use Rattle.std.specs.Prelude.{slice_get, slice_set}
use Rattle.std.proofs.lemmas.List.{map-set}
use Rattle.wasm_ast.specs.Types.{same_type}
use Rattle.wasm_meaning.specs.Values.{Val}
use Rattle.wasm_trace.specs.declared.parts.Value.{Value}
use Rattle.wasm_trace.specs.Reduction.{Step, Stuck, with_top, with_found, replacing}
use Rattle.wasm_trace.specs.View.{val_of, vals, stack_of}
use Rattle.wasm_trace.proofs.Stepping.{stack_snoc}

set_map : (xs : List Value) (k : ℕ) (x : Value) → vals (slice_set xs k x) ≡ slice_set (vals xs) k (val_of x)
set_map xs k x = map-set val_of xs k x

module _ {R : Type 0} where
  top_is : (vs rest : List Value) (v : Value) (g : Val → List Val → Step R) → vs ≡ rest ++ v ∷ [] → with_top (stack_of vs) g ≡ g (val_of v) (stack_of rest)
  top_is vs rest v g e = ap (λ s. with_top s g) (ap stack_of e ∙ stack_snoc rest v)

  pub replaced : (k : ℕ) (vs rest ls : List Value) (v old : Value) (go : List Val → List Val → Step R) → vs ≡ rest ++ v ∷ [] →
      slice_get (vals ls) k ≡ Some (val_of old) → same_type (val_of v).type (val_of old).type ≡ true →
      with_top (stack_of vs) (λ x s. with_found (slice_get (vals ls) k) (λ old. replacing x old (go (slice_set (vals ls) k x) s))) ≡
      go (vals (slice_set ls k v)) (stack_of rest)
  replaced k vs rest ls v old go e q t =
      top_is vs rest v (λ x s. with_found (slice_get (vals ls) k) (λ old. replacing x old (go (slice_set (vals ls) k x) s))) e ∙
      ap (λ o. with_found o (λ old. replacing (val_of v) old (go (slice_set (vals ls) k (val_of v)) (stack_of rest)))) q ∙
      ap (λ b. cond b (go (slice_set (vals ls) k (val_of v)) (stack_of rest)) Stuck) t ∙ ap (λ ls. go ls (stack_of rest)) (sym (set_map ls k v))
