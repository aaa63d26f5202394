-- An item by its spelling, from what its reading function gives.
use Rattle.std.proofs.Common.{◌≡◌, ℕ, List, ◌++◌, Option, Some, None, ap, ◌∙◌}
use Rattle.grammar.specs.Reads.{Reads}
use Rattle.wasm_bytes.specs.Faults.{InFront}

module _ {A : Type 0} (Spells : A → List ℕ → Type 0) (read : List ℕ → Option (A × List ℕ)) (p : Reads Spells read) (bytes : List ℕ) where
  pub taken : (x : A) (rest : List ℕ) → read bytes ≡ Some (x, rest) → (text : List ℕ) × Spells x text × (bytes ≡ text ++ rest)
  taken x rest e = let t = p.takes bytes x rest e in (t.1, t.2, t.3)

  pub nothing : read bytes ≡ None → ¬ InFront Spells bytes
  nothing e h =
      let f : read bytes ≡ Some (h.0, h.2) = ap read h.4 ∙ p.again h.0 h.1 h.2 tt h.3 in
      cc
