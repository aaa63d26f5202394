-- Blocks of a chain that are shared.
use Rattle.std.proofs.Common.{◌≡◌, ℕ, zero, suc, ◌+◌, ◌<◌, List, [], ◌∷◌, length, get_or, drop, sym, ap, arith}
use Rattle.std.specs.declared.sync.Arc.{Arc}
use Rattle.std.specs.declared.alloc.Global.{Global}
use Rattle.world_state.specs.Shared.{blocks_in}

-- what stands from a place on begins with the block there
pub block_at : {A : Type 0} (i : ℕ) (xs : List (Arc A Global)) (x : Arc A Global) → i < length xs → x ≡ get_or xs i x →
    drop i (blocks_in xs) ≡ x.value ∷ drop (i + 1) (blocks_in xs)
block_at i [] x within is = absurd (omega arith)
block_at {A} zero (y ∷ xs) x within is = ap (λ (a : Arc A Global). a.value ∷ blocks_in xs) (sym is)
block_at {A} (suc i) (y ∷ xs) x within is = let next : suc i + 1 ≡ suc (i + 1) = omega arith in rw next (block_at i xs x (omega arith) is)
