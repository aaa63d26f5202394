-- What is read of a chain's blocks where they lie.
use Rattle.std.proofs.Common.{◌≡◌, ◌≤◌, ◌-◌, ◌∙◌, ℕ, zero, suc, Some, option_map, slice_get, ap, arith}
use Rattle.ledger_model.specs.Chain.{Chain, Committed}
use Rattle.kept_state.specs.Asking.{hash_in}
use Rattle.committer.proofs.Last.{slice_get_map}
use Rattle.log_committer.specs.Committing.{header_hash}

-- the block at a number has the hash of that number
pub hash_there : (chain : Chain) (number : ℕ) (c : Committed) → 1 ≤ number → slice_get chain (number - 1) ≡ Some c →
    hash_in chain number ≡ Some (header_hash c.block)
hash_there chain zero c some there = absurd (omega (arith, some))
hash_there chain (suc place) c some there =
    let same : place ≡ suc place - 1 = omega arith in
    slice_get_map (λ x. header_hash x.block) chain place
    ∙ ap (option_map (λ x. header_hash x.block)) (ap (λ (n : ℕ). slice_get chain n) same ∙ there)
