-- A chain that nobody holds, as it grows.
use Rattle.std.proofs.Common.{◌≡◌, ℕ, suc, ◌+◌, [], ◌∷◌, ◌++◌, length, sym, ◌∙◌, arith}
use Rattle.std.proofs.lemmas.List.{map-append}
use Rattle.sha2.specs.Sha256.{sha256}
use Rattle.fab_types.specs.BlockSpelling.{header_bytes}
use Rattle.ledger_model.specs.Chain.{Chain, Committed}
use Rattle.world_state.specs.Kept.{Kept, IsKeptOf, hashes_of}
use Rattle.kept_state.specs.Keeping.{AreNumbered}
use Rattle.kept_state.proofs.Growing.{link_more}

pub numbered_more : (n : ℕ) (cs : Chain) (c : Committed) → AreNumbered n cs → c.block.header.number ≡ length cs + n → AreNumbered n (cs ++ c ∷ [])
numbered_more n [] c all next = (omega (arith, next), tt)
numbered_more n (x ∷ cs) c all next = (all.0, numbered_more (suc n) cs c all.1 (omega (arith, next)))

-- all hashes are kept of a chain that is one longer
pub all_hashes_more : (chain : Chain) (c : Committed) (old new : Kept) → old.hashes ≡ hashes_of chain → new.hashes ≡ old.hashes ++ new.link ∷ [] →
    IsKeptOf new (chain ++ c ∷ []) → new.hashes ≡ hashes_of (chain ++ c ∷ [])
all_hashes_more chain c old new before made kept =
    let link : new.link ≡ sha256 (header_bytes c.block.header) = kept.link ∙ link_more chain c in
    made ∙ (λ i. before i ++ link i ∷ []) ∙ sym (map-append (λ (d : Committed). sha256 (header_bytes d.block.header)) chain (c ∷ []))
