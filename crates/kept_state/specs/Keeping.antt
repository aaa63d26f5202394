-- A chain that nobody holds, and what is kept of it.
use Rattle.std.specs.Prelude.{◌≡◌, ℕ, suc, [], ◌∷◌}
use Rattle.ledger_model.specs.Chain.{Chain}
use Rattle.world_state.specs.Kept.{IsKeptOf, hashes_of}
use Rattle.kept_state.specs.declared.chain.KeptChain.{KeptChain}

-- its blocks with their flags
abbrev pub chain_of : KeptChain → Chain
chain_of c = c.blocks.blocks

-- each block has the number of its place, from this one on
abbrev pub AreNumbered : ℕ → Chain → Type 0
AreNumbered number [] = Unit {0}
AreNumbered number (c ∷ cs) = (c.block.header.number ≡ number) × AreNumbered (suc number) cs

-- the state is kept of it, with all hashes, and its blocks have the numbers of their places
pub record IsKept (c : KeptChain) : Type 0 where
  pub state : IsKeptOf c.state (chain_of c)
  pub hashes : c.state.hashes ≡ hashes_of (chain_of c)
  pub numbered : AreNumbered 1 (chain_of c)
