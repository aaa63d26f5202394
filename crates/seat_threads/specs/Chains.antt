-- The chain that a peer has of the orderer's blocks.
use Rattle.std.specs.Prelude.{◌≡◌, List, length}
use Rattle.fab_types.specs.declared.block.Block.{Block}
use Rattle.ledger_model.specs.Chain.{Chain}
use Rattle.endorsement_policy.specs.Endorsed.{Listed}
use Rattle.ledger_setting.specs.Rule.{table_of}
use Rattle.fabric_core.specs.System.{chain_of_first}

-- the chain of the first of these blocks, each transaction flagged by the table
abbrev pub IsFirstOf : Listed → List Block → Chain → Type 0
IsFirstOf listed blocks chain = chain ≡ chain_of_first (table_of listed) blocks (length chain)
