-- A machine that begins again with the chain of its store, and receives the log's blocks from the first on.
use Rattle.std.specs.Prelude.{◌≡◌, List, [], ◌∷◌, Ok}
use Rattle.fab_types.specs.declared.block.Block.{Block}
use Rattle.ledger_model.specs.Chain.{Chain}
use Rattle.ledger_model.specs.Judged.{BlockRule}
use Rattle.log_committer.specs.Committing.{Receives, header_hash}
use Rattle.log_committer.specs.declared.receiving.Received.{Received}
use Rattle.fabric_core.specs.Headline.{IsAmong}

-- these blocks came one after another, and none was refused: each was committed, or stood for the chain's block of its number
abbrev pub ReceivesEach : BlockRule → Chain → List Block → Chain → Type 0
ReceivesEach rule old [] new = new ≡ old
ReceivesEach rule old (block ∷ blocks) new =
    (told : Received) × (next : Chain) × Receives rule old block (Ok told) next × ReceivesEach rule next blocks new

-- The hashes of headers tell the blocks of one list from those of the other. Of SHA-256 it is believed, and proved nowhere: it is a premise
abbrev pub AreToldApart : List Block → List Block → Type 0
AreToldApart some others = (a b : Block) → IsAmong a some → IsAmong b others → header_hash a ≡ header_hash b → a ≡ b
