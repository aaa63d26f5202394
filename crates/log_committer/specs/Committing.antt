-- What becomes of the blocks of a log on a chain.
use Rattle.std.specs.Prelude.{◌≡◌, ◌≢◌, ℕ, zero, suc, ◌<◌, List, [], ◌∷◌, ◌++◌, Option, Some, None, Result, Ok, Err, length, option_map, slice_get}
use Rattle.std.specs.Arc.{arc_value}
use Rattle.sha2.specs.Sha256.{sha256}
use Rattle.fab_types.specs.declared.block.Block.{Block}
use Rattle.fab_types.specs.BlockSpelling.{header_bytes}
use Rattle.ledger_model.specs.Chain.{Bytes, Chain, Committed}
use Rattle.ledger_model.specs.Judged.{BlockRule, judge_onto}
use Rattle.endorsement_policy.specs.Endorsed.{Listed}
use Rattle.committer.specs.Fits.{Fits, IsRefused, blocks_of}
use Rattle.committer.specs.declared.refusal.CommitRefusal.TheVariants.{Memory}
use Rattle.kept_state.specs.Keeping.{chain_of}
use Rattle.log_committer.specs.declared.receiving.Committer.{Committer}
use Rattle.log_committer.specs.declared.receiving.Received.{Received}
use Rattle.log_committer.specs.declared.receiving.Received.TheVariants as received
use Rattle.log_committer.specs.declared.refusal.ReceiveRefusal.{ReceiveRefusal}
use Rattle.log_committer.specs.declared.refusal.ReceiveRefusal.TheVariants.{Forked, Unfit}

-- the blocks that a committer has, with their flags
abbrev pub committed_chain : Committer → Chain
committed_chain c = chain_of c.chain

-- the rules by which it commits
abbrev pub rules_of : Committer → Listed
rules_of c = arc_value c.rules

-- each of these blocks fits at the end of those before it
abbrev pub FitEach : List Block → List Block → Type 0
FitEach before [] = Unit {0}
FitEach before (block ∷ blocks) = Fits before block × FitEach (before ++ block ∷ []) blocks

-- behind a chain these blocks fit one after another, and `new` is the chain with all of them, flagged by the rule
abbrev pub Commits : BlockRule → Chain → List Block → Chain → Type 0
Commits rule chain blocks new = FitEach (blocks_of chain) blocks × (new ≡ judge_onto rule chain blocks)

abbrev pub header_hash : Block → Bytes
header_hash block = sha256 (header_bytes block.header)

-- the block that stands at a number in a chain, with its flags: numbers go from 1 on
abbrev pub block_at : Chain → ℕ → Option Committed
block_at chain zero = None
block_at chain (suc place) = slice_get chain place

-- the hash of its header
abbrev pub own_hash : Chain → ℕ → Option Bytes
own_hash chain number = option_map (λ own. header_hash own.block) (block_at chain number)

-- the chain has the block, by the hash of its header
abbrev pub IsKnown : Chain → Block → Type 0
IsKnown chain block = own_hash chain block.header.number ≡ Some (header_hash block)

-- the chain has another block of this number
abbrev pub IsForked : Chain → Block → Type 0
IsForked chain block = (own : Bytes) × (own_hash chain block.header.number ≡ Some own) × (own ≢ header_hash block)

-- what a block came to, by the block that joined the chain
abbrev pub received_of : Option Committed → Received
received_of None = received.Known
received_of (Some c) = received.Committed

abbrev pub received_by : Result (Option Committed) ReceiveRefusal → Result Received ReceiveRefusal
received_by (Ok joined) = Ok (received_of joined)
received_by (Err refusal) = Err refusal

-- What a block comes to. It is committed; or it stands for the chain's block of its number, and is known or forked; or it is above the chain and does
-- not fit. The chain is as it was, unless the block is committed
abbrev pub Receives : BlockRule → Chain → Block → Result Received ReceiveRefusal → Chain → Type 0
Receives rule old block (Ok received.Committed) new = Commits rule old (block ∷ []) new
Receives rule old block (Ok received.Known) new = IsKnown old block × (new ≡ old)
Receives rule old block (Err (Forked number)) new = (number ≡ block.header.number) × IsForked old block × (new ≡ old)
Receives rule old block (Err (Unfit cause)) new = (length old < block.header.number) × IsRefused cause (blocks_of old) block × (new ≡ old)

-- These blocks came one after another, and none was refused: this is what each came to
abbrev pub ReceivesAll : BlockRule → Chain → List Block → List Received → Chain → Type 0
ReceivesAll rule old [] told new = (told ≡ []) × (new ≡ old)
ReceivesAll rule old (block ∷ blocks) told new =
    (first : Received) × (later : List Received) × (next : Chain) × (told ≡ first ∷ later) × Receives rule old block (Ok first) next ×
    ReceivesAll rule next blocks later new

-- the refusal for want of memory, beside which a block comes to one answer alone (the law `peers_agree`, clause `answer`)
abbrev pub for_memory : Result Received ReceiveRefusal
for_memory = Err (Unfit Memory)
