-- A block that was judged and put on the published chain is the next one by the rules.
use Rattle.std.proofs.Common.{◌≡◌, ◌∙◌, ◌++◌, ◌∷◌, [], List, ap, subst}
use Rattle.fab_types.specs.declared.block.Block.{Block}
use Rattle.fab_types.specs.declared.flag.Flag.{Flag}
use Rattle.committer.specs.Fits.{Fits, IsNext, blocks_of}
use Rattle.endorsement_policy.specs.Endorsed.{Listed}
use Rattle.ledger_model.specs.Chain.{Chain}
use Rattle.world_state.specs.Judging.{flagged}
use Rattle.world_state.specs.declared.judged.Judged.{Judged}
use Rattle.ledger_setting.specs.Judging.{IsJudged}
use Rattle.ledger_setting.specs.Rule.{table_of}
use Rattle.peer_node.specs.Writers.{next_by}

pub committed : (listed : Listed) (chain shown : Chain) (b : Block) (judged : Judged) → shown ≡ chain → IsJudged (table_of listed) shown b judged
    → shown ++ flagged b judged ∷ [] ≡ chain ++ next_by listed chain b ∷ []
committed listed chain shown b judged same is =
    ap (λ (fs : List Flag). shown ++ record { block = b; flags = fs } ∷ []) is.flags ∙ ap (λ (c : Chain). c ++ next_by listed c b ∷ []) same

pub fits : (listed : Listed) (chain shown : Chain) (b : Block) (judged : Judged) → shown ≡ chain → IsJudged (table_of listed) shown b judged →
    Fits (blocks_of chain) b
fits listed chain shown b judged same is = subst (λ (c : Chain). Fits (blocks_of c) b) same is.fits

-- what is tested before any memory is taken
pub next : (chain : Chain) (b : Block) → Fits (blocks_of chain) b → IsNext (blocks_of chain) b
next chain b is = (is.room, is.number, is.previous_hash)
