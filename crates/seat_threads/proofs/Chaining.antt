-- The peer's chain as the orderer's grows and as blocks are committed.
use Rattle.std.proofs.Common.{◌≡◌, ◌+◌, ◌++◌, ◌∷◌, [], List, Some, length, length-append, sym, ap, ◌∙◌, slice_get, subst, false}
use Rattle.std.specs.Arc.{arc_value}
use Rattle.std.proofs.Math.Seq.{take-length}
use mathlib.Core.List.{IsPrefix}
use Rattle.fab_types.specs.declared.block.Block.{Block}
use Rattle.ledger_model.specs.Chain.{Chain}
use Rattle.ledger_model.specs.Judged.{judged_chain}
use Rattle.endorsement_policy.specs.Endorsed.{Listed}
use Rattle.ledger_setting.specs.Rule.{table_of}
use Rattle.fabric_core.specs.System.{chain_of_first}
use Rattle.fabric_core.proofs.Blocks.{next_chain, stays}
use Rattle.peer_node.specs.Writers.{published_chain, rules_of, next_by}
use Rattle.seat_threads.specs.declared.desk.Desk.{Desk}
use Rattle.seat_threads.specs.Chains.{IsFirstOf}
use Rattle.seat_threads.specs.Desks.{IsInStep}

-- with the next block it is the chain of one block more
pub one_more : (listed : Listed) (blocks : List Block) (c d : Chain) (b : Block) → IsFirstOf listed blocks c → slice_get blocks (length c) ≡ Some b →
    d ≡ c ++ next_by listed c b ∷ [] → IsFirstOf listed blocks d × (length d ≡ length c + 1)
one_more listed blocks c d b first there is =
    let longer : length d ≡ length c + 1 = ap (λ (x : Chain). length x) is ∙ length-append c (next_by listed c b ∷ []) in
    (is ∙ sym (next_chain (table_of listed) blocks c b first there) ∙ ap (chain_of_first (table_of listed) blocks) (sym longer), longer)

-- a desk that was not refused memory has all of the orderer's blocks
pub whole_chain : (listed : Listed) (d : Desk) → arc_value (rules_of d.writer) ≡ listed → IsInStep d → d.starved ≡ false →
    published_chain d.writer ≡ judged_chain (table_of listed) d.orderer.chain
whole_chain listed d rules step fed =
    let blocks = d.orderer.chain in
    let rule = table_of (arc_value (rules_of d.writer)) in
    step.0 ∙ (ap (chain_of_first rule blocks) (step.1 fed) ∙
    (ap (judged_chain rule) (take-length blocks) ∙ ap (λ (l : Listed). judged_chain (table_of l) blocks) rules))

-- the peer's blocks stay the first ones as the orderer's chain grows
pub grows : (listed : Listed) (old new : List Block) (c : Chain) → IsFirstOf listed old c → IsPrefix old new → IsFirstOf listed new c
grows listed old new c first longer =
    subst (λ (blocks : List Block). IsFirstOf listed blocks c) longer.1 (stays (table_of listed) old longer.0 c first)
