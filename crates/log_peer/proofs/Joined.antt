-- The blocks that joined the chain stand there at the numbers that are told.
use Rattle.std.proofs.Common.{◌≡◌, ◌∙◌, ℕ, zero, suc, List, [], ◌∷◌, ◌++◌, Option, Some, None, Ok, length, slice_get, refl, sym, ap, subst}
use Rattle.std.specs.List.{AllByRecursion}
use Rattle.fab_types.specs.declared.block.Block.{Block}
use Rattle.ledger_model.specs.Chain.{Chain, Committed}
use Rattle.ledger_model.specs.Judged.{BlockRule}
use Rattle.orderer.specs.Making.{number_in}
use Rattle.log_committer.specs.Committing.{Receives, ReceivesAll, block_at}
use Rattle.log_committer.specs.declared.receiving.Received.{Received}
use Rattle.log_committer.specs.declared.receiving.Received.TheVariants as received
use Rattle.log_committer.proofs.Peering.{blocks_grow}
use Rattle.log_peer.specs.Peering.{IsJoinedAt, IsJoinedIn}
use Rattle.log_peer.specs.declared.peering.PeerBatch.{PeerBatch}
use Rattle.log_peer.proofs.Stores.{joined_next}

-- ---- places

at_end : (chain : Chain) (c : Committed) → slice_get (chain ++ c ∷ []) (length chain) ≡ Some c
at_end [] c = refl
at_end (x ∷ chain) c = at_end chain c

in_front : (chain more : Chain) (place : ℕ) (c : Committed) → slice_get chain place ≡ Some c → slice_get (chain ++ more) place ≡ Some c
in_front [] more place c there = cc
in_front (x ∷ chain) more zero c there = there
in_front (x ∷ chain) more (suc place) c there = in_front chain more place c there

block_in_front : (chain more : Chain) (number : ℕ) (c : Committed) → block_at chain number ≡ Some c → block_at (chain ++ more) number ≡ Some c
block_in_front chain more zero c there = cc
block_in_front chain more (suc place) c there = in_front chain more place c there

-- ---- a block that joined

pub joined_at : (rule : BlockRule) (old new : Chain) (block : Block) (made : Option Block) (c : Committed) → made ≡ Some block →
    Receives rule old block (Ok received.Committed) new → new ≡ old ++ c ∷ [] → IsJoinedAt new (number_in made) (Some c)
joined_at rule old new block made c is came grown =
    let next = joined_next rule old new block c came grown in
    subst (λ (b : Option Block). IsJoinedAt new (number_in b) (Some c)) (sym is)
    (ap (block_at new) next.1 ∙ ap (λ (chain : Chain). slice_get chain (length old)) grown ∙ at_end old c)

at_behind : (chain more : Chain) (number : Option ℕ) (joined : Option Committed) → IsJoinedAt chain number joined → IsJoinedAt (chain ++ more) number joined
at_behind chain more number None is = tt
at_behind chain more None (Some c) is = tt
at_behind chain more (Some n) (Some c) is = block_in_front chain more n c is

-- ---- those of batches

all_behind : (chain more : Chain) (told : List PeerBatch) → AllByRecursion (IsJoinedIn chain) told → AllByRecursion (IsJoinedIn (chain ++ more)) told
all_behind chain more [] all = tt
all_behind chain more (batch ∷ told) all = (at_behind chain more batch.report.block batch.joined all.0, all_behind chain more told all.1)

all_more : {X : Type 0} (P : X → Type 0) (xs : List X) (x : X) → AllByRecursion P xs → P x → AllByRecursion P (xs ++ x ∷ [])
all_more P [] x all is = (is, tt)
all_more P (y ∷ xs) x all is = (all.0, all_more P xs x all.1 is)

pub all_at : {X : Type 0} (P : X → Type 0) (front back : List X) (x : X) → AllByRecursion P (front ++ x ∷ back) → P x
all_at P [] back x all = all.0
all_at P (y ∷ front) back x all = all_at P front back x all.1

pub joined_more : (rule : BlockRule) (between new : Chain) (blocks : List Block) (results : List Received) (told : List PeerBatch) (more : PeerBatch) →
    ReceivesAll rule between blocks results new → AllByRecursion (IsJoinedIn between) told → IsJoinedIn new more →
    AllByRecursion (IsJoinedIn new) (told ++ more ∷ [])
joined_more rule between new blocks results told more came all is =
    let grown = blocks_grow rule between new blocks results came in
    let before = subst (λ (chain : Chain). AllByRecursion (IsJoinedIn chain) told) (sym grown.1) (all_behind between grown.0 told all) in
    all_more (IsJoinedIn new) told more before is
