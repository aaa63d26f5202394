-- The block of a record on a chain, and what that says of the record.
use Rattle.std.proofs.Common.{◌≡◌, ◌≢◌, ◌∙◌, ◌++◌, ◌∷◌, ◌+◌, [], Bool, true, false, MatchBool, List, arith, length, length-append, subst, sym, ap}
use Rattle.std.proofs.lemmas.List.{length-map}
use Rattle.fab_types.specs.Committed.{Committed}
use Rattle.fab_types.specs.declared.block.Block.{Block}
use Rattle.fab_types.specs.declared.flag.Flag.{Flag}
use Rattle.ledger_model.specs.Chain.{Chain}
use Rattle.ledger_model.specs.Judged.{BlockRule}
use Rattle.world_state.specs.Judging.{IsOf, flagged}
use Rattle.world_state.specs.declared.judged.Judged.{Judged}
use Rattle.committer.specs.Fits.{Fits, IsNext, blocks_of}
use Rattle.ledger_setting.specs.Judging.{IsJudged, next_by}
use Rattle.store_replay.specs.Replay.{HasTheFlags, IsPushed}
use Rattle.store_replay.proofs.Lawful.{is_judged}

pub by_test : (rule : BlockRule) (chain : Chain) (c : Committed) (b : Bool) →
    MatchBool b (c.flags ≡ (next_by rule chain c.block).flags) (c.flags ≢ (next_by rule chain c.block).flags) → HasTheFlags rule chain c b
by_test rule chain c true h = h
by_test rule chain c false h = h

-- a block that was judged behind a chain is committed as the rule has it
pub as_judged : (rule : BlockRule) (chain : Chain) (b c : Block) (judged : Judged) → b ≡ c → IsJudged rule chain c judged →
    flagged b judged ≡ next_by rule chain c
as_judged rule chain b c judged same is =
    ap (λ (x : Block). flagged x judged) same ∙ ap (λ (fs : List Flag). record { block = c; flags = fs }) is.flags

-- and stands there
pub grown : (rule : BlockRule) (chain last : Chain) (b c : Block) (judged : Judged) → b ≡ c → IsJudged rule chain c judged →
    last ≡ chain ++ flagged b judged ∷ [] → last ≡ chain ++ next_by rule chain c ∷ []
grown rule chain last b c judged same is on =
    on ∙ ap (λ (x : Committed). chain ++ x ∷ []) (as_judged rule chain b c judged same is)

-- and as the record has it, where that has the rule's flags
pub stands : (rule : BlockRule) (chain last : Chain) (b : Block) (c : Committed) (judged : Judged) → b ≡ c.block → IsJudged rule chain c.block judged →
    HasTheFlags rule chain c true → last ≡ chain ++ flagged b judged ∷ [] → last ≡ chain ++ c ∷ []
stands rule chain last b c judged same is flags on =
    grown rule chain last b c.block judged same is on ∙ ap (λ (x : Committed). chain ++ x ∷ []) (sym (is_judged rule chain c flags))

-- a block that was judged behind a chain has the next number, and its own ids
pub is_next : (rule : BlockRule) (chain : Chain) (b c : Block) (judged : Judged) → b ≡ c → IsJudged rule chain c judged → b.header.number ≡ length chain + 1
is_next rule chain b c judged same is =
    let number = is.fits.number in
    let header = ap (λ (x : Block). x.header.number) same in
    omega (arith, number, header, length-map chain (λ (d : Committed). d.block))

pub is_of : (rule : BlockRule) (chain : Chain) (b c : Block) (judged : Judged) → b ≡ c → IsJudged rule chain c judged → IsOf b judged
is_of rule chain b c judged same is = subst (λ (x : Block). IsOf x judged) (sym same) is.of

-- and it is the next by all that is tested before memory is taken
pub for_memory : (rule : BlockRule) (chain : Chain) (c : Block) (judged : Judged) → IsJudged rule chain c judged → IsNext (blocks_of chain) c
for_memory rule chain c judged is = (is.fits.room, is.fits.number, is.fits.previous_hash)

pub one_more : (rule : BlockRule) (chain : Chain) (c : Committed) (is_same : Bool) (last : Chain) → IsPushed rule chain c is_same last →
    length last ≡ length chain + 1
one_more rule chain c is_same last is = ap (λ (s : Chain). length s) is.grown ∙ length-append chain (next_by rule chain c.block ∷ [])

-- a block as it is committed behind a chain has the next number
pub has_number : (rule : BlockRule) (chain : Chain) (c made : Committed) → made ≡ next_by rule chain c.block → Fits (blocks_of chain) c.block →
    made.block.header.number ≡ length chain + 1
has_number rule chain c made is fits =
    let same = ap (λ (x : Committed). x.block.header.number) is in
    omega (arith, same, fits.number, length-map chain (λ (d : Committed). d.block))
