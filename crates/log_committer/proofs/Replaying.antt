-- Chains of received blocks are lawful stores, and the other way round.
use Rattle.std.proofs.Common.{◌≡◌, ℕ, suc, List, [], ◌∷◌, ◌++◌, refl, sym, ap, subst, ◌∙◌, append_assoc, append-nil}
use Rattle.std.specs.List.{flat_map}
use Rattle.fab_types.specs.declared.block.Block.{Block}
use Rattle.ledger_model.specs.Chain.{Chain, Committed}
use Rattle.ledger_model.specs.Judged.{BlockRule, judge_onto}
use Rattle.committer.specs.Fits.{blocks_of}
use Rattle.block_store.specs.Record.{record_bytes}
use Rattle.block_store.specs.Store.{Loads}
use Rattle.block_store.specs.declared.end.End.TheVariants.{Clean}
use Rattle.store_replay.specs.Lawful.{AreLawful}
use Rattle.store_replay.proofs.Lawful.{lawful_more, is_judged}
use Rattle.log_committer.specs.Committing.{FitEach, Commits}
use Rattle.ledger_setting.specs.Judging.{next_by}
use Rattle.log_committer.proofs.Agreeing.{blocks_more}

lawful_onto : (rule : BlockRule) (chain : Chain) (blocks : List Block) → FitEach (blocks_of chain) blocks → AreLawful rule [] chain →
    AreLawful rule [] (judge_onto rule chain blocks)
lawful_onto rule chain [] fit lawful = lawful
lawful_onto rule chain (b ∷ bs) fit lawful =
    let next = next_by rule chain b in
    let rest = subst (λ (x : List Block). FitEach x bs) (sym (blocks_more chain next)) fit.1 in
    lawful_onto rule (chain ++ next ∷ []) bs rest (lawful_more rule [] chain next lawful fit.0 refl)

-- what was received is replayed
pub replayed : (rule : BlockRule) (chain : Chain) (blocks : List Block) → Commits rule [] blocks chain → AreLawful rule [] chain
replayed rule chain blocks h = subst (AreLawful rule []) (sym h.1) (lawful_onto rule [] blocks h.0 tt)

judged_again : (rule : BlockRule) (before cs : Chain) → AreLawful rule before cs →
    FitEach (blocks_of before) (blocks_of cs) × (before ++ cs ≡ judge_onto rule before (blocks_of cs))
judged_again rule before [] h = (tt, append-nil before)
judged_again rule before (c ∷ cs) h =
    let more = judged_again rule (before ++ c ∷ []) cs h.2 in (
      (h.0, subst (λ (x : List Block). FitEach x (blocks_of cs)) (blocks_more before c) more.0),
      sym (append_assoc before (c ∷ []) cs) ∙ more.1
          ∙ ap (λ (x : Committed). judge_onto rule (before ++ x ∷ []) (blocks_of cs)) (is_judged rule before c h.1),
    )

-- what is replayed is what receiving the blocks gives
pub restarted : (rule : BlockRule) (chain : Chain) → AreLawful rule [] chain → Commits rule [] (blocks_of chain) chain
restarted rule chain h = judged_again rule [] chain h

-- a store without damage or a torn end is the bytes of its records
pub bytes_of_records : (n : ℕ) (bytes : List ℕ) (cs : List Committed) → Loads n bytes cs Clean → bytes ≡ flat_map record_bytes cs
bytes_of_records n bytes [] h = h
bytes_of_records n bytes (c ∷ cs) h = h.2 ∙ ap (λ (rest : List ℕ). record_bytes c ++ rest) (bytes_of_records (suc n) h.0 cs h.3)
