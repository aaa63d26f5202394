-- The chain of a store is one of a ledger.
use Rattle.std.proofs.Common.{◌++◌, ℕ, suc, List, [], ◌∷◌, Option, inl, inr, sym, subst, append_assoc, append-nil}
use Rattle.std.specs.List.{AllByRecursion}
use Rattle.fab_types.specs.BlockWithin.{IsBlock}
use Rattle.fab_types.specs.Committed.{Committed}
use Rattle.fab_types.specs.declared.block.Block.{Block}
use Rattle.ledger_model.specs.Chain.{Chain}
use Rattle.ledger_model.proofs.Judged.{flags_kept}
use Rattle.endorsement_policy.specs.Endorsed.{Listed}
use Rattle.block_store.specs.Loading.{Gives, StoreGives}
use Rattle.block_store.specs.Store.{Loads}
use Rattle.block_store.specs.declared.end.End.{End}
use Rattle.block_store.specs.declared.end.End.TheVariants.{Clean, Torn, Damaged, DeviceFailed}
use Rattle.committer.specs.declared.refusal.CommitRefusal.{CommitRefusal}
use Rattle.kept_state.specs.Keeping.{chain_of}
use Rattle.ledger_setting.specs.Judging.{next_by}
use Rattle.ledger_setting.specs.Rule.{table_of}
use Rattle.store_replay.specs.Lawful.{AreLawful}
use Rattle.store_replay.specs.Replay.{Replays, ReplaysFrom}
use Rattle.store_replay.specs.declared.replaying.Replayed.{Replayed}
use Rattle.store_replay.proofs.Lawful.{is_judged}
use Rattle.json_chain.specs.Standing.{IsChainOf}

-- ---- the blocks of records are within the limits

abbrev AreBlocks : List Committed → Type 0
AreBlocks cs = AllByRecursion (λ c. IsBlock c.block) cs

blocks_loaded : (n : ℕ) (bytes : List ℕ) (cs : List Committed) (end : End) → Loads n bytes cs end → AreBlocks cs
blocks_loaded n bytes [] end h = tt
blocks_loaded n bytes (c ∷ cs) end h = (h.1.block.block, blocks_loaded (suc n) h.0 cs end h.3)

blocks_given : (bytes : List ℕ) (cs : List Committed) (end : End) → Gives bytes cs end → AreBlocks cs
blocks_given bytes cs Clean h = blocks_loaded 1 bytes cs Clean h
blocks_given bytes cs Torn h = blocks_loaded 1 bytes cs Torn h
blocks_given bytes cs (Damaged n) h = blocks_loaded 1 bytes cs (Damaged n) h
blocks_given bytes cs DeviceFailed h = elim h [ inl l ↦ blocks_loaded 1 bytes cs Clean l | inr l ↦ blocks_loaded 1 bytes cs Torn l ]

blocks_stored : (bytes : List ℕ) (cs : List Committed) (end : End) → StoreGives bytes cs end → AreBlocks cs
blocks_stored bytes cs Clean h = blocks_given bytes cs Clean h
blocks_stored bytes cs Torn h = blocks_given bytes cs Torn h
blocks_stored bytes cs (Damaged n) h = blocks_given bytes cs (Damaged n) h
blocks_stored bytes cs DeviceFailed h = blocks_given h.0 cs DeviceFailed h.3

blocks_more : (cs : List Committed) (c : Committed) → AreBlocks cs → IsBlock c.block → AreBlocks (cs ++ c ∷ [])
blocks_more [] c h k = (k, tt)
blocks_more (d ∷ cs) c h k = (h.0, blocks_more cs c h.1 k)

-- ---- block after block

module _ (r : Listed) where
  pub one_more : (chain : Chain) (b : Block) → IsChainOf r chain → IsBlock b → IsChainOf r (chain ++ next_by (table_of r) chain b ∷ [])
  one_more chain b of known = record {
    blocks = blocks_more chain (next_by (table_of r) chain b) of.blocks known;
    flags = flags_kept (table_of r) chain b of.flags;
  }

  replays : (chain : Chain) (cs : List Committed) (last : Chain) (differs : Option ℕ) (refused : Option CommitRefusal) →
      Replays (table_of r) chain cs last differs refused → IsChainOf r chain → AreBlocks cs → IsChainOf r last
  replays chain [] last differs refused h of known = subst (IsChainOf r) (sym h.0) of
  replays chain (c ∷ cs) last differs refused (inl h) of known =
      replays (chain ++ next_by (table_of r) chain c.block ∷ []) cs last h.1.1 refused h.1.4 (one_more chain c.block of known.0) known.1
  replays chain (c ∷ cs) last differs refused (inr h) of known = subst (IsChainOf r) (sym h.3) of

  lawful : (chain cs : Chain) → IsChainOf r chain → AreLawful (table_of r) chain cs → AreBlocks cs → IsChainOf r (chain ++ cs)
  lawful chain [] of are known = subst (IsChainOf r) (sym (append-nil chain)) of
  lawful chain (c ∷ cs) of are known =
      let next = subst (λ (d : Committed). IsChainOf r (chain ++ d ∷ [])) (sym (is_judged (table_of r) chain c are.1)) (one_more chain c.block of known.0) in
      subst (IsChainOf r) (append_assoc chain (c ∷ []) cs) (lawful (chain ++ c ∷ []) cs next are.2 known.1)

  pub of_replay : (known : Option (List ℕ)) (p : Replayed) → ReplaysFrom (table_of r) known p → IsChainOf r (chain_of p.chain)
  of_replay known p h =
      let of = h.2 in
      replays [] of.records (chain_of p.chain) p.differs p.refused of.replays (record { blocks = tt; flags = tt }) (blocks_stored h.0 of.records p.end of.gives)

  pub of_records : (bytes : List ℕ) (chain : Chain) (end : End) → Loads 1 bytes chain end → AreLawful (table_of r) [] chain → IsChainOf r chain
  of_records bytes chain end loads are = lawful [] chain (record { blocks = tt; flags = tt }) are (blocks_loaded 1 bytes chain end loads)
