-- What the file of a store holds as it is opened, and as its chain grows.
use Rattle.std.proofs.Common.{◌≡◌, ℕ, suc, inl, inr, List, [], ◌∷◌, ◌++◌, length, Option, Some, None, IfSome, refl, sym, ap, subst, ◌∙◌, arith, append_assoc, append-nil, length-append}
use Rattle.std.specs.List.{flat_map}
use Rattle.std.specs.Io.KnownBytes.{Appends, Keeps}
use Rattle.std.proofs.KnownBytes.{Appends-nil, Appends-trans, Keeps-refl}
use Rattle.fab_types.specs.Committed.{Committed}
use Rattle.ledger_model.specs.Chain.{Chain}
use Rattle.block_store.specs.Record.{record_bytes}
use Rattle.block_store.specs.Store.{Loads}
use Rattle.block_store.specs.declared.end.End.{End}
use Rattle.block_store.specs.declared.end.End.TheVariants as end
use Rattle.block_store.proofs.OneAnswer.{one_answer}
use Rattle.store_devices.specs.StoreFile.{CutsBack, MayCutBack}
use Rattle.log_peer.specs.Holding.{Grows, HoldsRecords, KeepsRecords}
use Rattle.log_peer.specs.Storing.{AreRecordsOf, IsOpened}
use Rattle.log_peer.proofs.Stores.{cut_behind, one_record_more}

-- ---- records

loaded_first : (n : ℕ) (bytes : List ℕ) (cs : Chain) (e : End) → Loads n bytes cs e → (more : List ℕ) × (bytes ≡ flat_map record_bytes cs ++ more)
loaded_first n bytes [] e h = (bytes, refl)
loaded_first n bytes (c ∷ cs) e h =
    let later = loaded_first (suc n) h.0 cs e h.3 in (
      later.0,
      h.2 ∙ ap (λ (rest : List ℕ). record_bytes c ++ rest) later.1 ∙ sym (append_assoc (record_bytes c) (flat_map record_bytes cs) later.0),
    )

-- whole records stand first
records_first : (bytes : List ℕ) (cs : Chain) → AreRecordsOf bytes cs → (more : List ℕ) × (bytes ≡ flat_map record_bytes cs ++ more)
records_first bytes cs (inl h) = loaded_first 1 bytes cs end.Clean h
records_first bytes cs (inr h) = loaded_first 1 bytes cs end.Torn h

-- bytes are the records of one chain
one_store : (bytes : List ℕ) (cs ds : Chain) → AreRecordsOf bytes cs → AreRecordsOf bytes ds → cs ≡ ds
one_store bytes cs ds (inl h) (inl k) = (one_answer 1 bytes cs ds end.Clean end.Clean h k).0
one_store bytes cs ds (inl h) (inr k) = (one_answer 1 bytes cs ds end.Clean end.Torn h k).0
one_store bytes cs ds (inr h) (inl k) = (one_answer 1 bytes cs ds end.Torn end.Clean h k).0
one_store bytes cs ds (inr h) (inr k) = (one_answer 1 bytes cs ds end.Torn end.Torn h k).0

-- ---- a file that is opened

-- its end is cut off, and the records are left
pub opened_holds : (before after : Option (List ℕ)) (chain : Chain) (cut : ℕ) → IsOpened before chain cut → CutsBack cut before after →
    IfSome before (λ _. HoldsRecords after chain)
opened_holds None after chain cut opened cuts = tt
opened_holds (Some held) None chain cut opened cuts = absurd cuts
opened_holds (Some held) (Some left) chain cut opened cuts =
    let front = records_first opened.bytes chain opened.records in
    let size = ap length front.1 in
    let behind : length front.0 ≡ cut = omega (arith, size, opened.cut_off, length-append (flat_map record_bytes chain) front.0) in
    ap (λ (l : List ℕ). Some l) (cuts ∙ cut_behind held chain cut (front.0, sym opened.held ∙ front.1, behind))

pub kept_records : (before after : Option (List ℕ)) → Keeps before after → KeepsRecords before after
kept_records None after kept = tt
kept_records (Some held) None kept = absurd kept
kept_records (Some held) (Some left) kept =
    λ chain are. let front = records_first held chain are in (front.0, ap (λ (l : List ℕ). Some l) (kept ∙ front.1))

pub opened_keeps : (before after : Option (List ℕ)) (chain : Chain) (cut : ℕ) → IsOpened before chain cut → CutsBack cut before after →
    KeepsRecords before after
opened_keeps None after chain cut opened cuts = tt
opened_keeps (Some held) after chain cut opened cuts =
    λ other are.
    let same : chain ≡ other = one_store held chain other (subst (λ (bytes : List ℕ). AreRecordsOf bytes chain) opened.held opened.records) are in (
      [],
      opened_holds (Some held) after chain cut opened cuts ∙ ap (λ (l : List ℕ). Some l) (sym (append-nil (flat_map record_bytes chain)))
          ∙ ap (λ (c : Chain). Some (flat_map record_bytes c ++ [])) same,
    )

pub may_keep : (before after : Option (List ℕ)) (chain : Chain) (cut : ℕ) → IsOpened before chain cut → MayCutBack cut before after →
    KeepsRecords before after
may_keep before after chain cut opened (inl kept) = kept_records before after kept
may_keep before after chain cut opened (inr cuts) = opened_keeps before after chain cut opened cuts

pub same_records : (known : Option (List ℕ)) → KeepsRecords known known
same_records known = kept_records known known (Keeps-refl known)

-- the same of a file that was begun with, and of a chain that has these blocks
module _ {D : Type 0} (contents : D → Option (List ℕ)) (file begun left : D) (chain : Chain) (cut : ℕ) where
  pub file_holds : (own : Chain) → begun ≡ file → own ≡ chain → IsOpened (contents file) chain cut → CutsBack cut (contents begun) (contents left) →
      IfSome (contents file) (λ _. HoldsRecords (contents left) own)
  file_holds own same blocks opened cuts =
      subst (λ (c : Chain). IfSome (contents file) (λ _. HoldsRecords (contents left) c)) (sym blocks)
      (opened_holds (contents file) (contents left) chain cut opened (subst (λ (d : D). CutsBack cut (contents d) (contents left)) same cuts))

  pub file_keeps : begun ≡ file → IsOpened (contents file) chain cut → CutsBack cut (contents begun) (contents left) →
      KeepsRecords (contents file) (contents left)
  file_keeps same opened cuts =
      opened_keeps (contents file) (contents left) chain cut opened (subst (λ (d : D). CutsBack cut (contents d) (contents left)) same cuts)

  pub file_may_keep : (handed : D) → begun ≡ file → handed ≡ left → IsOpened (contents file) chain cut → MayCutBack cut (contents begun) (contents left) →
      KeepsRecords (contents file) (contents handed)
  file_may_keep handed same back opened may =
      subst (λ (d : D). KeepsRecords (contents file) (contents d)) (sym back)
      (may_keep (contents file) (contents left) chain cut opened (subst (λ (d : D). MayCutBack cut (contents d) (contents left)) same may))

-- what was cut off stays away
pub cut_kept : (count : ℕ) (before between after : Option (List ℕ)) → CutsBack count before between → Keeps between after → CutsBack count before after
cut_kept count None between after cuts kept = tt
cut_kept count (Some held) None after cuts kept = absurd cuts
cut_kept count (Some held) (Some left) None cuts kept = absurd kept
cut_kept count (Some held) (Some left) (Some others) cuts kept = kept ∙ cuts

-- ---- a file that grows

pub grows_none : (known : Option (List ℕ)) → Grows known known
grows_none known = ([], Appends-nil known)

pub grows_on : (before between after : Option (List ℕ)) → Grows before between → Grows between after → Grows before after
grows_on before between after f b = (f.0 ++ b.0, Appends-trans before between after f.0 b.0 f.1 b.1)

-- whole records stay where a file grows
pub keeps_on : (before between after : Option (List ℕ)) → KeepsRecords before between → Grows between after → KeepsRecords before after
keeps_on None between after keeps grows = tt
keeps_on (Some held) None after keeps grows = λ chain are. absurd (let e = (keeps chain are).1 in cc)
keeps_on (Some held) (Some some) None keeps grows = absurd grows.1
keeps_on (Some held) (Some some) (Some all) keeps grows =
    λ chain are.
    let first = keeps chain are in
    let bytes : some ≡ flat_map record_bytes chain ++ first.0 = let e = first.1 in cc in (
      first.0 ++ grows.0,
      ap (λ (l : List ℕ). Some l)
          (grows.1 ∙ ap (λ (l : List ℕ). l ++ grows.0) bytes ∙ append_assoc (flat_map record_bytes chain) first.0 grows.0),
    )

-- a record more
pub holds_more : (before after : Option (List ℕ)) (chain : Chain) (c : Committed) → HoldsRecords before chain → Appends before after (record_bytes c) →
    HoldsRecords after (chain ++ c ∷ [])
holds_more None after chain c holds appends = absurd (cc)
holds_more (Some held) None chain c holds appends = absurd appends
holds_more (Some held) (Some all) chain c holds appends =
    let bytes : held ≡ flat_map record_bytes chain = cc in
    ap (λ (l : List ℕ). Some l) (appends ∙ ap (λ (l : List ℕ). l ++ record_bytes c) bytes ∙ sym (one_record_more chain c))
