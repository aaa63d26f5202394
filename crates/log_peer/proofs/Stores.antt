-- A file with the records of a chain.
use Rattle.std.proofs.Common.{◌≡◌, ℕ, ◌-◌, ◌+◌, inl, inr, Option, suc, List, [], ◌∷◌, ◌++◌, length, take, refl, sym, ap, subst, ◌∙◌, arith, append-nil}
use Rattle.std.specs.Prelude.{Ok, Err}
use Rattle.std.specs.List.{flat_map}
use Rattle.std.proofs.Math.Seq.{take-append_seam}
use Rattle.std.proofs.lemmas.Grind.{flat_map-append}
use Rattle.std.proofs.lemmas.List.{append_cancel_left, length-append}
use Rattle.fab_types.specs.Committed.{Committed}
use Rattle.fab_types.specs.declared.block.Block.{Block}
use Rattle.ledger_model.specs.Chain.{Chain}
use Rattle.ledger_model.specs.Judged.{BlockRule}
use Rattle.block_store.specs.Loading.{Holds, IsBehind, LoadsFrom}
use Rattle.block_store.specs.Record.{IsRecord, record_bytes}
use Rattle.block_store.specs.Store.{AreRecords, Loads}
use Rattle.block_store.specs.declared.end.End.{End}
use Rattle.block_store.specs.declared.end.End.TheVariants as end
use Rattle.block_store.specs.declared.appending.AppendFault.{AppendFault}
use Rattle.block_store.specs.declared.appending.AppendFault.TheVariants as append
use Rattle.store_devices.specs.History.{cut_back}
use Rattle.store_devices.specs.Places.{ends_of}
use Rattle.kept_state.specs.Keeping.{IsKept}
use Rattle.committer.proofs.Last.{length_map}
use Rattle.ledger_setting.specs.Judging.{next_by}
use Rattle.log_committer.specs.Committing.{Receives}
use Rattle.log_committer.specs.declared.receiving.Received.TheVariants as received
use Rattle.log_committer.specs.declared.refusal.ReceiveRefusal.{ReceiveRefusal}
use Rattle.log_committer.specs.declared.refusal.ReceiveRefusal.TheVariants.{Forked, Unfit}
use Rattle.log_peer.specs.Refusals.{append_refusal}
use Rattle.log_peer.specs.Storing.{IsOfMachine, IsOpened, IsStored, cut_of, disk_bytes, file_bytes, stored_chain}
use Rattle.log_peer.specs.declared.storing.StoredChain.{StoredChain}
use Rattle.log_peer.proofs.Opened.{records_more}

-- what is cut off behind whole records leaves them
pub cut_behind : (moved : List ℕ) (cs : Chain) (held : ℕ) → IsBehind [] moved cs held → cut_back held moved ≡ flat_map record_bytes cs
cut_behind moved cs held h =
    let whole = flat_map record_bytes cs in
    let size : length moved ≡ length whole + length h.0 = ap length h.1 ∙ length-append whole h.0 in
    let left : length moved - held ≡ length whole = omega (arith, size, h.2) in
    ap (λ n. take n moved) left ∙ ap (λ (t : List ℕ). take (length whole) t) h.1 ∙ take-append_seam whole h.0

-- a record more is that of the last block
pub one_record_more : (cs : Chain) (c : Committed) → flat_map record_bytes (cs ++ c ∷ []) ≡ flat_map record_bytes cs ++ record_bytes c
one_record_more cs c =
    flat_map-append record_bytes cs (c ∷ []) ∙ ap (λ (t : List ℕ). flat_map record_bytes cs ++ t) (append-nil (record_bytes c))

-- a refused block leaves the chain
pub refused_same : (rule : BlockRule) (old new : Chain) (block : Block) (r : ReceiveRefusal) → Receives rule old block (Err r) new → new ≡ old
refused_same rule old new block (Forked number) h = h.2
refused_same rule old new block (Unfit cause) h = h.2

-- a block that joined is the next one, with flags
pub joined_next : (rule : BlockRule) (old new : Chain) (block : Block) (c : Committed) → Receives rule old block (Ok received.Committed) new →
    new ≡ old ++ c ∷ [] → (c.block ≡ block) × (block.header.number ≡ suc (length old))
joined_next rule old new block c h joined =
    let next = next_by rule old block in
    let ends : c ∷ [] ≡ next ∷ [] = append_cancel_left old (c ∷ []) (next ∷ []) (sym joined ∙ h.1) in
    let same : c ≡ next = cc in
    (ap (λ (x : Committed). x.block) same, h.0.0.number ∙ ap suc (length_map (λ (x : Committed). x.block) old))

-- with its record the file has the records of the longer chain
pub stored_more : {D : Type 0} (old new : StoredChain D) (c : Committed) → IsStored old → IsKept new.committer.chain →
    stored_chain new ≡ stored_chain old ++ c ∷ [] → file_bytes new ≡ file_bytes old ++ record_bytes c → disk_bytes new ≡ file_bytes new →
    IsRecord c.block.header.number c → c.block.header.number ≡ suc (length (stored_chain old)) →
    ((before : Chain) → old.places ≡ ends_of before → c.block.header.number ≡ suc (length before) → new.places ≡ ends_of (before ++ c ∷ [])) → IsStored new
stored_more old new c stored kept grown moved synced is number places =
    let chain = stored_chain old in
    record {
      file = moved ∙ ap (λ (bytes : List ℕ). bytes ++ record_bytes c) stored.file ∙ sym (one_record_more chain c) ∙ ap (flat_map record_bytes) (sym grown);
      disk = synced;
      chain = record {
        kept = kept;
        blocks = refl;
        ends = places chain stored.chain.ends number ∙ ap ends_of (sym grown);
        records = subst (AreRecords 1) (sym grown) (records_more 1 chain c c.block.header.number stored.chain.records (omega (arith, number)) is);
      };
    }

pub append_is_of_machine : (fault : AppendFault) → IsOfMachine (append_refusal fault)
append_is_of_machine append.Memory = tt
append_is_of_machine (append.Device written) = tt

-- ---- what a store that is opened is

-- without damage all of it was read
whole_read : (moved bytes rest : List ℕ) → bytes ≡ moved ++ rest → rest ≡ [] → bytes ≡ moved
whole_read moved bytes rest split none = split ∙ ap (λ (t : List ℕ). moved ++ t) none ∙ append-nil moved

cut_length : (moved bytes rest : List ℕ) (cs : Chain) (held : ℕ) → bytes ≡ moved ++ rest → rest ≡ [] → IsBehind [] moved cs held →
    length bytes ≡ length (flat_map record_bytes cs) + held
cut_length moved bytes rest cs held split none h =
    let all = ap length (whole_read moved bytes rest split none ∙ h.1) in
    omega (arith, all, h.2, length-append (flat_map record_bytes cs) h.0)

pub opened_of : (known : Option (List ℕ)) (moved : List ℕ) (cs : Chain) (end : End) (held cut : ℕ) → LoadsFrom [] moved known cs end →
    Holds end [] moved cs held → cut_of end held ≡ Ok cut → IsOpened known cs cut
opened_of known moved cs end.Clean held cut from holds e =
    let same : held ≡ cut = cc e in
    record {
      bytes = from.bytes;
      held = from.held;
      records = inl from.gives;
      cut_off = cut_length moved from.bytes from.rest cs held from.read from.all holds.1 ∙ ap (λ (n : ℕ). length (flat_map record_bytes cs) + n) same;
    }
opened_of known moved cs end.Torn held cut from holds e =
    let same : held ≡ cut = cc e in
    record {
      bytes = from.bytes;
      held = from.held;
      records = inr from.gives;
      cut_off = cut_length moved from.bytes from.rest cs held from.read from.all holds ∙ ap (λ (n : ℕ). length (flat_map record_bytes cs) + n) same;
    }
opened_of known moved cs (end.Damaged n) held cut from holds e = absurd (cc e)
opened_of known moved cs end.DeviceFailed held cut from holds e = absurd (cc e)

pub opened_by : (known : Option (List ℕ)) (before moved : List ℕ) (cs chain : Chain) (end : End) (held cut : ℕ) → before ≡ [] →
    LoadsFrom before moved known cs end → Holds end before moved cs held → cut_of end held ≡ Ok cut → chain ≡ cs → IsOpened known chain cut
opened_by known before moved cs chain end held cut none from holds e all =
    let begun = subst (λ (b : List ℕ). LoadsFrom b moved known cs end) none from in
    let behind = subst (λ (b : List ℕ). Holds end b moved cs held) none holds in
    subst (λ (c : Chain). IsOpened known c cut) (sym all) (opened_of known moved cs end held cut begun behind e)

loaded_records : (n : ℕ) (bytes : List ℕ) (cs : Chain) (end : End) → Loads n bytes cs end → AreRecords n cs
loaded_records n bytes [] end h = tt
loaded_records n bytes (c ∷ cs) end h = (h.1, loaded_records (suc n) h.0 cs end h.3)

-- the records of a store are numbered from 1 on
pub records_of : (before moved : List ℕ) (known : Option (List ℕ)) (cs : Chain) (end : End) (held cut : ℕ) → LoadsFrom before moved known cs end →
    cut_of end held ≡ Ok cut → AreRecords 1 cs
records_of before moved known cs end.Clean held cut from e = loaded_records 1 from.bytes cs end.Clean from.gives
records_of before moved known cs end.Torn held cut from e = loaded_records 1 from.bytes cs end.Torn from.gives
records_of before moved known cs (end.Damaged n) held cut from e = absurd (cc e)
records_of before moved known cs end.DeviceFailed held cut from e = absurd (cc e)
