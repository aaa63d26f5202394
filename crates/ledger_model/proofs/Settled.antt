-- Under rules 2 a VALID transaction read nothing that its own block wrote.
use Rattle.std.proofs.Common.{◌≡◌, Bool, true, false, cond, not, ◌||◌, List, [], ◌∷◌, ◌++◌, Option, Some, None, refl, sym, ap, ◌∙◌, subst}
use Rattle.std.proofs.Common.{append_assoc, append-nil, is_some, option_map}
use Rattle.std.proofs.Math.Seq.{drop-append_seam}
use Rattle.std.specs.Option.{option_or}
use Rattle.std.specs.Ordering.{eq_by_cmp}
use Rattle.std.specs.FinMap.{get}
use Rattle.std.specs.List.{AllByRecursion, list_all, list_any}
use Rattle.fab_types.specs.Touched.{has_read}
use Rattle.fab_types.specs.declared.edition.Edition.TheVariants.{Second}
use Rattle.fab_types.specs.declared.items.ReadItem.{ReadItem}
use Rattle.fab_types.specs.declared.items.WriteItem.{WriteItem}
use Rattle.fab_types.specs.declared.proposal.Proposal.{Proposal}
use Rattle.fab_types.specs.Payloads.{Payload}
use Rattle.ledger_model.specs.Chain.{Bytes, Version, Envelope, Valid, Chain, Placed, history, is_valid}
use Rattle.ledger_model.specs.Views.{key_cmp}
use Rattle.ledger_model.specs.State.{last_write, state, write_of, write_to}
use Rattle.ledger_model.specs.Flags.{is_unwritten, reads_settled}
use Rattle.ledger_model.specs.Judged.{AreFlagsBy, HasFlagsBy, block_of, by_table, table}
use Rattle.ledger_model.specs.Settled.{AllSettled, AreSettled, IsSettled, reads_write_of}
use Rattle.ledger_model.proofs.Checks.{and_parts, settled_line, valid_line}
use Rattle.ledger_model.proofs.Kept.{reads_at, same_unwritten}

-- ---- a key of no write

none_of : {A : Type 0} (a b : Option A) → option_or a b ≡ None → (a ≡ None) × (b ≡ None)
none_of None b e = (refl, e)
none_of (Some x) b e = absurd (cc)

-- no write of these is of the key
other_keys : (ws : List WriteItem) (key : Bytes) → write_to ws key ≡ None → AllByRecursion (λ w. eq_by_cmp key_cmp key w.key ≡ false) ws
other_keys [] key e = tt
other_keys (w ∷ ws) key e =
    let parts = none_of (write_to ws key) (cond (eq_by_cmp key_cmp key w.key) (Some w.value) None) e in
    (no_value (eq_by_cmp key_cmp key w.key) w.value parts.1, other_keys ws key parts.0)
  where
    no_value : (b : Bool) (value : Option Bytes) → cond {A = Option (Option Bytes)} b (Some value) None ≡ None → b ≡ false
    no_value true value h = absurd (cc)
    no_value false value h = refl

-- so it is with each VALID transaction of these
abbrev IsOther : Bytes → Placed → Type 0
IsOther key t = t.flag ≡ Valid → AllByRecursion (λ w. eq_by_cmp key_cmp key w.key ≡ false) t.envelope.payload.writes

others : (ts : List Placed) (key : Bytes) → last_write ts key ≡ None → AllByRecursion (IsOther key) ts
others [] key e = tt
others (t ∷ ts) key e =
    let parts = none_of (last_write ts key) (write_of t key) e in (
      (λ v. other_keys t.envelope.payload.writes key (no_write (is_valid t.flag) (write_to t.envelope.payload.writes key) (ap is_valid v) parts.1)),
      others ts key parts.0,
    )
  where
    no_write : (b : Bool) (o : Option (Option Bytes)) → b ≡ true → cond b (option_map {U = Version × Option Bytes} (λ w. (t.version, w)) o) None ≡ None →
        o ≡ None
    no_write true None v h = refl
    no_write true (Some w) v h = absurd (cc)
    no_write false o v h = absurd (cc)

-- ---- reads of keys that were not written

unwritten_none : {A : Type 0} (o : Option A) → not (is_some o) ≡ true → o ≡ None
unwritten_none None e = refl
unwritten_none (Some x) e = absurd (cc)

-- each key that is read has no write
each_none : (ts : List Placed) (rs : List ReadItem) → list_all (λ r. is_unwritten ts r.key) rs ≡ true → AllByRecursion (λ r. last_write ts r.key ≡ None) rs
each_none ts [] h = tt
each_none ts (r ∷ rs) h =
    let parts = and_parts (is_unwritten ts r.key) (list_all (λ s. is_unwritten ts s.key) rs) h in
    (unwritten_none (last_write ts r.key) parts.0, each_none ts rs parts.1)

-- what holds of each pair of a read and a transaction, by transactions
abbrev IsOtherOf : List ReadItem → Placed → Type 0
IsOtherOf rs t = AllByRecursion (λ r. IsOther r.key t) rs

with_read : (r : ReadItem) (rs : List ReadItem) (ts : List Placed) → AllByRecursion (IsOther r.key) ts → AllByRecursion (IsOtherOf rs) ts →
    AllByRecursion (IsOtherOf (r ∷ rs)) ts
with_read r rs [] h k = tt
with_read r rs (t ∷ ts) h k = ((h.0, k.0), with_read r rs ts h.1 k.1)

no_reads : (ts : List Placed) → AllByRecursion (IsOtherOf []) ts
no_reads [] = tt
no_reads (t ∷ ts) = (tt, no_reads ts)

by_transactions : (ts : List Placed) (rs : List ReadItem) → AllByRecursion (λ r. last_write ts r.key ≡ None) rs → AllByRecursion (IsOtherOf rs) ts
by_transactions ts [] h = no_reads ts
by_transactions ts (r ∷ rs) h = with_read r rs ts (others ts r.key h.0) (by_transactions ts rs h.1)

-- a key that none of these reads is of
unread : (rs : List ReadItem) (key : Bytes) → AllByRecursion (λ r. eq_by_cmp key_cmp r.key key ≡ false) rs →
    list_any (λ r. eq_by_cmp key_cmp r.key key) rs ≡ false
unread [] key h = refl
unread (r ∷ rs) key h = let rest = unread rs key h.1 in λ i. h.0 i || rest i

heads : (w : WriteItem) (ws : List WriteItem) (rs : List ReadItem) →
    AllByRecursion (λ r. AllByRecursion (λ x. eq_by_cmp key_cmp r.key x.key ≡ false) (w ∷ ws)) rs →
    AllByRecursion (λ r. eq_by_cmp key_cmp r.key w.key ≡ false) rs × AllByRecursion (λ r. AllByRecursion (λ x. eq_by_cmp key_cmp r.key x.key ≡ false) ws) rs
heads w ws [] h = (tt, tt)
heads w ws (r ∷ rs) h = let rest = heads w ws rs h.1 in ((h.0.0, rest.0), (h.0.1, rest.1))

none_read : (p : Payload) (ws : List WriteItem) →
    AllByRecursion (λ r. AllByRecursion (λ w. eq_by_cmp key_cmp r.key w.key ≡ false) ws) p.reads → list_any (λ w. has_read p w.key) ws ≡ false
none_read p [] h = refl
none_read p (w ∷ ws) h =
    let parts = heads w ws p.reads h in
    let first = unread p.reads w.key parts.0 in
    let rest = none_read p ws parts.1 in
    λ i. first i || rest i

given_valid : (rs : List ReadItem) (t : Placed) → t.flag ≡ Valid → IsOtherOf rs t →
    AllByRecursion (λ r. AllByRecursion (λ w. eq_by_cmp key_cmp r.key w.key ≡ false) t.envelope.payload.writes) rs
given_valid [] t v h = tt
given_valid (r ∷ rs) t v h = (h.0 v, given_valid rs t v h.1)

unwritten_by : (p : Payload) (ts : List Placed) → AllByRecursion (IsOtherOf p.reads) ts →
    AllByRecursion (λ t. t.flag ≡ Valid → reads_write_of p t.envelope.payload ≡ false) ts
unwritten_by p [] h = tt
unwritten_by p (t ∷ ts) h =
    ((λ v. none_read p t.envelope.payload.writes (given_valid p.reads t v h.0)), unwritten_by p ts h.1)

same_each : (before ts : List Placed) (rs : List ReadItem) → AllByRecursion (λ r. last_write ts r.key ≡ None) rs →
    AllByRecursion (λ r. get (state (before ++ ts)) r.key ≡ get (state before) r.key) rs
same_each before ts [] h = tt
same_each before ts (r ∷ rs) h = (same_unwritten before ts r.key h.0, same_each before ts rs h.1)

-- ---- the flags of a block

module _ (id : Proposal → Bytes) (endorsed : Envelope → Bool) (before : List Placed) where
  settled : (so_far : List Placed) (t : Placed) → t.flag ≡ by_table Second id endorsed before (before ++ so_far) t.envelope → t.flag ≡ Valid →
      IsSettled before so_far t.envelope.payload
  settled so_far t flagged v =
      let p = t.envelope.payload in
      let earlier = before ++ so_far in
      let line = valid_line Second id before earlier (endorsed t.envelope) p (sym flagged ∙ v) in
      let asked = settled_line Second id before earlier (endorsed t.envelope) p (sym flagged ∙ v) in
      let all : list_all (λ r. is_unwritten so_far r.key) p.reads ≡ true =
      ap (λ ts. reads_settled Second ts p.reads) (sym (drop-append_seam before so_far)) ∙ asked.0 in
      let none = each_none so_far p.reads all in
      let same = reads_at (state earlier) (state before) p.reads (same_each before so_far p.reads none) in
      record {
        current = record { reads = sym same ∙ line.1.0; ranges = asked.1 };
        unwritten = unwritten_by p so_far (by_transactions so_far p.reads none);
      }

  settled_block : (so_far ts : List Placed) → HasFlagsBy (by_table Second id endorsed before) (before ++ so_far) ts → AllSettled before so_far ts
  settled_block so_far [] h = tt
  settled_block so_far (t ∷ ts) h = (
    settled so_far t h.0,
    settled_block (so_far ++ t ∷ []) ts
        (subst (λ d. HasFlagsBy (by_table Second id endorsed before) d ts) (append_assoc before so_far (t ∷ [])) h.1),
  )

pub settled_chain : (id : Proposal → Bytes) (endorsed : List Placed → Envelope → Bool) (before chain : Chain) →
    AreFlagsBy (table Second id endorsed) before chain → AreSettled before chain
settled_chain id endorsed before [] h = tt
settled_chain id endorsed before (c ∷ cs) h =
    let ts = history before in
    let flags = subst (λ d. HasFlagsBy (by_table Second id (endorsed ts) ts) d (block_of before c)) (sym (append-nil ts)) h.0 in
    (settled_block id (endorsed ts) ts [] (block_of before c) flags, settled_chain id endorsed (before ++ c ∷ []) cs h.1)
