-- Of the VALID transactions of a block at most one is an amendment, and at most one an upgrade of a chaincode: its read is no newer than the
-- state before the block, so it is not current behind another one, whose write it would have had to see.
use Rattle.std.proofs.Common.{◌≡◌, ℕ, suc, ◌+◌, ◌<◌, ◌≤◌, Bool, true, false, not, cond, ◌&&◌, List, [], ◌∷◌, ◌++◌, length, Option, Some, None}
use Rattle.std.proofs.Common.{inl, inr, refl, sym, ap, subst, ◌∙◌, arith, option_map, append_assoc, append-nil}
use Rattle.std.specs.FinMap.{get}
use Rattle.std.specs.List.{AllByRecursion, count_by, list_all}
use Rattle.std.specs.Option.{option_or}
use Rattle.std.proofs.lemmas.Bool.{and_parts}
use Rattle.std.proofs.lemmas.Bool.Decides.{nat_tests}
use Rattle.std.proofs.lemmas.List.Recursion.{is_count_by}
use Rattle.std.proofs.lemmas.Option.{same_Some}
use Rattle.std.proofs.lemmas.Slice.Eq.{bytes_eq-Decides}
use Rattle.fab_types.specs.Memberships.{membership_key}
use Rattle.fab_types.specs.Order.{is_shown}
use Rattle.fab_types.specs.Proposals.{definition_key}
use Rattle.fab_types.specs.Spelling.{definition_bytes, membership_bytes}
use Rattle.fab_types.specs.Touched.{is_older}
use Rattle.fab_types.specs.Payloads.{Payload}
use Rattle.fab_types.specs.declared.envelope.Envelope.{Envelope}
use Rattle.fab_types.specs.declared.items.ReadItem.{ReadItem}
use Rattle.fab_types.specs.declared.proposal.Proposal.{Proposal}
use Rattle.fab_types.specs.declared.proposal.Proposal.TheVariants as proposal
use Rattle.wire.specs.Ids.{id_of}
use Rattle.ledger_model.specs.Chain.{Bytes, Chain, Committed, Flag, Placed, Valid, Version, history, is_valid, placed_from, transactions_from}
use Rattle.ledger_model.specs.Defined.{AreOf, IsOfOther, Puts}
use Rattle.ledger_model.specs.Flags.{reads_current, same_version, version_at}
use Rattle.ledger_model.specs.Judged.{AreFlagsBy, FlagRule, HasFlagsBy, block_of, by_table}
use Rattle.ledger_model.specs.State.{last_write, state, value_and_version, write_of, write_to}
use Rattle.ledger_model.specs.Views.{Versioned, values_of}
use Rattle.ledger_model.proofs.Checks.{optional_same, valid_line}
use Rattle.ledger_model.proofs.Defined.{kept_from_before}
use Rattle.ledger_model.proofs.State.{get-state, last_write-append}
use Rattle.ledger_model.proofs.Versions.{Member, in_block, kept_some, member_append, writer, written_by}
use Rattle.endorsement_policy.specs.Endorsed.{Listed, is_endorsed, is_endorsed_as, is_no_newer, reads_no_newer}
use Rattle.endorsement_policy.specs.Membership.{listed_in}
use Rattle.endorsement_policy.proofs.Parts.{IsPut, amend_met, paid, upgrade_met}
use Rattle.ledger_setting.specs.Amended.{IsOnceInABlock, is_amendment, is_upgrade_of, is_valid_such}
use Rattle.ledger_setting.specs.Rule.{table_of}
use Rattle.ledger_setting.proofs.Standing.{of_member, writes_valid}
use Rattle.ledger_setting.proofs.Written.{IsWritten, valid_flag, written, written_here}

-- ---- versions

-- a transaction of a chain stands in one of its blocks
below : (block : ℕ) (chain : Chain) (u : Placed) → Member u (placed_from block chain) → u.version.block < block + length chain
below block [] u h = absurd h
below block (c ∷ chain) u h =
    elim (member_append u (transactions_from block 0 c.block.envelopes c.flags) (placed_from (suc block) chain) h) [
      | inl m ↦ let here = in_block block 0 c.block.envelopes c.flags u m in omega arith
      | inr m ↦ let less = below (suc block) chain u m in omega arith
    ]

-- so the version that stands at a key
stands_below : (before : Chain) (key : Bytes) (s : Version) → version_at (state (history before)) key ≡ Some s → s.block < length before + 1
stands_below before key s e =
    let ts = history before in
    by_entry (value_and_version (last_write ts key)) refl (ap (option_map (λ (x : Bytes × Version). x.1)) (sym (get-state ts key)) ∙ e)
  where
    by_entry : (o : Option (Bytes × Version)) → value_and_version (last_write (history before) key) ≡ o → option_map (λ x. x.1) o ≡ Some s →
        s.block < length before + 1
    by_entry None is f = absurd cc
    by_entry (Some x) is f =
        let by = writer (history before) key (x.1, Some x.0) (kept_some (last_write (history before) key) x is) in
        let wrote = written_by by.by key (x.1, Some x.0) by.is in
        let less = below 1 before by.by by.member in
        let same : by.by.version ≡ s = wrote.0 ∙ same_Some x.1 s f in
        let block = ap (λ (v : Version). v.block) same in
        omega arith

older_block : (a b : Version) → a.block < b.block → is_older a b ≡ true
older_block a b h = grind (arith, nat_tests)

not_both : (b : Bool) → b ≡ true → not b ≡ true → ⊥
not_both true e f = absurd cc
not_both false e f = absurd cc

-- what is no newer than what stands before a block is of another block
of_other : (before : Chain) (key : Bytes) (v : Option Version) → is_no_newer (version_at (state (history before)) key) v ≡ true →
    IsOfOther (length before + 1) v
of_other before key v h = by_standing (version_at (state (history before)) key) refl v h
  where
    by_standing : (o : Option Version) → version_at (state (history before)) key ≡ o → (v : Option Version) → is_no_newer o v ≡ true →
        IsOfOther (length before + 1) v
    by_standing o is None f = tt
    by_standing None is (Some w) f = absurd cc
    by_standing (Some s) is (Some w) f = λ same.
        let less = stands_below before key s is in
        not_both (is_older s w) (older_block s w (omega arith)) f

-- ---- transactions of one kind, each of which reads and writes its key alone

-- what one of the kind reads and writes
record IsOfKind (key : Bytes) (m : Versioned) (p : Payload) : Type 0 where
  value : Bytes
  is : IsPut key value p
  older : reads_no_newer m p ≡ true

some_or : (a b : Option (Version × Option Bytes)) (w : Version × Option Bytes) → b ≡ Some w → (x : Version × Option Bytes) × (option_or a b ≡ Some x)
some_or None b w e = (w, e)
some_or (Some x) b w e = (x, refl)

module _ (listed : Listed) (before : Chain) (key : Bytes) (hidden : is_shown key ≡ false) (is : Proposal → Bool)
    (kind : (q : Proposal) (e : Envelope) → is q ≡ true →
    is_endorsed_as q (listed_in listed (values_of (state (history before)))) (state (history before)) e ≡ true →
    IsOfKind key (state (history before)) e.payload) where
  abbrev there : Versioned
  there = state (history before)

  abbrev number : ℕ
  number = length before + 1

  abbrev endorsed : Envelope → Bool
  endorsed e = is_endorsed listed there e

  abbrev rule : FlagRule
  rule = by_table listed.edition id_of endorsed (history before)

  abbrev IsFlagged : List Placed → Placed → Type 0
  IsFlagged done t = t.flag ≡ rule (history before ++ done) t.envelope

  abbrev IsHere : Placed → Type 0
  IsHere t = t.version.block ≡ number

  puts : (q : Proposal) (o : Option (Option Bytes)) → IsWritten key hidden q o → Puts o
  puts (proposal.Call c) o h = subst Puts (sym h) tt
  puts (proposal.Upgrade u) o h = elim h [ inl none ↦ subst Puts (sym none) tt | inr put ↦ subst Puts (sym put.1) tt ]
  puts (proposal.Amend a) o h = elim h [ inl none ↦ subst Puts (sym none) tt | inr put ↦ subst Puts (sym put.1) tt ]

  are_of : (done : List Placed) (t : Placed) → IsHere t → IsFlagged done t → AreOf number key t
  are_of done t here flagged = record {
    block = here;
    puts = λ v.
        let line = valid_line listed.edition id_of (history before) (history before ++ done) (endorsed t.envelope) t.envelope.payload
        (sym flagged ∙ valid_flag t.flag v) in
        let q = t.envelope.payload.proposal in
        puts q (write_to t.envelope.payload.writes key) (written key hidden q (listed_in listed (values_of there)) there t.envelope line.0);
  }

  -- a VALID one has a write of its key
  abbrev IsWritten_in : List Placed → Type 0
  IsWritten_in done = (w : Version × Option Bytes) × (last_write done key ≡ Some w)

  more : (done : List Placed) (t : Placed) → IsWritten_in done → IsWritten_in (done ++ t ∷ [])
  more done t h =
      let later = some_or (write_of t key) (last_write done key) h.0 h.1 in
      (later.0, last_write-append done (t ∷ []) key ∙ later.1)

  first : (done : List Placed) (t : Placed) → is_valid t.flag ≡ true → (value : Bytes) → write_to t.envelope.payload.writes key ≡ Some (Some value) →
      IsWritten_in (done ++ t ∷ [])
  first done t v value wrote =
      let w : Version × Option Bytes = (t.version, Some value) in
      let here : write_of t key ≡ Some w =
      ap (λ (b : Bool). cond b (option_map (λ o. (t.version, o)) (write_to t.envelope.payload.writes key)) None) v
      ∙ ap (option_map (λ (o : Option Bytes). (t.version, o))) wrote in
      (w, last_write-append done (t ∷ []) key ∙ ap (λ o. option_or o (last_write done key)) here)

  -- the last write of a block's transactions is of that block, and puts a value
  block_write : (done : List Placed) (w : Version × Option Bytes) → AllByRecursion (AreOf number key) done → last_write done key ≡ Some w →
      (w.0.block ≡ number) × Puts (Some w.1)
  block_write done w are e =
      let by = writer done key w e in
      let wrote = written_by by.by key w by.is in
      let of : AreOf number key by.by = of_member (AreOf number key) by.by done are by.member in
      let valid : is_valid by.by.flag ≡ true = writes_valid (is_valid by.by.flag) _ w by.is in (
        sym (ap (λ (v : Version). v.block) wrote.0) ∙ of.block,
        subst Puts wrote.1 (of.puts valid),
      )

  -- behind a write in its block none of the kind is VALID
  clash : (done : List Placed) (w : Version × Option Bytes) → AllByRecursion (AreOf number key) done → last_write done key ≡ Some w →
      get (state (history before ++ done)) key ≡ get there key → ⊥
  clash done w are e same = by_value w.1 refl (block_write done w are e).1
    where
      by_value : (o : Option Bytes) → w.1 ≡ o → Puts (Some o) → ⊥
      by_value None is h = h
      by_value (Some x) is h =
          let now : get (state (history before ++ done)) key ≡ Some (x, w.0) =
          get-state (history before ++ done) key
          ∙ ap value_and_version (last_write-append (history before) done key ∙ ap (λ o. option_or o (last_write (history before) key)) e)
          ∙ ap (option_map (λ (v : Bytes). (v, w.0))) is in
          let stood : version_at there key ≡ Some w.0 = ap (option_map (λ (y : Bytes × Version). y.1)) (sym same ∙ now) in
          let less = stands_below before key w.0 stood in
          let block = (block_write done w are e).0 in
          omega arith

  alone : (done : List Placed) (t : Placed) → AllByRecursion (AreOf number key) done → IsFlagged done t → t.flag ≡ Valid →
      is t.envelope.payload.proposal ≡ true → IsWritten_in done → ⊥
  alone done t are flagged v such wrote =
      let p = t.envelope.payload in
      let line = valid_line listed.edition id_of (history before) (history before ++ done) (endorsed t.envelope) p (sym flagged ∙ v) in
      let of = kind p.proposal t.envelope such line.0 in
      let read = of.is.read in
      let r = read.item in
      let now : (same_version (version_at (state (history before ++ done)) r.key) r.version && true) ≡ true =
      ap (reads_current (state (history before ++ done))) (sym read.only) ∙ line.1.0 in
      let old : (is_no_newer (version_at there r.key) r.version && true) ≡ true =
      ap (λ (rs : List ReadItem). list_all (λ x. is_no_newer (version_at there x.key) x.version) rs) (sym read.only) ∙ of.older in
      let current : version_at (state (history before ++ done)) key ≡ r.version =
      ap (version_at (state (history before ++ done))) (sym read.key_is)
      ∙ optional_same (version_at (state (history before ++ done)) r.key) r.version (and_parts _ true now).0 in
      let no_newer : is_no_newer (version_at there key) r.version ≡ true =
      ap (λ (k : Bytes). is_no_newer (version_at there k) r.version) (sym read.key_is) ∙ (and_parts _ true old).0 in
      clash done wrote.0 are wrote.1
      (kept_from_before number key (history before) done r.version are (of_other before key r.version no_newer) current)

  -- how many of the kind are VALID
  abbrev such_count : List Placed → ℕ
  such_count [] = 0
  such_count (t ∷ ts) = cond (is_valid_such is t) (1 + such_count ts) (such_count ts)

  flagged_on : (done : List Placed) (t : Placed) (ts : List Placed) → HasFlagsBy rule ((history before ++ done) ++ t ∷ []) ts →
      HasFlagsBy rule (history before ++ (done ++ t ∷ [])) ts
  flagged_on done t ts h = subst (λ (d : List Placed). HasFlagsBy rule d ts) (append_assoc (history before) done (t ∷ [])) h

  are_more : (done : List Placed) (t : Placed) → AllByRecursion (AreOf number key) done → AreOf number key t →
      AllByRecursion (AreOf number key) (done ++ t ∷ [])
  are_more [] t h k = (k, tt)
  are_more (d ∷ done) t h k = (h.0, are_more done t h.1 k)

  none_after : (done ts : List Placed) → AllByRecursion (AreOf number key) done → AllByRecursion IsHere ts →
      HasFlagsBy rule (history before ++ done) ts → IsWritten_in done → such_count ts ≡ 0
  none_after done [] are here flags wrote = refl
  none_after done (t ∷ ts) are here flags wrote =
      let rest = none_after (done ++ t ∷ []) ts (are_more done t are (are_of done t here.0 flags.0)) here.1 (flagged_on done t ts flags.1)
      (more done t wrote) in
      elim (is_valid_such is t) as (λ b. is_valid_such is t ≡ b → cond b (1 + such_count ts) (such_count ts) ≡ 0) [
        | true ↦ λ e. (let such = and_parts (is_valid t.flag) (is t.envelope.payload.proposal) e in
            absurd (alone done t are flags.0 (valid_flag t.flag such.0) such.1 wrote))
        | false ↦ λ e. rest
      ] refl

  -- behind the first one
  behind : (done : List Placed) (t : Placed) (ts : List Placed) → AllByRecursion (AreOf number key) done →
      AllByRecursion (AreOf number key) (done ++ t ∷ []) → AllByRecursion IsHere (t ∷ ts) →
      HasFlagsBy rule (history before ++ done) (t ∷ ts) → is_valid_such is t ≡ true → such_count ts ≡ 0
  behind done t ts are longer here flags e =
      let such = and_parts (is_valid t.flag) (is t.envelope.payload.proposal) e in
      let p = t.envelope.payload in
      let line = valid_line listed.edition id_of (history before) (history before ++ done) (endorsed t.envelope) p (sym flags.0 ∙ valid_flag t.flag such.0) in
      let of = kind p.proposal t.envelope such.1 line.0 in
      let wrote = first done t such.0 of.value (written_here key of.value p.writes of.is.put) in
      none_after (done ++ t ∷ []) ts longer here.1 (flagged_on done t ts flags.1) wrote

  one_at_most : (done ts : List Placed) → AllByRecursion (AreOf number key) done → AllByRecursion IsHere ts →
      HasFlagsBy rule (history before ++ done) ts → such_count ts ≤ 1
  one_at_most done [] are here flags = omega arith
  one_at_most done (t ∷ ts) are here flags =
      let longer = are_more done t are (are_of done t here.0 flags.0) in
      let rest = one_at_most (done ++ t ∷ []) ts longer here.1 (flagged_on done t ts flags.1) in
      elim (is_valid_such is t) as (λ b. is_valid_such is t ≡ b → cond b (1 + such_count ts) (such_count ts) ≤ 1) [
        | true ↦ λ e. (let none : such_count ts ≡ 0 = behind done t ts are longer here flags e in omega arith)
        | false ↦ λ e. rest
      ] refl

  of_block : (place : ℕ) (es : List Envelope) (fs : List Flag) → AllByRecursion IsHere (transactions_from number place es fs)
  of_block place [] fs = tt
  of_block place (e ∷ es) [] = tt
  of_block place (e ∷ es) (f ∷ fs) = (refl, of_block (suc place) es fs)

  once : (block : Committed) → HasFlagsBy rule (history before) (block_of before block) →
      count_by (is_valid_such is) (block_of before block) ≤ 1
  once block flags =
      let ts = block_of before block in
      subst (λ (n : ℕ). n ≤ 1) (is_count_by such_count (is_valid_such is) refl (λ t us. refl) ts)
      (one_at_most [] ts tt (of_block 0 block.block.envelopes block.flags)
      (subst (λ (d : List Placed). HasFlagsBy rule d ts) (sym (append-nil (history before))) flags))

-- the flags of one block
flags_at : (listed : Listed) (done before : Chain) (block : Committed) (after : Chain) → AreFlagsBy (table_of listed) done (before ++ block ∷ after) →
    HasFlagsBy (table_of listed (history (done ++ before))) (history (done ++ before)) (block_of (done ++ before) block)
flags_at listed done [] block after h =
    subst (λ (d : Chain). HasFlagsBy (table_of listed (history d)) (history d) (block_of d block)) (sym (append-nil done)) h.0
flags_at listed done (c ∷ before) block after h =
    subst (λ (d : Chain). HasFlagsBy (table_of listed (history d)) (history d) (block_of d block)) (append_assoc done (c ∷ []) before)
    (flags_at listed (done ++ c ∷ []) before block after h.1)

-- ---- the two kinds

amend_kind : (listed : Listed) (before : Chain) (q : Proposal) (e : Envelope) → is_amendment q ≡ true →
    is_endorsed_as q (listed_in listed (values_of (state (history before)))) (state (history before)) e ≡ true →
    IsOfKind membership_key (state (history before)) e.payload
amend_kind listed before (proposal.Call c) e such met = absurd cc
amend_kind listed before (proposal.Upgrade u) e such met = absurd cc
amend_kind listed before (proposal.Amend a) e such met =
    let h = amend_met (listed_in listed (values_of (state (history before)))) (state (history before)) a e met in
    record { value = membership_bytes a.membership; is = paid membership_key (membership_bytes a.membership) e.payload h.payload; older = h.older }

upgrade_kind : (listed : Listed) (before : Chain) (name : Bytes) (q : Proposal) (e : Envelope) → is_upgrade_of name q ≡ true →
    is_endorsed_as q (listed_in listed (values_of (state (history before)))) (state (history before)) e ≡ true →
    IsOfKind (definition_key name) (state (history before)) e.payload
upgrade_kind listed before name (proposal.Call c) e such met = absurd cc
upgrade_kind listed before name (proposal.Upgrade u) e such met =
    let h = upgrade_met (listed_in listed (values_of (state (history before)))) (state (history before)) u e met in
    let same : u.chaincode ≡ name = (bytes_eq-Decides u.chaincode name).0 such in
    let v = definition_bytes u.definition in
    record {
      value = v;
      is = subst (λ (n : Bytes). IsPut (definition_key n) v e.payload) same (paid (definition_key u.chaincode) v e.payload h.payload);
      older = h.older;
    }
upgrade_kind listed before name (proposal.Amend a) e such met = absurd cc

pub one_amendment : (listed : Listed) → IsOnceInABlock listed is_amendment
one_amendment listed before block after flags =
    once listed before membership_key refl is_amendment (amend_kind listed before) block (flags_at listed [] before block after flags)

pub one_upgrade : (listed : Listed) (name : Bytes) → IsOnceInABlock listed (is_upgrade_of name)
one_upgrade listed name before block after flags =
    once listed before (definition_key name) refl (is_upgrade_of name) (upgrade_kind listed before name) block (flags_at listed [] before block after flags)
