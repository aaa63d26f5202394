-- Where a VALID transaction stands in a chain with the table's flags, and who wrote a key last.
use Rattle.std.proofs.Common.{◌≡◌, ℕ, zero, suc, ◌+◌, Bool, true, false, cond, List, [], ◌∷◌, ◌++◌, length, length-append, Option, Some, None, refl, sym}
use Rattle.std.proofs.Common.{ap, subst, ◌∙◌, inl, inr, arith, slice_get, option_map, append_assoc}
use Rattle.std.specs.FinMap.{get}
use Rattle.std.specs.List.{AllByRecursion}
use Rattle.std.proofs.lemmas.Option.{same_Some}
use Rattle.fab_types.specs.declared.envelope.Envelope.{Envelope}
use Rattle.wire.specs.Ids.{id_of}
use Rattle.ledger_model.specs.Chain.{Bytes, Version, Valid, Chain, Committed, Placed, placed_from, history, is_valid}
use Rattle.ledger_model.specs.Judged.{AllEndorsed, AreEndorsed, AreFlagsBy, block_of}
use Rattle.ledger_model.specs.State.{state, write_to, last_write}
use Rattle.ledger_model.proofs.Judged.{judged_endorsed}
use Rattle.ledger_model.proofs.State.{get-state}
use Rattle.ledger_model.proofs.Versions.{Member, kept_some, none_some, writer, written_by}
use Rattle.endorsement_policy.specs.Endorsed.{Listed, is_endorsed}
use Rattle.endorsement_policy.specs.Judge.{plain_after}
use Rattle.endorsement_policy.proofs.Sources.{value_after}
use Rattle.ledger_setting.specs.Amended.{IsPutBy}
use Rattle.ledger_setting.specs.Rule.{table_of}
use Rattle.ledger_setting.proofs.Written.{valid_flag}

each_at : {X : Type 0} (P : X → Type 0) (xs : List X) → ((i : ℕ) (x : X) → slice_get xs i ≡ Some x → P x) → AllByRecursion P xs
each_at P [] h = tt
each_at P (x ∷ xs) h = (h 0 x refl, each_at P xs (λ i y e. h (suc i) y e))

both_parts : {X : Type 0} (P : X → Type 0) (xs ys : List X) → AllByRecursion P xs → AllByRecursion P ys → AllByRecursion P (xs ++ ys)
both_parts P [] ys h k = k
both_parts P (x ∷ xs) ys h k = (h.0, both_parts P xs ys h.1 k)

pub of_member : {X : Type 0} (P : X → Type 0) (x : X) (xs : List X) → AllByRecursion P xs → Member x xs → P x
of_member P x [] h m = absurd m
of_member P x (y ∷ xs) h m = elim m [ inl e ↦ subst P (sym e) h.0 | inr later ↦ of_member P x xs h.1 later ]

endorsed_at : (endorsed : Envelope → Bool) (ts : List Placed) → AllEndorsed endorsed ts → (i : ℕ) (t : Placed) → slice_get ts i ≡ Some t → t.flag ≡ Valid →
    endorsed t.envelope ≡ true
endorsed_at endorsed [] h i t e v = absurd (none_some t e)
endorsed_at endorsed (u ∷ ts) h zero t e v =
    let same : u ≡ t = same_Some u t e in
    subst (λ (x : Placed). x.flag ≡ Valid → endorsed x.envelope ≡ true) same h.0 v
endorsed_at endorsed (u ∷ ts) h (suc i) t e v = endorsed_at endorsed ts h.1 i t e v

-- where a VALID transaction stands in a chain, and by whom it is endorsed there
pub record Stands (listed : Listed) (chain : Chain) (t : Placed) : Type 0 where
  pub before : Chain
  pub block : Committed
  pub after : Chain
  pub whole : chain ≡ before ++ block ∷ after
  pub place : ℕ
  pub here : slice_get (block_of before block) place ≡ Some t
  pub endorsed : is_endorsed listed (state (history before)) t.envelope ≡ true

module _ (listed : Listed) (chain : Chain) where
  abbrev IsStanding : Placed → Type 0
  IsStanding t = t.flag ≡ Valid → Stands listed chain t

  each_stands : (before cs : Chain) → chain ≡ before ++ cs → AreEndorsed (λ ts. is_endorsed listed (state ts)) before cs →
      AllByRecursion IsStanding (placed_from (length before + 1) cs)
  each_stands before [] whole h = tt
  each_stands before (c ∷ cs) whole h =
      let longer = length-append before (c ∷ []) in
      let next : length (before ++ c ∷ []) + 1 ≡ suc (length before + 1) = omega (arith, longer) in
      let regrouped : chain ≡ (before ++ c ∷ []) ++ cs = whole ∙ sym (append_assoc before (c ∷ []) cs) in
      let here = each_at IsStanding (block_of before c) (λ i t e v. record {
        before = before;
        block = c;
        after = cs;
        whole = whole;
        place = i;
        here = e;
        endorsed = endorsed_at (is_endorsed listed (state (history before))) (block_of before c) h.0 i t e v;
      }) in
      let later = each_stands (before ++ c ∷ []) cs regrouped h.1 in
      both_parts IsStanding (block_of before c) (placed_from (suc (length before + 1)) cs) here
      (subst (λ (n : ℕ). AllByRecursion IsStanding (placed_from n cs)) next later)

-- who wrote a key is VALID
pub writes_valid : (b : Bool) (o : Option (Version × Option Bytes)) (w : Version × Option Bytes) → cond b o None ≡ Some w → b ≡ true
writes_valid true o w e = refl
writes_valid false o w e = absurd (none_some w e)

kept_value : (o : Option (Bytes × Version)) (value : Bytes) → option_map (λ e. e.0) o ≡ Some value → (v : Version) × (o ≡ Some (value, v))
kept_value None value e = absurd (none_some value e)
kept_value (Some x) value e = let same : x.0 ≡ value = same_Some x.0 value e in (x.1, λ i. Some (same i, x.1))

-- in a chain with the table's flags the last writer of a key is such, if each who writes there is that stands so in its block
pub last_is : (listed : Listed) (Is : Chain → Placed → Type 0) (chain : Chain) (key value : Bytes) → AreFlagsBy (table_of listed) [] chain →
    get (plain_after chain) key ≡ Some value →
    ((before : Chain) (t : Placed) → Member t (history chain) → is_endorsed listed (state (history before)) t.envelope ≡ true →
    write_to t.envelope.payload.writes key ≡ Some (Some value) → Is before t) →
    IsPutBy Is chain key value
last_is listed Is chain key value flags is such =
    let ts = history chain in
    let entry = kept_value _ value (sym (value_after chain key) ∙ is) in
    let last : last_write ts key ≡ Some (entry.0, Some value) = kept_some (last_write ts key) (value, entry.0) entry.1 in
    let by = writer ts key (entry.0, Some value) last in
    let t = by.by in
    let wrote = written_by t key (entry.0, Some value) by.is in
    let valid = valid_flag t.flag (writes_valid (is_valid t.flag) _ (entry.0, Some value) by.is) in
    let endorsed = judged_endorsed listed.edition id_of (λ before. is_endorsed listed (state before)) [] chain flags in
    let stands = of_member (IsStanding listed chain) t ts (each_stands listed chain [] chain refl endorsed) by.member valid in
    record {
      before = stands.before;
      block = stands.block;
      after = stands.after;
      whole = stands.whole;
      place = stands.place;
      transaction = t;
      stands = stands.here;
      valid = valid;
      last = get-state ts key ∙ entry.1 ∙ ap (λ (v : Version). Some (value, v)) (sym wrote.0);
      such = such stands.before t by.member stands.endorsed wrote.1;
    }
