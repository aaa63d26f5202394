-- Where the writes of each key begin, in an index in key order.
use Rattle.std.proofs.Common.{◌≡◌, ℕ, ◌+◌, ◌-◌, ◌<◌, ◌≤◌, true, false, List, length, get_or, refl, sym, ap, ◌∙◌, subst, inl, inr, arith, is_lt, is_eq}
use Rattle.std.specs.declared.cmp.Ordering.{Ordering}
use Rattle.std.specs.declared.cmp.Ordering.TheVariants.{Less, Equal, Greater}
use Rattle.std.specs.Ordering.{is_le, is_ne, ordering_reverse}
use Rattle.std.specs.List.Sorted.{IsSortedByKey}
use Rattle.std.proofs.lemmas.Bool.{cases_lt}
use Rattle.std.proofs.lemmas.Cmp.{nat_list_cmp_total}
use Rattle.std.proofs.lemmas.List.{get_or_read, get_or_default}
use Rattle.std.proofs.lemmas.List.Sorted.{ranks_by, sorted_far}
use Rattle.fab_types.specs.Order.{key_cmp}
use Rattle.reorder.specs.declared.writes.KeyWrite.{KeyWrite}
use Rattle.reorder.specs.KeyWrites.{key_of, IsFirstFrom, AreStarts}
use Rattle.reorder.proofs.Older.{same_is}
use Rattle.reorder.proofs.Tables.{IsFirstAfter, is_lt_parted}

-- no later key is less
in_order : (index : List KeyWrite) (i j : ℕ) (d : KeyWrite) → IsSortedByKey key_of key_cmp index → i ≤ j → j < length index →
    is_lt (key_cmp (get_or index j d).key.now (get_or index i d).key.now) ≡ false
in_order index i j d sorted h l =
    sorted_far (λ a b. is_lt (key_cmp a.key.now b.key.now)) (ranks_by nat_list_cmp_total key_of) index sorted i j d h l

pub apart_if_ne : (o : Ordering) → is_ne o ≡ true → is_eq o ≡ false
apart_if_ne Less e = refl
apart_if_ne Equal e = absurd (cc)
apart_if_ne Greater e = refl

pub equal_if_not_ne : (o : Ordering) → is_ne o ≡ false → is_eq o ≡ true
equal_if_not_ne Less e = absurd (cc)
equal_if_not_ne Equal e = refl
equal_if_not_ne Greater e = absurd (cc)

less_if_apart : (o : Ordering) → is_le o ≡ true → is_eq o ≡ false → is_lt o ≡ true
less_if_apart Less e f = e
less_if_apart Equal e f = absurd (cc)
less_if_apart Greater e f = absurd (cc)

not_less : (o : Ordering) → is_le o ≡ false → is_lt o ≡ false
not_less Less e = absurd (cc)
not_less Equal e = absurd (cc)
not_less Greater e = refl

upto_from_order : (o : Ordering) → is_lt (ordering_reverse o) ≡ false → is_le o ≡ true
upto_from_order Less e = refl
upto_from_order Equal e = refl
upto_from_order Greater e = absurd (cc)

-- the writes of one key, of which one is the first and one the last so far
pub record IsRun (index : List KeyWrite) (start end : ℕ) : Type 0 where
  pub within : start ≤ end
  pub from : (d : KeyWrite) → IsFirstFrom (get_or index start d).key.now index start
  pub same : (k : ℕ) (d : KeyWrite) → start ≤ k → k < end → (get_or index k d).key.now ≡ (get_or index start d).key.now

pub run_none : (index : List KeyWrite) → IsSortedByKey key_of key_cmp index → IsRun index 0 0
run_none index sorted = record {
  within = omega arith;
  from = λ d. (
    λ i e l h. absurd (omega arith),
    λ i e l h.
        subst (λ (w : KeyWrite). is_lt (key_cmp (get_or index i e).key.now w.key.now) ≡ false) (get_or_default index 0 e d (omega arith))
        (in_order index 0 i e sorted l h),
  );
  same = λ k d l h. absurd (omega arith);
}

-- one more of the key
pub run_goes_on : (index : List KeyWrite) (start i : ℕ) (first next : KeyWrite) → start < length index → i < length index → first ≡ get_or index start first →
    next ≡ get_or index i next → is_eq (key_cmp first.key.now next.key.now) ≡ true → IsRun index start i → IsRun index start (i + 1)
run_goes_on index start i first next start_in i_in first_is next_is equal r = record {
  within = omega arith;
  from = r.from;
  same = λ k d l h. elim (cases_lt k i) as (λ _. (get_or index k d).key.now ≡ (get_or index start d).key.now) [
    | inl lt ↦ r.same k d l lt
    | inr ge ↦
        let at : k ≡ i = omega arith in
        let here = get_or_read index i next i_in next_is d in
        let there = get_or_read index start first start_in first_is d in
        ap (λ (n : ℕ). (get_or index n d).key.now) at
        ∙ ap (λ (w : KeyWrite). w.key.now) (sym here)
        ∙ sym (same_is first.key.now next.key.now equal)
        ∙ ap (λ (w : KeyWrite). w.key.now) there
  ];
}

-- the first of another key is above all before it
begins_above : (index : List KeyWrite) (start i : ℕ) (first next : KeyWrite) → IsSortedByKey key_of key_cmp index → start < length index →
    i < length index → first ≡ get_or index start first → next ≡ get_or index i next → is_eq (key_cmp first.key.now next.key.now) ≡ false →
    IsRun index start i → IsFirstFrom next.key.now index i
begins_above index start i first next sorted start_in i_in first_is next_is other r =
    let key = next.key.now in
    let ordered : is_lt (key_cmp key first.key.now) ≡ false =
    subst (λ (w : KeyWrite). is_lt (key_cmp key w.key.now) ≡ false) (sym (get_or_read index start first start_in first_is next))
    (subst (λ (w : KeyWrite). is_lt (key_cmp w.key.now (get_or index start next).key.now) ≡ false) (sym next_is)
    (in_order index start i next sorted r.within i_in)) in
    let turned : is_lt (ordering_reverse (key_cmp first.key.now key)) ≡ false = ap is_lt (sym (nat_list_cmp_total.antisymm key first.key.now)) ∙ ordered in
    let less : is_lt (key_cmp first.key.now key) ≡ true =
    less_if_apart (key_cmp first.key.now key) (upto_from_order (key_cmp first.key.now key) turned) other in
    let less_at : (d : KeyWrite) → is_lt (key_cmp (get_or index start d).key.now key) ≡ true = λ d.
    subst (λ (w : KeyWrite). is_lt (key_cmp w.key.now key) ≡ true) (get_or_read index start first start_in first_is d) less
    in (
      λ k d l h. elim (cases_lt k start) as (λ _. is_lt (key_cmp (get_or index k d).key.now key) ≡ true) [
        | inl lt ↦ is_lt_parted index key sorted k start d (omega arith) start_in (less_at d)
        | inr ge ↦ subst (λ (x : List ℕ). is_lt (key_cmp x key) ≡ true) (sym (r.same k d ge h)) (less_at d)
      ],
      λ k d l h.
          subst (λ (w : KeyWrite). is_lt (key_cmp (get_or index k d).key.now w.key.now) ≡ false) (sym (get_or_read index i next i_in next_is d))
          (in_order index i k d sorted l h),
    )

pub run_begins : (index : List KeyWrite) (start i : ℕ) (first next : KeyWrite) → IsSortedByKey key_of key_cmp index → start < length index → i < length index →
    first ≡ get_or index start first → next ≡ get_or index i next → is_eq (key_cmp first.key.now next.key.now) ≡ false → IsRun index start i →
    IsRun index i (i + 1)
run_begins index start i first next sorted start_in i_in first_is next_is other r = record {
  within = omega arith;
  from = λ d.
      subst (λ (w : KeyWrite). IsFirstFrom w.key.now index i) (get_or_read index i next i_in next_is d)
      (begins_above index start i first next sorted start_in i_in first_is next_is other r);
  same = λ k d l h. let at : k ≡ i = omega arith in ap (λ (n : ℕ). (get_or index n d).key.now) at;
}

-- where the writes of the last key begin
pub run_first : (index : List KeyWrite) (start i : ℕ) (d : KeyWrite) → start ≤ i → IsRun index start (i + 1) →
    IsFirstFrom (get_or index i d).key.now index start
run_first index start i d le r =
    subst (λ (x : List ℕ). IsFirstFrom x index start) (sym (r.same i d le (omega arith))) (r.from d)

-- the start of a key that is there
pub start_of_key : (index : List KeyWrite) (starts key : List ℕ) (i : ℕ) (w : KeyWrite) → AreStarts index starts → i < length index →
    w ≡ get_or index i w → is_eq (key_cmp w.key.now key) ≡ true → IsFirstFrom key index (get_or starts i 0)
start_of_key index starts key i w are lt is same =
    let keys : (get_or index i w).key.now ≡ key = ap (λ (x : KeyWrite). x.key.now) (sym is) ∙ same_is w.key.now key same in
    subst (λ (x : List ℕ). IsFirstFrom x index (get_or starts i 0)) keys (are.first i w lt)

-- where no key is up to a key, none has the key
pub start_of_first : (index : List KeyWrite) (key : List ℕ) (end : ℕ) → end ≡ 0 → IsFirstAfter key index end → IsFirstFrom key index end
start_of_first index key end none after =
    (λ i d l h. absurd (omega arith), λ i d l h. not_less (key_cmp (get_or index i d).key.now key) (after.1 i d l h))

-- where the last one up to a key has another key, none has the key
pub start_of_absent : (index : List KeyWrite) (key : List ℕ) (end : ℕ) (last : KeyWrite) → IsSortedByKey key_of key_cmp index → 0 < end →
    end ≤ length index → last ≡ get_or index (end - 1) last → is_eq (key_cmp last.key.now key) ≡ false → IsFirstAfter key index end →
    IsFirstFrom key index end
start_of_absent index key end last sorted some within is other after =
    let n = end - 1 in
    let n_in : n < length index = omega arith in
    let n_below : n < end = omega arith in
    let last_at : (d : KeyWrite) → last ≡ get_or index n d = λ d. get_or_read index n last n_in is d in
    let upto : is_le (key_cmp last.key.now key) ≡ true =
    subst (λ (w : KeyWrite). is_le (key_cmp w.key.now key) ≡ true) (sym (last_at last)) (after.0 n last (omega arith) n_below) in
    let less = less_if_apart (key_cmp last.key.now key) upto other in (
      λ i d l h. is_lt_parted index key sorted i n d (omega arith) n_in (subst (λ (w : KeyWrite). is_lt (key_cmp w.key.now key) ≡ true) (last_at d) less),
      λ i d l h. not_less (key_cmp (get_or index i d).key.now key) (after.1 i d l h),
    )
