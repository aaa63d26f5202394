-- What recorded items say of the questions behind them.
use Rattle.std.proofs.Common.{◌≡◌, ◌≢◌, ℕ, suc, ◌+◌, ◌≤◌, Bool, true, false, cond, List, [], ◌∷◌, ◌++◌, length, map, Option, Some, refl, sym, ap, ◌∙◌, subst}
use Rattle.std.proofs.Common.{arith}
use Rattle.std.specs.Prelude.{nat_le, IfSome}
use Rattle.std.specs.List.{list_all}
use Rattle.std.specs.FinMap.{get}
use Rattle.std.proofs.lemmas.Bool.Decides.{nat_tests}
use Rattle.fab_types.specs.Order.{are_ascending, is_shown}
use Rattle.fab_types.specs.Sets.{Range}
use Rattle.fab_types.specs.declared.items.ReadItem.{ReadItem}
use Rattle.fab_types.specs.declared.items.WriteItem.{WriteItem}
use Rattle.ledger_model.specs.Chain.{Bytes, Version}
use Rattle.ledger_model.specs.Views.{Plain, Versioned, first, values_of}
use Rattle.ledger_model.proofs.Views.{first-values_of}
use Rattle.ledger_model.specs.Execution.{read_item, range_item}
use Rattle.host_api.specs.declared.refusal.Refusal.TheVariants as refusal
use Rattle.host_api.specs.Recorded.{Asked, key_seen, range_seen}
use Rattle.host_api.specs.HostStep.{with_item, with_key, with_write, says, refuses, value_reply, read_key, write, ask_range, replies, reply_range_bytes}
use Rattle.host_api.specs.Recording.{read_of, range_of, asked_of, recorded_of, key_and_value, AreItems}
use Rattle.host_api.proofs.Places.{map-with_item, ascend_item, all_with_item}

fits : (n most : ℕ) → n ≤ most → nat_le n most ≡ true
fits n most le = grind (arith, nat_tests)

over : (n most : ℕ) → n ≡ most + 1 → nat_le n most ≡ false
over n most e = grind (arith, nat_tests)

-- the keys of items with one more
keys_with : (x : ReadItem) (xs : List ReadItem) → map (λ r. r.key) (with_item (λ r. r.key) x xs) ≡ with_key x.key (map (λ r. r.key) xs)
keys_with x xs = map-with_item (λ (r : ReadItem). r.key) (λ r. r.key) (λ k. k) (λ r. refl) x xs

length-keys : (xs : List ReadItem) → length (map (λ (r : ReadItem). r.key) xs) ≡ length xs
length-keys [] = refl
length-keys (x ∷ xs) = ap suc (length-keys xs)

module _ (p : Plain) (key : Bytes) (reads : List ReadItem) (ranges : List Range) (result : Bytes) (writes : List WriteItem) where
  -- a read of these keys, which are so many
  by_keys : (keys : List Bytes) → with_key key (map (λ r. r.key) reads) ≡ keys → (b : Bool) → nat_le (length keys) 256 ≡ b →
      (target capacity : ℕ) (memory : List ℕ) →
      read_key p key target capacity memory (recorded_of reads ranges result writes) ≡
      cond b (value_reply (get p key) target capacity memory (record (recorded_of reads ranges result writes) { reads = keys }))
      (refuses refusal.NoRoom memory (recorded_of reads ranges result writes))
  by_keys keys is b e target capacity memory =
      ap (λ (ks : List Bytes).
      cond (nat_le (length ks) 256) (value_reply (get p key) target capacity memory (record (recorded_of reads ranges result writes) { reads = ks }))
      (refuses refusal.NoRoom memory (recorded_of reads ranges result writes))) is
      ∙ ap (λ b. cond b (value_reply (get p key) target capacity memory (record (recorded_of reads ranges result writes) { reads = keys }))
      (refuses refusal.NoRoom memory (recorded_of reads ranges result writes))) e

  pub read_again : length reads ≤ 256 → with_key key (map (λ r. r.key) reads) ≡ map (λ r. r.key) reads → (target capacity : ℕ) (memory : List ℕ) →
      read_key p key target capacity memory (recorded_of reads ranges result writes) ≡
      value_reply (get p key) target capacity memory (recorded_of reads ranges result writes)
  read_again le same = by_keys (map (λ r. r.key) reads) same true (fits _ 256 (omega (arith, le, length-keys reads)))

  pub read_full : (x : ReadItem) → x.key ≡ key → length (with_item (λ r. r.key) x reads) ≡ 257 → (target capacity : ℕ) (memory : List ℕ) →
      read_key p key target capacity memory (recorded_of reads ranges result writes) ≡ refuses refusal.NoRoom memory (recorded_of reads ranges result writes)
  read_full x same n =
      by_keys (map (λ r. r.key) (with_item (λ r. r.key) x reads)) (ap (λ k. with_key k (map (λ r. r.key) reads)) (sym same) ∙ sym (keys_with x reads)) false
      (over _ 256 (length-keys (with_item (λ r. r.key) x reads) ∙ n))

  pub read_new : (x : ReadItem) → x.key ≡ key → (new : List ReadItem) → new ≡ with_item (λ r. r.key) x reads → length new ≤ 256 →
      (target capacity : ℕ) (memory : List ℕ) →
      read_key p key target capacity memory (recorded_of reads ranges result writes) ≡
      value_reply (get p key) target capacity memory (recorded_of new ranges result writes)
  read_new x same new is le =
      by_keys (map (λ r. r.key) new) (ap (λ k. with_key k (map (λ r. r.key) reads)) (sym same) ∙ sym (keys_with x reads) ∙ sym (ap (map (λ r. r.key)) is)) true
      (fits _ 256 (omega (arith, le, length-keys new)))

module _ (reads : List ReadItem) (ranges : List Range) (result : Bytes) (writes : List WriteItem) where
  pub write_full : (w : WriteItem) → length (with_write w writes) ≡ 65 → (memory : List ℕ) →
      write w memory (recorded_of reads ranges result writes) ≡ refuses refusal.NoRoom memory (recorded_of reads ranges result writes)
  write_full w n memory =
      ap (λ b. cond b (says 0 memory (record (recorded_of reads ranges result writes) { writes = with_write w writes }))
      (refuses refusal.NoRoom memory (recorded_of reads ranges result writes))) (over _ 64 n)

  pub write_new : (w : WriteItem) (new : List WriteItem) → new ≡ with_write w writes → length new ≤ 64 → (memory : List ℕ) →
      write w memory (recorded_of reads ranges result writes) ≡ says 0 memory (recorded_of reads ranges result new)
  write_new w new is le memory =
      ap (λ b. cond b (says 0 memory (record (recorded_of reads ranges result writes) { writes = with_write w writes }))
      (refuses refusal.NoRoom memory (recorded_of reads ranges result writes))) (fits _ 64 (subst (λ (ws : List WriteItem). length ws ≤ 64) is le)) ∙
      ap (λ (ws : List WriteItem). says 0 memory (recorded_of reads ranges result ws)) (sym is)

module _ (m : Versioned) (reads : List ReadItem) (ranges : List Range) (writes : List WriteItem) (are : AreItems m reads ranges writes) where
  pub items_read : (x : ReadItem) → x ≡ read_of m x.key → (new : List ReadItem) → new ≡ with_item (λ r. r.key) x reads → length new ≤ 256 →
      is_shown x.key ≡ true → AreItems m new ranges writes
  items_read x is new e le shown = record {
    reads_are = e ∙ ap (λ z. with_item (λ (r : ReadItem). r.key) z reads) is ∙ ap (with_item (λ (r : ReadItem). r.key) (read_of m x.key)) are.reads_are ∙
        sym (map-with_item (λ (r : ReadItem). read_of m r.key) (λ r. r.key) (λ r. r.key) (λ r. refl) x reads) ∙
        sym (ap (map (λ (r : ReadItem). read_of m r.key)) e);
    ranges_are = are.ranges_are;
    read_count = le;
    reads_shown = ap (list_all (λ (r : ReadItem). is_shown r.key)) e ∙
        all_with_item (λ (r : ReadItem). r.key) (λ r. is_shown r.key) x reads shown are.reads_shown;
    read_set = record {
      count = omega (arith, le);
      order = ap (λ (rs : List ReadItem). are_ascending (map (λ r. r.key) rs)) e ∙ ascend_item (λ (r : ReadItem). r.key) x reads are.read_set.order;
    };
    range_count = are.range_count;
    write_set = are.write_set;
  }

  pub items_written : (w : WriteItem) (new : List WriteItem) → new ≡ with_write w writes → length new ≤ 64 → AreItems m reads ranges new
  items_written w new e le = record {
    reads_are = are.reads_are;
    ranges_are = are.ranges_are;
    read_count = are.read_count;
    reads_shown = are.reads_shown;
    read_set = are.read_set;
    range_count = are.range_count;
    write_set = record {
      count = le;
      order = ap (λ (ws : List WriteItem). are_ascending (map (λ w. w.key) ws)) e ∙ ascend_item (λ (w : WriteItem). w.key) w writes are.write_set.order;
    };
  }

-- the items of a payload are those that were kept
pub reads_seen : (m : Versioned) (p : Plain) (reads : List ReadItem) →
    map (read_item m) (map (key_seen p) (map (λ r. r.key) reads)) ≡ map (λ r. read_of m r.key) reads
reads_seen m p [] = refl
reads_seen m p (r ∷ reads) = ap (λ z. read_of m r.key ∷ z) (reads_seen m p reads)

pub ranges_seen : (m : Versioned) (p : Plain) (ranges : List Range) →
    map (range_item m) (map (range_seen p) (map asked_of ranges)) ≡ map (λ g. range_of m (asked_of g)) ranges
ranges_seen m p [] = refl
ranges_seen m p (g ∷ ranges) = ap (λ z. range_of m (asked_of g) ∷ z) (ranges_seen m p ranges)

pub one_more : (most n : ℕ) → n ≤ most → n ≢ most → {m : ℕ} → m ≡ n + 1 → m ≤ most
one_more most n le ne {m} e = grind (arith, le, ne, e)

-- what a constructor that may refuse has made
pub told : {A : Type 0} {x : A} {o : Option A} {v : A} → IfSome o (λ y. y ≡ x) → o ≡ Some v → v ≡ x
told {A} {x} {o} {v} h e = subst (λ (p : Option A). IfSome p (λ y. y ≡ x)) e h

length-more : (gs : List Range) (g : Range) → length (gs ++ g ∷ []) ≡ length gs + 1
length-more [] g = refl
length-more (x ∷ gs) g = let i = length-more gs g in omega (arith, i)

map-more : {X Y : Type 0} (f : X → Y) (xs : List X) (x : X) → map f (xs ++ x ∷ []) ≡ map f xs ++ f x ∷ []
map-more f [] x = refl
map-more f (y ∷ xs) x = ap (λ l. f y ∷ l) (map-more f xs x)

length-asked : (gs : List Range) → length (map asked_of gs) ≡ length gs
length-asked [] = refl
length-asked (g ∷ gs) = ap suc (length-asked gs)

module _ (m : Versioned) (reads : List ReadItem) (ranges : List Range) (writes : List WriteItem) (are : AreItems m reads ranges writes) where
  pub items_asked : (a : Asked) (new : List Range) → new ≡ ranges ++ range_of m a ∷ [] → length ranges ≢ 16 → AreItems m reads new writes
  items_asked a new e ne = record {
    reads_are = are.reads_are;
    ranges_are = e ∙ ap (λ (gs : List Range). gs ++ range_of m a ∷ []) are.ranges_are ∙
        sym (map-more (λ (g : Range). range_of m (asked_of g)) ranges (range_of m a)) ∙ sym (ap (map (λ (g : Range). range_of m (asked_of g))) e);
    read_count = are.read_count;
    reads_shown = are.reads_shown;
    read_set = are.read_set;
    range_count = one_more 16 (length ranges) are.range_count ne (ap length e ∙ length-more ranges (range_of m a));
    write_set = are.write_set;
  }

module _ (m : Versioned) (reads : List ReadItem) (ranges : List Range) (result : Bytes) (writes : List WriteItem) (are : AreItems m reads ranges writes) where
  pub ask_new : (a : Asked) (new : List Range) → new ≡ ranges ++ range_of m a ∷ [] → length ranges ≢ 16 → (es : List (Bytes × (Bytes × Version))) →
      es ≡ first m a.start a.end a.limit → (target capacity : ℕ) (memory : List ℕ) →
      ask_range (values_of m) a target capacity memory (recorded_of reads ranges result writes) ≡
      replies (reply_range_bytes (map key_and_value es)) target capacity memory (recorded_of reads new result writes)
  ask_new a new e ne es is target capacity memory =
      let s = recorded_of reads ranges result writes in
      let asked : map asked_of new ≡ map asked_of ranges ++ a ∷ [] = ap (map asked_of) e ∙ map-more asked_of ranges (range_of m a) in
      let count : length (map asked_of ranges ++ a ∷ []) ≤ 16 =
      omega (arith, ap length asked, length-asked new, one_more 16 (length ranges) are.range_count ne (ap length e ∙ length-more ranges (range_of m a))) in
      ap (λ b. cond b (replies (reply_range_bytes (first (values_of m) a.start a.end a.limit)) target capacity memory
      (record s { ranges = map asked_of ranges ++ a ∷ [] })) (refuses refusal.NoRoom memory s)) (fits _ 16 count)
      ∙ ap (λ (qs : List Asked). replies (reply_range_bytes (first (values_of m) a.start a.end a.limit)) target capacity memory (record s { ranges = qs }))
      (sym asked)
      ∙ ap (λ (fs : List (Bytes × Bytes)). replies (reply_range_bytes fs) target capacity memory (recorded_of reads new result writes))
      (first-values_of m a.start a.end a.limit ∙ ap (map key_and_value) (sym is))
