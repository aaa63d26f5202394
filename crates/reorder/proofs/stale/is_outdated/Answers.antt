use Rattle.std.proofs.Common.{◌≡◌, ℕ, Bool, ◌&&◌, true, false, List, is_eq, sym, ap, ◌∙◌, subst, arith, rules}
use Rattle.std.specs.Ordering.{is_le}
use Rattle.std.proofs.lemmas.List.Sorted.{IsPartitionPoint-from_clause}
use Rattle.fab_types.specs.Order.{key_cmp}
use Rattle.fab_types.specs.Touched.{is_older}
use Rattle.reorder.specs.declared.stale.Seen.{Seen}
use Rattle.reorder.proofs.Tables.{le_parted}
use Rattle.reorder.proofs.Older.{IsAfterKey, seen_by_key, newest_none, newest_is}
use Rattle.reorder.proofs.stale.is_outdated.Goals as goal

pub returns-then-end-eq0 : goal.returns-then-end-eq0
returns-then-end-eq0 c =
    let key = c.as_slice-key.result.now in
    let point : IsAfterKey key c.args.index.now c.partition_point-end.result =
    IsPartitionPoint-from_clause (λ (s : Seen). is_le (key_cmp s.key.now key)) _ _ c.partition_point-end.ensures.partitioned
    (le_parted (λ (s : Seen). s.key.now) _ _ (seen_by_key _ c.requires)) (λ a r q k. search rules) in
    let point2 = subst (λ (k : List ℕ). IsAfterKey k c.args.index.now c.partition_point-end.result) c.as_slice-key.ensures.value point in
    sym (newest_none c.args.key.now c.args.version c.args.index.now c.partition_point-end.result point2 (omega arith))

pub returns-then-is_eq : goal.returns-then-is_eq
returns-then-is_eq c =
    let key = c.as_slice-key.result.now in
    let index = c.args.index.now in
    let end = c.partition_point-end.result in
    let last = c.index-index-end.result in
    let point : IsAfterKey key index end =
    IsPartitionPoint-from_clause (λ (s : Seen). is_le (key_cmp s.key.now key)) _ _ c.partition_point-end.ensures.partitioned
    (le_parted (λ (s : Seen). s.key.now) _ _ (seen_by_key _ c.requires)) (λ a r q k. search rules) in
    let point2 = subst (λ (k : List ℕ). IsAfterKey k index end) c.as_slice-key.ensures.value point in
    let newest = newest_is c.args.key.now c.args.version index end last c.requires point2 (omega arith) (omega arith) c.index-index-end.is in
    let same : is_eq (key_cmp last.key.now c.args.key.now) ≡ true =
    sym (ap is_eq (c.cmp.ensures ∙ ap (λ (k : List ℕ). key_cmp k key) c.as_slice.ensures.value ∙
    ap (λ (k : List ℕ). key_cmp last.key.now k) c.as_slice-key.ensures.value)) ∙ sym c.is_eq.ensures ∙ c.if-is_eq.true in
    (let older : c.lt.result ≡ is_older c.args.version last.version.now = search rules in older) ∙
    sym (ap (λ (b : Bool). b && is_older c.args.version last.version.now) same) ∙ newest

pub returns-else-is_eq : goal.returns-else-is_eq
returns-else-is_eq c =
    let key = c.as_slice-key.result.now in
    let index = c.args.index.now in
    let end = c.partition_point-end.result in
    let last = c.index-index-end.result in
    let point : IsAfterKey key index end =
    IsPartitionPoint-from_clause (λ (s : Seen). is_le (key_cmp s.key.now key)) _ _ c.partition_point-end.ensures.partitioned
    (le_parted (λ (s : Seen). s.key.now) _ _ (seen_by_key _ c.requires)) (λ a r q k. search rules) in
    let point2 = subst (λ (k : List ℕ). IsAfterKey k index end) c.as_slice-key.ensures.value point in
    let newest = newest_is c.args.key.now c.args.version index end last c.requires point2 (omega arith) (omega arith) c.index-index-end.is in
    let same : is_eq (key_cmp last.key.now c.args.key.now) ≡ false =
    sym (ap is_eq (c.cmp.ensures ∙ ap (λ (k : List ℕ). key_cmp k key) c.as_slice.ensures.value ∙
    ap (λ (k : List ℕ). key_cmp last.key.now k) c.as_slice-key.ensures.value)) ∙ sym c.is_eq.ensures ∙ c.if-is_eq.false in
    c.if-is_eq.false ∙ sym (ap (λ (b : Bool). b && is_older c.args.version last.version.now) same) ∙ newest
