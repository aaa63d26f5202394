-- A chain that a log made is cut again of its own marks.
use Rattle.std.proofs.Common.{inl, inr, ◌⊎◌, ◌≡◌, ◌≤◌, ◌<◌, ◌++◌, ℕ, zero, suc, Bool, true, false, eqb, ltb, List, [], ◌∷◌, length, map, Option, Some, None}
use Rattle.std.proofs.Common.{refl, sym, ap, subst, ◌∙◌, arith}
use Rattle.std.specs.Prelude.{if◌then◌else◌}
use Rattle.std.specs.List.{AllByRecursion, count_by, slice_get, sum_by}
use Rattle.std.specs.Option.{option_to_list}
use Rattle.std.proofs.lemmas.Bool.{cases_lt}
use Rattle.std.proofs.lemmas.List.Sums.{sum_by-cons}
use Rattle.hex.proofs.HexLemmas.{decode_of-ok}
use Rattle.batch_cutter.specs.Division.{IsBatch, IsDivision, Limits, Mark, concatenate, message, messages, timeout}
use Rattle.batch_cutter.proofs.Divisions.{IsDivision-messages}
use Rattle.fab_types.specs.BlockSpelling.{envelope_bytes}
use Rattle.fab_types.specs.Editions.{last_block}
use Rattle.fab_types.specs.Size.{envelope_size}
use Rattle.fab_types.specs.declared.block.Block.{Block}
use Rattle.fab_types.specs.declared.edition.Edition.{Edition}
use Rattle.fab_types.specs.declared.envelope.Envelope.{Envelope}
use Rattle.reorder.specs.Edges.{edge_of}
use Rattle.reorder.specs.Plan.{IsPlanned, all_but}
use Rattle.reorder.specs.Stale.{indices, stale}
use Rattle.orderer.specs.Arranged.{aborts, arranges_by}
use Rattle.orderer.specs.Blocks.{AddsEach, AreLinked, next_block, with_batch}
use Rattle.orderer.specs.Ordering.{AreLimits, IsOpening, IsTooLarge, Ordering}
use Rattle.orderer.specs.Places.{ArePlaces, envelopes_at}
use Rattle.orderer.specs.declared.arrangement.AbortCause.{AbortCause}
use Rattle.orderer.specs.declared.report.BatchReport.{BatchReport}
use Rattle.orderer.proofs.Arranging.{planned_places}
use Rattle.orderer.proofs.Cutting.{all_joined, messages_after}
use Rattle.orderer.proofs.Joining.{same_ordering}
use Rattle.orderer.proofs.Linking.{each_linked}
use Rattle.orderer.proofs.Picking.{all_are_places, sum_picked}
use Rattle.log_orderer.specs.Lines.{IsMark}
use Rattle.log_orderer.specs.Log.{Reads, ReadsEach}
use Rattle.log_orderer.specs.Marks.{CutsAgain, marks_of}
use Rattle.log_orderer.proofs.Fresh.{AreFresh, fresh_stale, none_aborts, planned_as_is, survivors_fresh}
use Rattle.log_orderer.proofs.Logging.{log_joined}
use Rattle.log_orderer.proofs.Recut.{IsFew, IsOwnBatch, IsTakable, at, read_blocks}

-- ---- the survivors of a batch

-- a batch as it is cut, of envelopes that lines can have
record IsGood (limits : Limits) (batch : List Envelope) : Type 0 where
  size : (length batch ≡ 1) ⊎ IsFew limits batch
  lines : AllByRecursion (IsTakable limits) batch

counted : {A : Type 0} (xs : List A) → sum_by (λ x. 1) xs ≡ length xs
counted [] = refl
counted (x ∷ xs) = omega (arith, sum_by-cons (λ x. 1) x xs, counted xs)

at_most_one : (test : Bool) (count : ℕ) → count ≤ (if test then 1 else 0) → count ≤ 1
at_most_one true count most = most
at_most_one false count most = omega (arith, most)

at_all : {A : Type 0} (P : A → Type 0) (xs : List A) (i : ℕ) (x : A) → AllByRecursion P xs → slice_get xs i ≡ Some x → P x
at_all P [] i x all is = absurd cc
at_all P (y ∷ xs) zero x all is = let same : y ≡ x = cc in subst P same all.0
at_all P (y ∷ xs) (suc i) x all is = at_all P xs i x all.1 is

picked_all : (P : Envelope → Type 0) (batch : List Envelope) (order : List ℕ) → AllByRecursion P batch → AllByRecursion P (envelopes_at batch order)
picked_all P batch [] all = tt
picked_all P batch (i ∷ order) all =
    let rest = picked_all P batch order all in
    elim (slice_get batch i) as (λ o. slice_get batch i ≡ o → AllByRecursion P (option_to_list o ++ envelopes_at batch order)) [
      | None ↦ λ is. rest
      | Some e ↦ λ is. (at_all P batch i e all is, rest)
    ] refl

-- an arrangement is of places of the batch, each once
are_places : (reorder : Bool) (batch : List Envelope) (order : List ℕ) (aborted : List (ℕ × AbortCause)) → arranges_by reorder batch order aborted
    → ArePlaces (length batch) order
are_places true batch order aborted a = planned_places (length batch) (edge_of batch) (stale batch) order a.dropped a.planned
are_places false batch order aborted a = subst (ArePlaces (length batch)) (sym a.0) (all_are_places (length batch))

-- what survived is arranged as it stands
arranged_again : (reorder : Bool) (batch : List Envelope) (order : List ℕ) (aborted : List (ℕ × AbortCause)) → arranges_by reorder batch order aborted
    → arranges_by reorder (envelopes_at batch order) (indices (envelopes_at batch order)) []
arranged_again false batch order aborted a = (refl, refl)
arranged_again true batch order aborted a =
    let es = envelopes_at batch order in
    let n = length batch in
    let places = planned_places n (edge_of batch) (stale batch) order a.dropped a.planned in
    let once = λ (place : ℕ). at_most_one (ltb place n) (count_by (λ x. eqb x place) order) (places place) in
    let fresh : AreFresh es = survivors_fresh batch order a.dropped once a.planned in
    let none : stale es ≡ [] = fresh_stale es fresh in
    record {
      dropped = [];
      planned = subst (λ (gone : List ℕ). IsPlanned (length es) (edge_of es) (all_but gone (length es)) (indices es) []) (sym none) (planned_as_is es fresh);
      aborts_are = sym (ap (λ (gone : List ℕ). aborts gone [] (indices es)) none ∙ none_aborts (indices es));
    }

own_batch : (limits : Limits) (reorder : Bool) (batch : List Envelope) (order : List ℕ) (aborted : List (ℕ × AbortCause))
    → arranges_by reorder batch order aborted → IsGood limits batch → 0 < length (envelopes_at batch order)
    → IsOwnBatch limits reorder (envelopes_at batch order)
own_batch limits reorder batch order aborted arranged good some =
    let es = envelopes_at batch order in
    let places = are_places reorder batch order aborted arranged in
    let size = sum_picked envelope_size batch order places in
    let ones = sum_picked (λ (e : Envelope). 1) batch order places in
    let count : length es ≤ length batch = omega (arith, ones, counted es, counted batch) in
    record {
      some = some;
      whole =
          elim good.size as (λ _. (length es ≡ 1) ⊎ IsFew limits es) [
            | inl one ↦ inl (omega (arith, one, count, some))
            | inr few ↦ inr (record { counted = omega (arith, few.counted, count); together = omega (arith, few.together, size) })
          ];
      lines = picked_all (IsTakable limits) batch order good.lines;
      arranged = arranged_again reorder batch order aborted arranged;
    }

-- ---- the batches that are cut

all_front : {M : Type 0} (P : M → Type 0) (xs ys : List M) → AllByRecursion P (xs ++ ys) → AllByRecursion P xs
all_front P [] ys a = tt
all_front P (x ∷ xs) ys a = (a.0, all_front P xs ys a.1)

all_back : {M : Type 0} (P : M → Type 0) (xs ys : List M) → AllByRecursion P (xs ++ ys) → AllByRecursion P ys
all_back P [] ys a = a
all_back P (x ∷ xs) ys a = all_back P xs ys a.1

good_batch : (limits : Limits) (batch : List Envelope) (after : List (Mark Envelope)) → IsBatch envelope_size limits batch after
    → AllByRecursion (IsTakable limits) batch → IsGood limits batch
good_batch limits batch after (inl alone) lines = record { size = inl (ap (λ (es : List Envelope). length es) alone.1); lines = lines }
good_batch limits batch after (inr ordinary) lines = record {
  size = inr (record { counted = ordinary.counted; together = ordinary.together });
  lines = lines;
}

good_batches : (limits : Limits) (marks : List (Mark Envelope)) (batches : List (List Envelope)) (pending : List Envelope)
    → IsDivision envelope_size limits marks batches pending → AllByRecursion (IsTakable limits) (concatenate batches)
    → AllByRecursion (IsGood limits) batches
good_batches limits marks [] pending cut lines = tt
good_batches limits marks (batch ∷ batches) pending cut lines = (
  good_batch limits batch cut.0 cut.2 (all_front (IsTakable limits) batch (concatenate batches) lines),
  good_batches limits cut.0 batches pending cut.3 (all_back (IsTakable limits) batch (concatenate batches) lines),
)

-- ---- the blocks that are made

abbrev AreOwn : Limits → Bool → List Block → Type 0
AreOwn limits reorder blocks = AllByRecursion (λ (b : Block). IsOwnBatch limits reorder b.envelopes) blocks

with_own : (limits : Limits) (reorder : Bool) (chain : List Block) (es : List Envelope) → AreOwn limits reorder chain
    → (0 < length es → IsOwnBatch limits reorder es) → AreOwn limits reorder (with_batch chain es)
with_own limits reorder chain [] own one = own
with_own limits reorder chain (e ∷ es) own one =
    all_joined (λ (b : Block). IsOwnBatch limits reorder b.envelopes) chain (next_block chain (e ∷ es) ∷ []) own (one (omega arith), tt)

each_own : (limits : Limits) (reorder : Bool) (old : List Block) (batches : List (List Envelope)) (reports : List BatchReport) (new : List Block)
    → AddsEach (arranges_by reorder) old batches reports new → AllByRecursion (IsGood limits) batches → AreOwn limits reorder old
    → AreOwn limits reorder new
each_own limits reorder old [] reports new adds good own = subst (AreOwn limits reorder) (sym adds.1) own
each_own limits reorder old (batch ∷ batches) reports new adds good own =
    let a = adds.4 in
    let next : AreOwn limits reorder adds.2 = subst (AreOwn limits reorder) (sym a.chain)
    (with_own limits reorder old (envelopes_at batch a.order) own (λ some. own_batch limits reorder batch a.order adds.0.aborted a.arranged good.0 some)) in
    each_own limits reorder adds.2 batches adds.1 new adds.5 good.1 next

-- ---- line by line

-- what holds of a chain that was cut of lines
record IsCut (o : Ordering) : Type 0 where
  own : AreOwn o.limits o.reorder o.chain
  linked : AreLinked [] o.chain
  waits : AllByRecursion (IsTakable o.limits) o.pending
  room : length o.chain ≤ last_block o.edition

-- an envelope that a line has, and that is not too large
takable : (limits : Limits) (line : List ℕ) (e : Envelope) → IsMark line (message e) → ¬ IsTooLarge limits (message e) → IsTakable limits e
takable limits line e is small = record {
  within = is.0;
  bytes = (decode_of-ok line (envelope_bytes e) is.1).3;
  small = elim (cases_lt limits.absolute (envelope_size e)) as (λ _. envelope_size e ≤ limits.absolute) [ inl large ↦ absurd (small large) | inr fits ↦ fits ];
}

mark_takable : (limits : Limits) (line : List ℕ) (pending : List Envelope) (mark : Mark Envelope) → IsMark line mark → ¬ IsTooLarge limits mark
    → AllByRecursion (IsTakable limits) pending → AllByRecursion (IsTakable limits) (messages (map message pending ++ mark ∷ []))
mark_takable limits line pending (message e) is small waits =
    subst (AllByRecursion (IsTakable limits)) (sym (messages_after pending (message e ∷ [])))
    (all_joined (IsTakable limits) pending (e ∷ []) waits (takable limits line e is small, tt))
mark_takable limits line pending timeout is small waits =
    subst (AllByRecursion (IsTakable limits)) (sym (messages_after pending (timeout ∷ [])))
    (all_joined (IsTakable limits) pending [] waits tt)

one_line : (old new : Ordering) (line : List ℕ) (answer : Option (List BatchReport)) → Reads old line answer new → IsCut old → IsCut new
one_line old new line None reads was = subst IsCut (sym reads.1) was
one_line old new line (Some reports) reads was =
    let mark = reads.0 in
    let takes = reads.2.0 in
    let marks = map message old.pending ++ mark ∷ [] in
    let all = IsDivision-messages envelope_size old.limits marks takes.batches new.pending takes.cut in
    let lines = subst (AllByRecursion (IsTakable old.limits)) all (mark_takable old.limits line old.pending mark reads.1 reads.2.1 was.waits) in
    let good = good_batches old.limits marks takes.batches new.pending takes.cut
    (all_front (IsTakable old.limits) (concatenate takes.batches) new.pending lines) in
    let own = each_own old.limits old.reorder old.chain takes.batches reports new.chain takes.added good was.own in
    record {
      own =
          subst (λ (l : Limits). AreOwn l new.reorder new.chain) (sym takes.limits)
          (subst (λ (r : Bool). AreOwn old.limits r new.chain) (sym takes.reorder) own);
      linked = each_linked (arranges_by old.reorder) old.chain takes.batches reports new.chain takes.added was.linked;
      waits =
          subst (λ (l : Limits). AllByRecursion (IsTakable l) new.pending) (sym takes.limits)
          (all_back (IsTakable old.limits) (concatenate takes.batches) new.pending lines);
      room = subst (λ (e : Edition). length new.chain ≤ last_block e) (sym takes.edition) reads.2.2;
    }

-- the edition, the limits, and whether batches are reordered
record Stays (old new : Ordering) : Type 0 where
  edition : new.edition ≡ old.edition
  limits : new.limits ≡ old.limits
  reorder : new.reorder ≡ old.reorder

same_stays : (old new : Ordering) → new ≡ old → Stays old new
same_stays old new same = record {
  edition = ap (λ (o : Ordering). o.edition) same;
  limits = ap (λ (o : Ordering). o.limits) same;
  reorder = ap (λ (o : Ordering). o.reorder) same;
}

stays : (old new : Ordering) (line : List ℕ) (answer : Option (List BatchReport)) → Reads old line answer new → Stays old new
stays old new line None reads = same_stays old new reads.1
stays old new line (Some reports) reads =
    let takes = reads.2.0 in
    record { edition = takes.edition; limits = takes.limits; reorder = takes.reorder }

each_line : (old new : Ordering) (lines : List (List ℕ)) (answers : List (Option (List BatchReport))) → ReadsEach old lines answers new → IsCut old
    → IsCut new × Stays old new
each_line old new [] answers reads was = (subst IsCut (sym reads.1) was, same_stays old new reads.1)
each_line old new (line ∷ lines) answers reads was =
    let here = one_line old reads.2 line reads.0 reads.4 was in
    let same = stays old reads.2 line reads.0 reads.4 in
    let later = each_line reads.2 new lines reads.1 reads.5 here in
    let more = later.1 in
    (later.0, record { edition = more.edition ∙ same.edition; limits = more.limits ∙ same.limits; reorder = more.reorder ∙ same.reorder })

pub cut_again : (unread made : Ordering) (lines : List (List ℕ)) (answers : List (Option (List BatchReport))) → IsOpening unread → AreLimits unread.limits
    → ReadsEach unread lines answers made → CutsAgain unread made.chain
cut_again unread made lines answers opens bounds reads =
    let start : IsCut unread = record {
      own = subst (AreOwn unread.limits unread.reorder) (sym opens.1) tt;
      linked = subst (AreLinked []) (sym opens.1) tt;
      waits = subst (AllByRecursion (IsTakable unread.limits)) (sym opens.0) tt;
      room = omega (arith, ap (λ (blocks : List Block). length blocks) opens.1);
    } in
    let all = each_line unread made lines answers reads start in
    let same = all.1 in
    let own : AreOwn unread.limits unread.reorder made.chain =
    subst (λ (l : Limits). AreOwn l unread.reorder made.chain) same.limits (subst (λ (r : Bool). AreOwn made.limits r made.chain) same.reorder all.0.own) in
    let room = subst (λ (e : Edition). length made.chain ≤ last_block e) same.edition all.0.room in
    let again = read_blocks unread [] made.chain bounds own all.0.linked room in
    let begins : at unread [] [] ≡ unread = sym (same_ordering unread (at unread [] []) refl refl refl opens.0 opens.1) in
    record {
      answers = again.0;
      replica = at unread made.chain [];
      reads = subst (λ (o : Ordering). ReadsEach o (marks_of made.chain) again.0 (at unread made.chain [])) begins again.1;
      chain_is = refl;
      idle = refl;
    }

-- ---- a log that is cut

each_stays : (old new : Ordering) (lines : List (List ℕ)) (answers : List (Option (List BatchReport))) → ReadsEach old lines answers new → Stays old new
each_stays old new [] answers reads = same_stays old new reads.1
each_stays old new (line ∷ lines) answers reads =
    let same = stays old reads.2 line reads.0 reads.4 in
    let more = each_stays reads.2 new lines reads.1 reads.5 in
    record { edition = more.edition ∙ same.edition; limits = more.limits ∙ same.limits; reorder = more.reorder ∙ same.reorder }

-- the marks of a chain stand for the lines that made it, where nothing waits
pub cut_on : (unread here log : Ordering) (front back : List (List ℕ)) (answers later : List (Option (List BatchReport))) → IsOpening unread
    → AreLimits unread.limits → ReadsEach unread front answers here → here.pending ≡ [] → ReadsEach here back later log
    → (again : List (Option (List BatchReport))) × ReadsEach unread (marks_of here.chain ++ back) (again ++ later) log
cut_on unread here log front back answers later opens bounds reads idle on =
    let cut = cut_again unread here front answers opens bounds reads in
    let one = each_stays unread here front answers reads in
    let two = each_stays unread cut.replica (marks_of here.chain) cut.answers cut.reads in
    let same : cut.replica ≡ here = same_ordering cut.replica here (two.edition ∙ sym one.edition) (two.reorder ∙ sym one.reorder) (two.limits ∙ sym one.limits)
    (cut.idle ∙ sym idle) cut.chain_is in
    let later_on = subst (λ (o : Ordering). ReadsEach o back later log) (sym same) on in
    (cut.answers, log_joined unread cut.replica log (marks_of here.chain) back cut.answers later cut.reads later_on)
