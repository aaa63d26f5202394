-- The batches that are cut fit into blocks.
use Rattle.std.proofs.Common.{inl, inr, ◌≡◌, ℕ, ◌≤◌, ◌++◌, List, [], ◌∷◌, map, refl, sym, ap, subst, ◌∙◌, arith}
use Rattle.std.specs.List.{sum_by, AllByRecursion}
use Rattle.std.proofs.lemmas.List.Sums.{sum_by-cons}
use Rattle.batch_cutter.specs.Division.{Limits, Mark, message, timeout, messages, from_message, IsBatch, IsPending, IsDivision}
use Rattle.fab_types.specs.Data.{IsBlockData}
use Rattle.fab_types.specs.Size.{envelope_size}
use Rattle.fab_types.specs.declared.envelope.Envelope.{Envelope}
use Rattle.orderer.specs.Ordering.{AreLimits}

abbrev pub IsSmall : Envelope → Type 0
IsSmall e = envelope_size e ≤ 524288

messages_from : {M : Type 0} (marks : List (Mark M)) → messages (from_message marks) ≡ messages marks
messages_from [] = refl
messages_from (timeout ∷ marks) = messages_from marks
messages_from (message m ∷ marks) = refl

pub messages_after : {M : Type 0} (batch : List M) (after : List (Mark M)) → messages (map message batch ++ after) ≡ batch ++ messages after
messages_after [] after = refl
messages_after (m ∷ batch) after = ap (λ ms. m ∷ ms) (messages_after batch after)

pub all_joined : {M : Type 0} (P : M → Type 0) (xs ys : List M) → AllByRecursion P xs → AllByRecursion P ys → AllByRecursion P (xs ++ ys)
all_joined P [] ys a b = b
all_joined P (x ∷ xs) ys a b = (a.0, all_joined P xs ys a.1 b)

all_front : {M : Type 0} (P : M → Type 0) (xs ys : List M) → AllByRecursion P (xs ++ ys) → AllByRecursion P xs
all_front P [] ys a = tt
all_front P (x ∷ xs) ys a = (a.0, all_front P xs ys a.1)

all_back : {M : Type 0} (P : M → Type 0) (xs ys : List M) → AllByRecursion P (xs ++ ys) → AllByRecursion P ys
all_back P [] ys a = a
all_back P (x ∷ xs) ys a = all_back P xs ys a.1

pub all_small : (n : ℕ) (es : List Envelope) → n ≤ 524288 → sum_by envelope_size es ≤ n → AllByRecursion IsSmall es
all_small n [] most sum = tt
all_small n (e ∷ es) most sum =
    let split = sum_by-cons envelope_size e es in
    (omega (arith, split, most, sum), all_small n es most (omega (arith, split, sum)))

alone_fits : (e : Envelope) → IsSmall e → IsBlockData (e ∷ [])
alone_fits e small = record {
  least = omega arith;
  greatest = omega arith;
  size = omega (arith, small, sum_by-cons envelope_size e []);
}

batch_fits : (limits : Limits) (batch : List Envelope) (after : List (Mark Envelope)) → AreLimits limits → AllByRecursion IsSmall batch →
    IsBatch envelope_size limits batch after → IsBlockData batch
batch_fits limits batch after bounds small (inl alone) =
    subst IsBlockData (sym alone.1) (alone_fits alone.0 (subst (AllByRecursion IsSmall) alone.1 small).0)
batch_fits limits batch after bounds small (inr ordinary) = record {
  least = ordinary.filled;
  greatest = omega (arith, ordinary.counted, bounds.count);
  size = omega (arith, ordinary.together, bounds.preferred);
}

pub batches_fit : (limits : Limits) (marks : List (Mark Envelope)) (batches : List (List Envelope)) (pending : List Envelope) → AreLimits limits →
    AllByRecursion IsSmall (messages marks)
    → IsDivision envelope_size limits marks batches pending → AllByRecursion IsBlockData batches
batches_fit limits marks [] pending bounds small cut = tt
batches_fit limits marks (batch ∷ batches) pending bounds small cut =
    let after = cut.0 in
    let split : messages marks ≡ batch ++ messages after = sym (messages_from marks) ∙ ap messages cut.1 ∙ messages_after batch after in
    let small_split = subst (AllByRecursion IsSmall) split small in (
      batch_fits limits batch after bounds (all_front IsSmall batch (messages after) small_split) cut.2,
      batches_fit limits after batches pending bounds (all_back IsSmall batch (messages after) small_split) cut.3,
    )

-- an envelope more than what waited
pub offered_fit : (limits : Limits) (waiting : List Envelope) (e : Envelope) (batches : List (List Envelope)) (pending : List Envelope) → AreLimits limits →
    IsPending envelope_size limits waiting → envelope_size e ≤ limits.absolute
    → IsDivision envelope_size limits (map message waiting ++ message e ∷ []) batches pending → AllByRecursion IsBlockData batches
offered_fit limits waiting e batches pending bounds waits small cut =
    let one : IsSmall e = omega (arith, small, bounds.absolute) in
    batches_fit limits (map message waiting ++ message e ∷ []) batches pending bounds
    (subst (AllByRecursion IsSmall) (sym (messages_after waiting (message e ∷ [])))
    (all_joined IsSmall waiting (e ∷ []) (all_small limits.preferred waiting bounds.preferred waits.together) (one, tt)))
    cut

-- a timeout after what waited
pub timed_fit : (limits : Limits) (waiting : List Envelope) (batches : List (List Envelope)) (pending : List Envelope) → AreLimits limits →
    IsPending envelope_size limits waiting
    → IsDivision envelope_size limits (map message waiting ++ timeout ∷ []) batches pending → AllByRecursion IsBlockData batches
timed_fit limits waiting batches pending bounds waits cut =
    batches_fit limits (map message waiting ++ timeout ∷ []) batches pending bounds
    (subst (AllByRecursion IsSmall) (sym (messages_after waiting (timeout ∷ [])))
    (all_joined IsSmall waiting [] (all_small limits.preferred waiting bounds.preferred waits.together) tt))
    cut
