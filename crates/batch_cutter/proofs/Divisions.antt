-- There is one division, and divisions of one list of marks after another join.
use Rattle.std.proofs.Common.{◌≡◌, ℕ, ◌+◌, ◌<◌, ◌≤◌, List, [], ◌∷◌, ◌++◌, length, map, refl, sym, ap, ◌∙◌, subst, inl, inr, ◌⊎◌, arith, length-append}
use Rattle.std.specs.List.{sum_by}
use Rattle.std.proofs.lemmas.List.{append-nil, append_assoc, map-append}
use Rattle.std.proofs.lemmas.Bool.{cases_lt}
use Rattle.std.proofs.lemmas.List.Sums.{sum_by-cons, sum_by-append}
use Rattle.batch_cutter.specs.Division.{Limits, Mark, message, timeout, from_message, IsStopped, IsEnd, IsBatch, IsPending, IsDivision, IsDivided, messages}
use Rattle.batch_cutter.specs.Division.{concatenate}

from_message-append : {M : Type 0} (xs ys : List (Mark M)) → from_message (xs ++ ys) ≡ from_message (from_message xs ++ ys)
from_message-append [] ys = refl
from_message-append (timeout ∷ xs) ys = from_message-append xs ys
from_message-append (message m ∷ xs) ys = refl

-- a division looks at the marks from the first message on
IsDivision-along : {M : Type 0} (weight : M → ℕ) (limits : Limits) (xs ys : List (Mark M)) (batches : List (List M)) (pending : List M) →
    from_message xs ≡ from_message ys → IsDivision weight limits xs batches pending → IsDivision weight limits ys batches pending
IsDivision-along weight limits xs ys [] pending e d = (sym e ∙ d.0, d.1)
IsDivision-along weight limits xs ys (b ∷ bs) pending e d = (d.0, sym e ∙ d.1, d.2, d.3)

pub IsBatch-filled : {M : Type 0} (weight : M → ℕ) (limits : Limits) (batch : List M) (after : List (Mark M)) → IsBatch weight limits batch after →
    0 < length batch
IsBatch-filled weight limits batch after (inl a) = let e = ap length a.1 in omega arith
IsBatch-filled weight limits batch after (inr o) = o.filled

-- a batch before a division of the marks after it
pub IsDivision-cons : {M : Type 0} (weight : M → ℕ) (limits : Limits) (batch : List M) (after : List (Mark M)) (batches : List (List M)) (pending : List M) →
    IsBatch weight limits batch after → IsDivision weight limits after batches pending →
    IsDivision weight limits (map message batch ++ after) (batch ∷ batches) pending
IsDivision-cons weight limits [] after batches pending h d =
    absurd (omega (arith, IsBatch-filled weight limits [] after h))
IsDivision-cons weight limits (m ∷ ms) after batches pending h d = (after, refl, h, d)

-- no batch is a proper beginning of another, or of what is pending
goes_on : {M : Type 0} (weight : M → ℕ) (limits : Limits) (batch : List M) (m : M) (more : List M) (after : List (Mark M)) →
    IsBatch weight limits batch (message m ∷ after) → length (batch ++ m ∷ more) ≤ limits.count → sum_by weight (batch ++ m ∷ more) ≤ limits.preferred → ⊥
goes_on weight limits batch m more after (inl a) c s =
    let e = ap (sum_by weight) a.1 in
    let one = sum_by-cons weight a.0 [] in
    omega (arith, sum_by-append weight batch (m ∷ more), a.2)
goes_on weight limits batch m more after (inr o) c s =
    elim o.ends as (λ _. ⊥) [
      | inl full ↦ omega (arith, length-append batch (m ∷ more))
      | inr stopped ↦ omega (arith, sum_by-append weight batch (m ∷ more), sum_by-cons weight m more)
    ]

goes_on_in_pending : {M : Type 0} (weight : M → ℕ) (limits : Limits) (batch more : List M) → IsBatch weight limits batch (map message more) →
    IsPending weight limits (batch ++ more) → ⊥
goes_on_in_pending weight limits batch [] (inl a) p =
    let e = ap (sum_by weight) a.1 in
    let one = sum_by-cons weight a.0 [] in
    omega (arith, sum_by-append weight batch [], a.2, p.together)
goes_on_in_pending weight limits batch [] (inr o) p =
    elim o.ends as (λ _. ⊥) [ inl full ↦ omega (arith, length-append batch [], p.counted) | inr stopped ↦ stopped ]
goes_on_in_pending weight limits batch (m ∷ more) h p =
    let counted = p.counted in
    goes_on weight limits batch m more (map message more) h (omega arith) p.together

not_longer : {M : Type 0} (weight : M → ℕ) (limits : Limits) (batch more : List M) (after : List (Mark M)) →
    IsBatch weight limits batch (map message more ++ after) → IsBatch weight limits (batch ++ more) after → more ≡ []
not_longer weight limits batch [] after h k = refl
not_longer weight limits batch (m ∷ more) after h (inl a) =
    let e = ap length a.1 in
    let filled = IsBatch-filled weight limits batch (map message (m ∷ more) ++ after) h in
    absurd (omega (arith, length-append batch (m ∷ more)))
not_longer weight limits batch (m ∷ more) after h (inr o) =
    absurd (goes_on weight limits batch m more (map message more ++ after) h o.counted o.together)

-- two lists of messages before other marks: the one begins with the other
abbrev Begins : {M : Type 0} → List M → List M → List (Mark M) → List (Mark M) → Type 0
Begins {M} short long after rest =
    (more : List M) × (long ≡ short ++ more) × (after ≡ map message more ++ rest)

beginnings : {M : Type 0} (xs ys : List M) (after rest : List (Mark M)) → map message xs ++ after ≡ map message ys ++ rest →
    Begins xs ys after rest ⊎ Begins ys xs rest after
beginnings [] ys after rest e = inl (ys, refl, e)
beginnings (x ∷ xs) [] after rest e = inr (x ∷ xs, refl, sym e)
beginnings {M} (x ∷ xs) (y ∷ ys) after rest e =
    let head : x ≡ y = cc in
    let tail : map message xs ++ after ≡ map message ys ++ rest = cc in
    elim (beginnings xs ys after rest tail) as (λ _. Begins (x ∷ xs) (y ∷ ys) after rest ⊎ Begins (y ∷ ys) (x ∷ xs) rest after) [
      | inl b ↦ let long : y ∷ ys ≡ x ∷ (xs ++ b.0) = cc (b.1) in inl (b.0, long, b.2)
      | inr b ↦ let long : x ∷ xs ≡ y ∷ (ys ++ b.0) = cc (b.1) in inr (b.0, long, b.2)
    ]

messages_alone : {M : Type 0} (xs ys : List M) (rest : List (Mark M)) → map message xs ≡ map message ys ++ rest →
    (more : List M) × (xs ≡ ys ++ more) × (rest ≡ map message more)
messages_alone xs [] rest e = (xs, refl, sym e)
messages_alone [] (y ∷ ys) rest e = absurd (cc)
messages_alone (x ∷ xs) (y ∷ ys) rest e =
    let head : x ≡ y = cc in
    let tail : map message xs ≡ map message ys ++ rest = cc in
    let b = messages_alone xs ys rest tail in
    let whole : x ∷ xs ≡ y ∷ (ys ++ b.0) = cc (b.1) in
    (b.0, whole, b.2)

messages_same : {M : Type 0} (xs ys : List M) → map {A = M} {B = Mark M} message xs ≡ map message ys → xs ≡ ys
messages_same [] [] e = refl
messages_same [] (y ∷ ys) e = absurd (cc)
messages_same (x ∷ xs) [] e = absurd (cc)
messages_same (x ∷ xs) (y ∷ ys) e =
    let head : x ≡ y = cc in
    let tail : xs ≡ ys = messages_same xs ys (cc) in
    cc

-- the first batch is one and the same
first_batch_longer : {M : Type 0} (weight : M → ℕ) (limits : Limits) (xs ys : List M) (after rest : List (Mark M)) → IsBatch weight limits xs after →
    IsBatch weight limits ys rest → Begins xs ys after rest → (xs ≡ ys) × (after ≡ rest)
first_batch_longer {M} weight limits xs ys after rest h k b =
    let h2 : IsBatch weight limits xs (map message b.0 ++ rest) = subst (λ (a : List (Mark M)). IsBatch weight limits xs a) b.2 h in
    let k2 : IsBatch weight limits (xs ++ b.0) rest = subst (λ (a : List M). IsBatch weight limits a rest) b.1 k in
    let none : b.0 ≡ [] = not_longer weight limits xs b.0 rest h2 k2 in
    (sym (b.1 ∙ ap (λ (a : List M). xs ++ a) none ∙ append-nil xs), b.2 ∙ ap (λ (a : List M). map message a ++ rest) none)

first_batch : {M : Type 0} (weight : M → ℕ) (limits : Limits) (xs ys : List M) (after rest : List (Mark M)) → IsBatch weight limits xs after →
    IsBatch weight limits ys rest → map message xs ++ after ≡ map message ys ++ rest → (xs ≡ ys) × (after ≡ rest)
first_batch {M} weight limits xs ys after rest h k e =
    elim (beginnings xs ys after rest e) as (λ _. (xs ≡ ys) × (after ≡ rest)) [
      | inl b ↦ first_batch_longer weight limits xs ys after rest h k b
      | inr b ↦ let r = first_batch_longer weight limits ys xs rest after k h b in (sym r.0, sym r.1)
    ]

-- pending messages hold no batch
no_batch_pending : {M : Type 0} (weight : M → ℕ) (limits : Limits) (pending batch : List M) (after : List (Mark M)) → IsPending weight limits pending →
    IsBatch weight limits batch after → map message pending ≡ map message batch ++ after → ⊥
no_batch_pending {M} weight limits pending batch after p h e =
    let b = messages_alone pending batch after e in
    goes_on_in_pending weight limits batch b.0 (subst (λ (a : List (Mark M)). IsBatch weight limits batch a) b.2 h)
    (subst (λ (a : List M). IsPending weight limits a) b.1 p)

-- there is at most one division
pub IsDivision-one : {M : Type 0} (weight : M → ℕ) (limits : Limits) (marks : List (Mark M)) (batches others : List (List M)) (pending rest : List M) →
    IsDivision weight limits marks batches pending → IsDivision weight limits marks others rest → (batches ≡ others) × (pending ≡ rest)
IsDivision-one weight limits marks [] [] pending rest d k =
    (refl, messages_same pending rest (sym d.0 ∙ k.0))
IsDivision-one weight limits marks [] (c ∷ cs) pending rest d k =
    absurd (no_batch_pending weight limits pending c k.0 d.1 k.2 (sym d.0 ∙ k.1))
IsDivision-one weight limits marks (b ∷ bs) [] pending rest d k =
    absurd (no_batch_pending weight limits rest b d.0 k.1 d.2 (sym k.0 ∙ d.1))
IsDivision-one {M} weight limits marks (b ∷ bs) (c ∷ cs) pending rest d k =
    let f = first_batch weight limits b c d.0 k.0 d.2 k.2 (sym d.1 ∙ k.1) in
    let r = IsDivision-one weight limits k.0 bs cs pending rest (subst (λ (a : List (Mark M)). IsDivision weight limits a bs pending) f.1 d.3) k.3 in
    let whole : b ∷ bs ≡ c ∷ cs = cc (f.0, r.0) in
    (whole, r.1)

IsStopped-append : {M : Type 0} (weight : M → ℕ) (limits : Limits) (size : ℕ) (after more : List (Mark M)) → IsStopped weight limits size after →
    IsStopped weight limits size (after ++ more)
IsStopped-append weight limits size [] more h = absurd h
IsStopped-append weight limits size (timeout ∷ after) more h = tt
IsStopped-append weight limits size (message m ∷ after) more h = h

IsBatch-append : {M : Type 0} (weight : M → ℕ) (limits : Limits) (batch : List M) (after more : List (Mark M)) → IsBatch weight limits batch after →
    IsBatch weight limits batch (after ++ more)
IsBatch-append weight limits batch after more (inl a) = inl a
IsBatch-append weight limits batch after more (inr o) =
    inr record {
      filled = o.filled;
      counted = o.counted;
      together = o.together;
      ends =
          elim o.ends as (λ _. IsEnd weight limits batch (after ++ more))
          [ inl full ↦ inl full | inr stopped ↦ inr (IsStopped-append weight limits (sum_by weight batch) after more stopped) ];
    }

from_message-batch : {M : Type 0} (batch : List M) (after more : List (Mark M)) → 0 < length batch →
    from_message ((map message batch ++ after) ++ more) ≡ map message batch ++ (after ++ more)
from_message-batch [] after more h = absurd (omega arith)
from_message-batch (m ∷ ms) after more h = ap (λ (a : List (Mark _)). message m ∷ a) (append_assoc (map message ms) after more)

-- what a division leaves pending goes before the next marks
pub IsDivision-join : {M : Type 0} (weight : M → ℕ) (limits : Limits) (marks next : List (Mark M)) (batches more : List (List M)) (pending rest : List M) →
    IsDivision weight limits marks batches pending → IsDivision weight limits (map message pending ++ next) more rest →
    IsDivision weight limits (marks ++ next) (batches ++ more) rest
IsDivision-join {M} weight limits marks next [] more pending rest d k =
    IsDivision-along weight limits (map message pending ++ next) (marks ++ next) more rest
    (ap (λ (a : List (Mark M)). from_message (a ++ next)) (sym d.0) ∙ sym (from_message-append marks next)) k
IsDivision-join {M} weight limits marks next (b ∷ bs) more pending rest d k =
    let filled = IsBatch-filled weight limits b d.0 d.2 in (
      d.0 ++ next,
      from_message-append marks next ∙ ap (λ (a : List (Mark M)). from_message (a ++ next)) d.1 ∙
          from_message-batch b d.0 next filled,
      IsBatch-append weight limits b d.0 next d.2,
      IsDivision-join weight limits d.0 next bs more pending rest d.3 k,
    )

-- what one mark does
pub timeout_cuts : {M : Type 0} (weight : M → ℕ) (limits : Limits) (pending : List M) → IsPending weight limits pending → 0 < length pending →
    IsDivision weight limits (map message pending ++ timeout ∷ []) (pending ∷ []) []
timeout_cuts weight limits pending p h =
    let counted = p.counted in
    IsDivision-cons weight limits pending (timeout ∷ []) [] [] (inr record { filled = h; counted = omega arith; together = p.together; ends = inr tt })
    (refl, record { counted = omega arith; together = omega arith })

pub nothing_cut : {M : Type 0} (weight : M → ℕ) (limits : Limits) → 0 < limits.count → IsDivision {M = M} weight limits (timeout ∷ []) [] []
nothing_cut weight limits h = (refl, record { counted = h; together = omega arith })

pub not_empty : {M : Type 0} (weight : M → ℕ) (limits : Limits) (pending : List M) (m : M) → weight m ≤ limits.preferred →
    limits.preferred < sum_by weight pending + weight m → 0 < length pending
not_empty weight limits [] m small s = absurd (omega arith)
not_empty weight limits (x ∷ xs) m small s = omega arith

-- the pending messages before a message that would take them above the preferred size
pub stopped : {M : Type 0} (weight : M → ℕ) (limits : Limits) (pending : List M) (m : M) → IsPending weight limits pending → 0 < length pending →
    limits.preferred < sum_by weight pending + weight m → IsBatch weight limits pending (message m ∷ [])
stopped weight limits pending m p h s =
    let counted = p.counted in
    inr record { filled = h; counted = omega arith; together = p.together; ends = inr s }

pub large_alone : {M : Type 0} (weight : M → ℕ) (limits : Limits) (m : M) → 0 < limits.count → limits.preferred < weight m →
    IsDivision weight limits (message m ∷ []) ((m ∷ []) ∷ []) []
large_alone weight limits m h s =
    IsDivision-cons weight limits (m ∷ []) [] [] [] (inl (m, refl, s)) (refl, record { counted = h; together = omega arith })

pub large_after : {M : Type 0} (weight : M → ℕ) (limits : Limits) (pending : List M) (m : M) → IsPending weight limits pending → 0 < length pending →
    limits.preferred < weight m → IsDivision weight limits (map message pending ++ message m ∷ []) (pending ∷ (m ∷ []) ∷ []) []
large_after weight limits pending m p h s =
    let counted = p.counted in
    IsDivision-cons weight limits pending (message m ∷ []) ((m ∷ []) ∷ []) [] (stopped weight limits pending m p h (omega arith))
    (large_alone weight limits m (omega arith) s)

pub cut_before : {M : Type 0} (weight : M → ℕ) (limits : Limits) (pending : List M) (m : M) → IsPending weight limits pending → 0 < length pending →
    weight m ≤ limits.preferred → limits.preferred < sum_by weight pending + weight m →
    IsDivision weight limits (map message pending ++ message m ∷ []) (pending ∷ []) (m ∷ [])
cut_before weight limits pending m p h small s =
    let counted = p.counted in
    let one = sum_by-cons weight m [] in
    IsDivision-cons weight limits pending (message m ∷ []) [] (m ∷ []) (stopped weight limits pending m p h s)
    (refl, record { counted = omega arith; together = omega arith })

pub kept : {M : Type 0} (weight : M → ℕ) (limits : Limits) (pending : List M) (m : M) → IsPending weight limits (pending ++ m ∷ []) →
    IsDivision weight limits (map message pending ++ message m ∷ []) [] (pending ++ m ∷ [])
kept weight limits [] m p = (refl, p)
kept weight limits (x ∷ xs) m p = (sym (map-append message (x ∷ xs) (m ∷ [])), p)

pub filled : {M : Type 0} (weight : M → ℕ) (limits : Limits) (pending : List M) (m : M) → length pending + 1 ≡ limits.count →
    sum_by weight pending + weight m ≤ limits.preferred → IsDivision weight limits (map message pending ++ message m ∷ []) ((pending ++ m ∷ []) ∷ []) []
filled {M} weight limits pending m c s =
    let len = length-append pending (m ∷ []) in
    let sum = sum_by-append weight pending (m ∷ []) in
    let one = sum_by-cons weight m [] in
    let batch : IsBatch weight limits (pending ++ m ∷ []) [] =
    inr record { filled = omega arith; counted = omega arith; together = omega arith; ends = inl (omega arith) } in
    let d = IsDivision-cons weight limits (pending ++ m ∷ []) [] [] [] batch (refl, record { counted = omega arith; together = omega arith }) in
    subst (λ (a : List (Mark M)). IsDivision weight limits a ((pending ++ m ∷ []) ∷ []) [])
    (append-nil (map message (pending ++ m ∷ [])) ∙ map-append message pending (m ∷ [])) d

pub pending_of : {M : Type 0} (weight : M → ℕ) (limits : Limits) (marks : List (Mark M)) (batches : List (List M)) (pending : List M) →
    IsDivision weight limits marks batches pending → IsPending weight limits pending
pending_of weight limits marks [] pending d = d.1
pending_of weight limits marks (b ∷ bs) pending d = pending_of weight limits d.0 bs pending d.3

one_small : {M : Type 0} (weight : M → ℕ) (limits : Limits) → (pending : List M) (m : M) → IsPending weight limits pending → weight m ≤ limits.preferred →
    IsDivided weight limits (map message pending ++ message m ∷ [])
one_small weight limits pending m p small =
    let counted = p.counted in
    let together = p.together in
    let len = length-append pending (m ∷ []) in
    let sum = sum_by-append weight pending (m ∷ []) in
    let one = sum_by-cons weight m [] in
    elim (cases_lt limits.preferred (sum_by weight pending + weight m)) as (λ _. IsDivided weight limits (map message pending ++ message m ∷ [])) [
      | inl s ↦ (pending ∷ [], m ∷ [], cut_before weight limits pending m p (not_empty weight limits pending m small s) small s)
      | inr s ↦
          elim (cases_lt (length pending + 1) limits.count) as (λ _. IsDivided weight limits (map message pending ++ message m ∷ [])) [
            | inl c ↦ ([], pending ++ m ∷ [], kept weight limits pending m record { counted = omega arith; together = omega arith })
            | inr c ↦ ((pending ++ m ∷ []) ∷ [], [], filled weight limits pending m (omega arith) s)
          ]
    ]

one_more : {M : Type 0} (weight : M → ℕ) (limits : Limits) → 0 < limits.count → (pending : List M) (mark : Mark M) → IsPending weight limits pending →
    IsDivided weight limits (map message pending ++ mark ∷ [])
one_more weight limits h [] timeout p = ([], [], nothing_cut weight limits h)
one_more weight limits h (x ∷ xs) timeout p = ((x ∷ xs) ∷ [], [], timeout_cuts weight limits (x ∷ xs) p (omega arith))
one_more weight limits h [] (message m) p =
    elim (cases_lt limits.preferred (weight m)) as (λ _. IsDivided weight limits (message m ∷ [])) [
      | inl s ↦ ((m ∷ []) ∷ [], [], large_alone weight limits m h s)
      | inr s ↦ one_small weight limits [] m p s
    ]
one_more weight limits h (x ∷ xs) (message m) p =
    elim (cases_lt limits.preferred (weight m)) as (λ _. IsDivided weight limits (map message (x ∷ xs) ++ message m ∷ [])) [
      | inl s ↦ ((x ∷ xs) ∷ (m ∷ []) ∷ [], [], large_after weight limits (x ∷ xs) m p (omega arith) s)
      | inr s ↦ one_small weight limits (x ∷ xs) m p s
    ]

whole : {M : Type 0} (weight : M → ℕ) (limits : Limits) (pending : List M) → IsPending weight limits pending →
    IsDivision weight limits (map message pending ++ []) [] pending
whole weight limits [] p = (refl, p)
whole weight limits (x ∷ xs) p = (append-nil (map message (x ∷ xs)), p)

-- there is a division of any marks after pending messages
divided : {M : Type 0} (weight : M → ℕ) (limits : Limits) → 0 < limits.count → (marks : List (Mark M)) (pending : List M) → IsPending weight limits pending →
    IsDivided weight limits (map message pending ++ marks)
divided weight limits h [] pending p = ([], pending, whole weight limits pending p)
divided {M} weight limits h (mark ∷ marks) pending p =
    let one = one_more weight limits h pending mark p in
    let next = divided weight limits h marks one.1 (pending_of weight limits (map message pending ++ mark ∷ []) one.0 one.1 one.2) in
    let d = IsDivision-join weight limits (map message pending ++ mark ∷ []) marks one.0 next.0 one.1 next.1 one.2 next.2 in (
      one.0 ++ next.0,
      next.1,
      subst (λ (a : List (Mark M)). IsDivision weight limits a (one.0 ++ next.0) next.1) (append_assoc (map message pending) (mark ∷ []) marks) d,
    )

-- there is a division of any marks
pub IsDivision-some : {M : Type 0} (weight : M → ℕ) (limits : Limits) → 0 < limits.count → (marks : List (Mark M)) → IsDivided weight limits marks
IsDivision-some weight limits h marks =
    divided weight limits h marks [] record { counted = h; together = omega arith }

-- a division has each message, in its order
messages_from : {M : Type 0} (marks : List (Mark M)) → messages marks ≡ messages (from_message marks)
messages_from [] = refl
messages_from (timeout ∷ marks) = messages_from marks
messages_from (message m ∷ marks) = refl

messages-append : {M : Type 0} (xs : List M) (after : List (Mark M)) → messages (map message xs ++ after) ≡ xs ++ messages after
messages-append [] after = refl
messages-append (x ∷ xs) after = ap (λ (a : List _). x ∷ a) (messages-append xs after)

messages-map : {M : Type 0} (xs : List M) → messages (map message xs) ≡ xs
messages-map [] = refl
messages-map (x ∷ xs) = ap (λ (a : List _). x ∷ a) (messages-map xs)

pub IsDivision-messages : {M : Type 0} (weight : M → ℕ) (limits : Limits) (marks : List (Mark M)) (batches : List (List M)) (pending : List M) →
    IsDivision weight limits marks batches pending → messages marks ≡ concatenate batches ++ pending
IsDivision-messages {M} weight limits marks [] pending d =
    messages_from marks ∙ ap (λ (a : List (Mark M)). messages a) d.0 ∙ messages-map pending
IsDivision-messages {M} weight limits marks (b ∷ bs) pending d =
    messages_from marks ∙ ap (λ (a : List (Mark M)). messages a) d.1 ∙ messages-append b d.0 ∙
    ap (λ (a : List M). b ++ a) (IsDivision-messages weight limits d.0 bs pending d.3) ∙ sym (append_assoc b (concatenate bs) pending)

-- no batch could have ended before its last message, and none could end among those that wait
pub no_end_inside : {M : Type 0} (weight : M → ℕ) (limits : Limits) (front : List M) (m : M) (back : List M) (after : List (Mark M)) →
    length (front ++ m ∷ back) ≤ limits.count → sum_by weight (front ++ m ∷ back) ≤ limits.preferred → IsEnd weight limits front (message m ∷ after) → ⊥
no_end_inside weight limits front m back after c s e =
    elim e as (λ _. ⊥) [
      | inl full ↦ omega (arith, length-append front (m ∷ back))
      | inr stopped ↦ omega (arith, sum_by-append weight front (m ∷ back), sum_by-cons weight m back)
    ]

pub no_end_pending : {M : Type 0} (weight : M → ℕ) (limits : Limits) (front back : List M) → IsPending weight limits (front ++ back) →
    IsEnd weight limits front (map message back) → ⊥
no_end_pending weight limits front [] p e =
    elim e as (λ _. ⊥) [ inl full ↦ omega (arith, length-append front [], p.counted) | inr stopped ↦ stopped ]
no_end_pending weight limits front (m ∷ back) p e =
    let counted = p.counted in
    no_end_inside weight limits front m back (map message back) (omega arith) p.together e
