-- The marks of blocks, read where nothing waits, make these blocks again.
use Rattle.std.proofs.Common.{inl, inr, ◌⊎◌, ◌≡◌, ◌≤◌, ◌<◌, ◌+◌, ◌++◌, ℕ, Bool, List, [], ◌∷◌, length, length-append, map, codes, Option, Some}
use Rattle.std.proofs.Common.{refl, sym, ap, subst, arith}
use Rattle.std.proofs.lemmas.List.{append-nil, append_assoc}
use Rattle.std.proofs.lemmas.List.Sums.{sum_by-append, sum_by-cons}
use Rattle.std.proofs.lemmas.Bool.{cases_lt}
use Rattle.std.specs.List.{AllByRecursion, sum_by}
use Rattle.hex.specs.Hex.{IsBytes}
use Rattle.hex.proofs.HexLemmas.{decode_of-encode_lower}
use Rattle.batch_cutter.specs.Division.{IsDivision, IsPending, Limits, Mark, message, timeout}
use Rattle.batch_cutter.proofs.Divisions.{filled, kept, large_alone, nothing_cut, timeout_cuts}
use Rattle.fab_types.specs.BlockSpelling.{envelope_bytes}
use Rattle.fab_types.specs.BlockWithin.{IsEnvelope}
use Rattle.fab_types.specs.Editions.{last_block}
use Rattle.fab_types.specs.Size.{envelope_size}
use Rattle.fab_types.specs.declared.block.Block.{Block}
use Rattle.fab_types.specs.declared.block.Header.{Header}
use Rattle.fab_types.specs.declared.envelope.Envelope.{Envelope}
use Rattle.reorder.specs.Stale.{indices}
use Rattle.orderer.specs.Arranged.{arranges_by}
use Rattle.orderer.specs.Blocks.{Adds, AddsEach, AreLinked, next_block, next_number, number_of, with_batch}
use Rattle.orderer.specs.Ordering.{AreLimits, IsTooLarge, Ordering, Takes}
use Rattle.orderer.specs.Places.{envelopes_at}
use Rattle.orderer.specs.declared.report.BatchReport.{BatchReport}
use Rattle.orderer.proofs.Picking.{all_picked}
use Rattle.log_orderer.specs.Lines.{IsMark}
use Rattle.log_orderer.specs.Log.{Reads, ReadsEach}
use Rattle.log_orderer.specs.Marks.{block_marks, envelope_mark, marks_of}
use Rattle.log_orderer.proofs.Logging.{log_joined}

-- a line can have it, and it is taken
pub record IsTakable (limits : Limits) (e : Envelope) : Type 0 where
  pub within : IsEnvelope e
  pub bytes : IsBytes (envelope_bytes e)
  pub small : envelope_size e ≤ limits.absolute

-- as many as a batch may have
pub record IsFew (limits : Limits) (es : List Envelope) : Type 0 where
  pub counted : length es ≤ limits.count
  pub together : sum_by envelope_size es ≤ limits.preferred

-- envelopes that are a batch by themselves, and whose arrangement is as they stand
pub record IsOwnBatch (limits : Limits) (reorder : Bool) (es : List Envelope) : Type 0 where
  pub some : 0 < length es
  pub whole : (length es ≡ 1) ⊎ IsFew limits es
  pub lines : AllByRecursion (IsTakable limits) es
  pub arranged : arranges_by reorder es (indices es) []

-- an orderer with this chain, where these wait
abbrev pub at : Ordering → List Block → List Envelope → Ordering
at o chain pending = record { edition = o.edition; reorder = o.reorder; limits = o.limits; pending = pending; chain = chain }

abbrev report_of : List Block → List Envelope → BatchReport
report_of chain es = record { block = Some (next_number chain); count = length es; aborted = [] }

is_mark : (limits : Limits) (e : Envelope) → IsTakable limits e → IsMark (envelope_mark e) (message e)
is_mark limits e t = (t.within, decode_of-encode_lower (envelope_bytes e) t.bytes)

-- ---- one line

-- a batch of its own becomes a block as it stands
adds_own : (reorder : Bool) (chain : List Block) (es : List Envelope) → 0 < length es → arranges_by reorder es (indices es) []
    → AddsEach (arranges_by reorder) chain (es ∷ []) (report_of chain es ∷ []) (chain ++ next_block chain es ∷ [])
adds_own reorder chain [] some arranged = absurd (omega (arith, some))
adds_own reorder chain (e ∷ es) some arranged =
    let batch : List Envelope = e ∷ es in
    let same : envelopes_at batch (indices batch) ≡ batch = all_picked batch in
    let adds : Adds (arranges_by reorder) chain batch (report_of chain batch) (chain ++ next_block chain batch ∷ []) = record {
      order = indices batch;
      arranged = arranged;
      chain = sym (ap (λ (xs : List Envelope). with_batch chain xs) same);
      number = sym (ap (λ (xs : List Envelope). number_of chain xs) same);
      count = sym (ap (λ (xs : List Envelope). length xs) same);
    } in
    (report_of chain batch, [], chain ++ next_block chain batch ∷ [], refl, adds, (refl, refl))

-- an envelope that waits with those before it
waits_on : (o : Ordering) (chain : List Block) (done : List Envelope) (e : Envelope) → IsPending envelope_size o.limits (done ++ e ∷ [])
    → IsTakable o.limits e → length chain ≤ last_block o.edition → Reads (at o chain done) (envelope_mark e) (Some []) (at o chain (done ++ e ∷ []))
waits_on o chain done e waits t room =
    let takes : Takes (at o chain done) (message e) [] (at o chain (done ++ e ∷ [])) = record {
      batches = [];
      cut = kept envelope_size o.limits done e waits;
      added = (refl, refl);
      limits = refl;
      reorder = refl;
      edition = refl;
    } in
    (message e, is_mark o.limits e t, (takes, (λ large. omega (arith, large, t.small)), room))

-- a mark that cuts a batch of its own
cuts_one : (o : Ordering) (chain : List Block) (done es : List Envelope) (mark : Mark Envelope) (line : List ℕ) → IsMark line mark
    → IsDivision envelope_size o.limits (map message done ++ mark ∷ []) (es ∷ []) [] → ¬ IsTooLarge o.limits mark → 0 < length es
    → arranges_by o.reorder es (indices es) [] → length chain < last_block o.edition
    → Reads (at o chain done) line (Some (report_of chain es ∷ [])) (at o (chain ++ next_block chain es ∷ []) [])
cuts_one o chain done es mark line is cut small some arranged room =
    let takes : Takes (at o chain done) mark (report_of chain es ∷ []) (at o (chain ++ next_block chain es ∷ []) []) = record {
      batches = es ∷ [];
      cut = cut;
      added = adds_own o.reorder chain es some arranged;
      limits = refl;
      reorder = refl;
      edition = refl;
    } in
    (mark, is, (takes, small, omega (arith, room, length-append chain (next_block chain es ∷ []))))

-- a tick where nothing waits
idles : (o : Ordering) (chain : List Block) → 0 < o.limits.count → length chain ≤ last_block o.edition
    → Reads (at o chain []) (codes "tick") (Some []) (at o chain [])
idles o chain some room =
    let takes : Takes (at o chain []) timeout [] (at o chain []) = record {
      batches = [];
      cut = nothing_cut envelope_size o.limits some;
      added = (refl, refl);
      limits = refl;
      reorder = refl;
      edition = refl;
    } in
    (timeout, refl, (takes, (λ large. large), room))

-- ---- a block

-- the rest of a block's marks, where those before it wait
abbrev ReadsRest : Ordering → List Block → (done rest : List Envelope) → Type 0
ReadsRest o chain done rest =
    (answers : List (Option (List BatchReport))) ×
    ReadsEach (at o chain done) (map envelope_mark rest ++ codes "tick" ∷ []) answers (at o (chain ++ next_block chain (done ++ rest) ∷ []) [])

-- the last envelope ends the batch, and the tick finds nothing
ended : (o : Ordering) (chain : List Block) (done : List Envelope) (e : Envelope) → AreLimits o.limits → IsTakable o.limits e
    → IsDivision envelope_size o.limits (map message done ++ message e ∷ []) ((done ++ e ∷ []) ∷ []) []
    → arranges_by o.reorder (done ++ e ∷ []) (indices (done ++ e ∷ [])) [] → length chain < last_block o.edition → ReadsRest o chain done (e ∷ [])
ended o chain done e bounds t cut arranged room =
    let es = done ++ e ∷ [] in
    let longer = chain ++ next_block chain es ∷ [] in
    let some : 0 < length es = omega (arith, length-append done (e ∷ [])) in
    let first = cuts_one o chain done es (message e) (envelope_mark e) (is_mark o.limits e t) cut (λ large. omega (arith, large, t.small)) some arranged room in
    let last = idles o longer bounds.some (omega (arith, room, length-append chain (next_block chain es ∷ []))) in (
      Some (report_of chain es ∷ []) ∷ Some [] ∷ [],
      (
        Some (report_of chain es ∷ []),
        Some [] ∷ [],
        at o longer [],
        refl,
        first,
        (Some [], [], at o longer [], refl, last, (refl, refl)),
      ),
    )

-- where the batch is full, nothing is left
full : (o : Ordering) (chain : List Block) (done : List Envelope) (e : Envelope) (rest : List Envelope) → AreLimits o.limits
    → IsFew o.limits (done ++ e ∷ rest) → length done < o.limits.count → o.limits.count ≤ length done + 1 → IsTakable o.limits e
    → arranges_by o.reorder (done ++ e ∷ rest) (indices (done ++ e ∷ rest)) [] → length chain < last_block o.edition → ReadsRest o chain done (e ∷ rest)
full o chain done e [] bounds few less past t arranged room =
    let sum = sum_by-append envelope_size done (e ∷ []) in
    let one = sum_by-cons envelope_size e [] in
    ended o chain done e bounds t
    (filled envelope_size o.limits done e (omega (arith, less, past)) (omega (arith, few.together, sum, one))) arranged room
full o chain done e (x ∷ rest) bounds few less past t arranged room =
    absurd (omega (arith, few.counted, length-append done (e ∷ x ∷ rest), past))

read_rest : (o : Ordering) (chain : List Block) (done rest : List Envelope) → AreLimits o.limits → IsFew o.limits (done ++ rest)
    → length done < o.limits.count → 0 < length (done ++ rest) → AllByRecursion (IsTakable o.limits) rest
    → arranges_by o.reorder (done ++ rest) (indices (done ++ rest)) [] → length chain < last_block o.edition → ReadsRest o chain done rest
read_rest o chain done [] bounds few less some ok arranged room =
    let whole : done ++ [] ≡ done = append-nil done in
    let alone : IsFew o.limits done = subst (IsFew o.limits) whole few in
    let filled_is : 0 < length done = subst (λ (es : List Envelope). 0 < length es) whole some in
    let as_it_is = subst (λ (es : List Envelope). arranges_by o.reorder es (indices es) []) whole arranged in
    let waits : IsPending envelope_size o.limits done = record { counted = less; together = alone.together } in
    let last = cuts_one o chain done done timeout (codes "tick") refl (timeout_cuts envelope_size o.limits done waits filled_is) (λ large. large)
    filled_is as_it_is room in
    let after = λ (es : List Envelope). at o (chain ++ next_block chain es ∷ []) [] in
    let read : ReadsEach (at o chain done) (codes "tick" ∷ []) (Some (report_of chain done ∷ []) ∷ []) (after done) =
    (Some (report_of chain done ∷ []), [], after done, refl, last, (refl, refl)) in (
      Some (report_of chain done ∷ []) ∷ [],
      subst (λ (es : List Envelope). ReadsEach (at o chain done) (codes "tick" ∷ []) (Some (report_of chain done ∷ []) ∷ []) (after es)) (sym whole) read,
    )
read_rest o chain done (e ∷ rest) bounds few less some ok arranged room =
    let next : (done ++ e ∷ []) ++ rest ≡ done ++ e ∷ rest = append_assoc done (e ∷ []) rest in
    let more = length-append done (e ∷ []) in
    let sum = sum_by-append envelope_size done (e ∷ rest) in
    let sum_first = sum_by-append envelope_size done (e ∷ []) in
    let one = sum_by-cons envelope_size e [] in
    let others = sum_by-cons envelope_size e rest in
    elim (cases_lt (length done + 1) o.limits.count) as (λ _. ReadsRest o chain done (e ∷ rest)) [
      | inl room_is ↦
          let longer = done ++ e ∷ [] in
          let waits : IsPending envelope_size o.limits longer = record {
            counted = omega (arith, more, room_is);
            together = omega (arith, few.together, sum, sum_first, one, others);
          } in
          let first = waits_on o chain done e waits ok.0 (omega (arith, room)) in
          let later = read_rest o chain longer rest bounds (subst (IsFew o.limits) (sym next) few) (omega (arith, more, room_is))
          (subst (λ (es : List Envelope). 0 < length es) (sym next) some) ok.1
          (subst (λ (es : List Envelope). arranges_by o.reorder es (indices es) []) (sym next) arranged) room in
          let rest_read = subst (λ (es : List Envelope). ReadsEach (at o chain longer) (map envelope_mark rest ++ codes "tick" ∷ []) later.0
          (at o (chain ++ next_block chain es ∷ []) [])) next later.1 in
          (Some [] ∷ later.0, (Some [], later.0, at o chain longer, refl, first, rest_read))
      | inr past ↦ full o chain done e rest bounds few less past ok.0 arranged room
    ]

-- an envelope alone
read_alone : (o : Ordering) (chain : List Block) (es : List Envelope) → AreLimits o.limits → length es ≡ 1 → AllByRecursion (IsTakable o.limits) es
    → arranges_by o.reorder es (indices es) [] → length chain < last_block o.edition → ReadsRest o chain [] es
read_alone o chain [] bounds one ok arranged room = absurd (omega (arith, one))
read_alone o chain (e ∷ []) bounds one ok arranged room =
    elim (cases_lt o.limits.preferred (envelope_size e)) as (λ _. ReadsRest o chain [] (e ∷ [])) [
      | inl large ↦ ended o chain [] e bounds ok.0 (large_alone envelope_size o.limits e bounds.some large) arranged room
      | inr small ↦
          let sum = sum_by-cons envelope_size e [] in
          let few : IsFew o.limits (e ∷ []) = record { counted = omega (arith, bounds.some); together = omega (arith, small, sum) } in
          read_rest o chain [] (e ∷ []) bounds few bounds.some (omega arith) ok arranged room
    ]
read_alone o chain (e ∷ x ∷ es) bounds one ok arranged room = absurd (omega (arith, one))

read_block : (o : Ordering) (chain : List Block) (es : List Envelope) → AreLimits o.limits → IsOwnBatch o.limits o.reorder es
    → length chain < last_block o.edition → ReadsRest o chain [] es
read_block o chain es bounds own room =
    elim own.whole as (λ _. ReadsRest o chain [] es) [
      | inl one ↦ read_alone o chain es bounds one own.lines own.arranged room
      | inr few ↦ read_rest o chain [] es bounds few bounds.some own.some own.lines own.arranged room
    ]

-- ---- a chain

-- a linked block is the next one of its envelopes
own_header : (before : List Block) (b : Block) (blocks : List Block) → AreLinked before (b ∷ blocks) → next_block before b.envelopes ≡ b
own_header before b blocks linked = ap (λ (h : Header). record b { header = h }) (sym linked.0)

pub read_blocks : (o : Ordering) (before blocks : List Block) → AreLimits o.limits
    → AllByRecursion (λ (b : Block). IsOwnBatch o.limits o.reorder b.envelopes) blocks → AreLinked before blocks
    → length (before ++ blocks) ≤ last_block o.edition
    → (answers : List (Option (List BatchReport))) × ReadsEach (at o before []) (marks_of blocks) answers (at o (before ++ blocks) [])
read_blocks o before [] bounds own linked room = ([], (refl, ap (λ (chain : List Block). at o chain []) (append-nil before)))
read_blocks o before (b ∷ blocks) bounds own linked room =
    let next : (before ++ b ∷ []) ++ blocks ≡ before ++ b ∷ blocks = append_assoc before (b ∷ []) blocks in
    let size = length-append before (b ∷ blocks) in
    let here = read_block o before b.envelopes bounds own.0 (omega (arith, room, size)) in
    let first = subst (λ (x : Block). ReadsEach (at o before []) (block_marks b) here.0 (at o (before ++ x ∷ []) [])) (own_header before b blocks linked)
    here.1 in
    let later = read_blocks o (before ++ b ∷ []) blocks bounds own.1 linked.1 (omega (arith, room, ap (λ (bs : List Block). length bs) next)) in
    let all = log_joined (at o before []) (at o (before ++ b ∷ []) []) (at o ((before ++ b ∷ []) ++ blocks) []) (block_marks b) (marks_of blocks)
    here.0 later.0 first later.1 in (
      here.0 ++ later.0,
      subst (λ (chain : List Block). ReadsEach (at o before []) (marks_of (b ∷ blocks)) (here.0 ++ later.0) (at o chain [])) next all,
    )
