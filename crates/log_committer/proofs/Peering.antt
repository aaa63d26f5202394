-- A chain has each block that the log made; so a block of the log is refused only where the chain has another one of its number.
use Rattle.std.proofs.Common.{inl, inr, ◌≡◌, ◌≢◌, ◌≤◌, ◌<◌, ◌⊎◌, ◌+◌, ℕ, zero, suc, List, [], ◌∷◌, ◌++◌, length, Option, Some, None, Result, Ok, refl, sym, ap, subst, ◌∙◌}
use Rattle.std.proofs.Common.{append_assoc, append-nil, arith, length-append, option_map, slice_get}
use Rattle.std.proofs.Math.Nat.{le_trans}
use Rattle.std.proofs.lemmas.List.{append_cancel_left}
use Rattle.std.proofs.lemmas.Option.{same_Some}
use Rattle.fab_types.proofs.Editions.{last_block_most}
use Rattle.fab_types.specs.declared.block.Block.{Block}
use Rattle.wire.specs.Links.{AreLinked, link_from}
use Rattle.ledger_model.specs.Chain.{Bytes, Chain, Committed, history}
use Rattle.ledger_model.specs.Judged.{BlockRule, judge}
use Rattle.committer.specs.Fits.{Fits, blocks_of}
use Rattle.committer.proofs.Last.{length_map, only_memory}
use Rattle.orderer.specs.Arranged.{arranges_by}
use Rattle.orderer.specs.Ordering.{Ordering}
use Rattle.orderer.specs.declared.report.BatchReport.{BatchReport}
use Rattle.orderer.proofs.Linking.{each_linked}
use Rattle.log_orderer.specs.Handed.{HandsOut}
use Rattle.orderer.specs.Headers.{hash_at}
use Rattle.log_orderer.specs.Log.{Reads, ReadsEach}
use Rattle.log_orderer.specs.Reported.{answer_of}
use Rattle.log_orderer.specs.declared.replica.LineReport.{LineReport}
use Rattle.log_committer.specs.Committing.{Receives, ReceivesAll, for_memory, header_hash, own_hash}
use Rattle.log_committer.specs.Peering.{AreCutShort, BeginsAs, HasEach, Held, IsRefusedFor, ReadsLine, made_by}
use Rattle.log_committer.specs.declared.receiving.Received.{Received}
use Rattle.log_committer.specs.declared.receiving.Received.TheVariants as received
use Rattle.log_committer.specs.declared.refusal.ReceiveRefusal.{ReceiveRefusal}
use Rattle.log_committer.specs.declared.refusal.ReceiveRefusal.TheVariants.{Forked, Unfit}
use Rattle.log_committer.proofs.Answering.{one_answer}

-- ---- a chain grows

-- a chain has more behind it, or is as it was
abbrev pub Grows : Chain → Chain → Type 0
Grows old new = (more : Chain) × (new ≡ old ++ more)

block_grows : (rule : BlockRule) (old new : Chain) (block : Block) (told : Received) → Receives rule old block (Ok told) new → Grows old new
block_grows rule old new block received.Committed is =
    (record { block = block; flags = judge (rule (history old)) (history old) (length old + 1) 0 block.envelopes } ∷ [], is.1)
block_grows rule old new block received.Known is = ([], is.1 ∙ sym (append-nil old))

pub grows_on : (old between new : Chain) → Grows old between → Grows between new → Grows old new
grows_on old between new f b = (f.0 ++ b.0, b.1 ∙ ap (λ (c : Chain). c ++ b.0) f.1 ∙ append_assoc old f.0 b.0)

pub blocks_grow : (rule : BlockRule) (old new : Chain) (blocks : List Block) (told : List Received) → ReceivesAll rule old blocks told new → Grows old new
blocks_grow rule old new [] told is = ([], is.1 ∙ sym (append-nil old))
blocks_grow rule old new (block ∷ blocks) told is =
    grows_on old is.2 new (block_grows rule old is.2 block is.0 is.4) (blocks_grow rule is.2 new blocks is.1 is.5)

-- ---- places

at_seam : {X : Type 0} (front : List X) (x : X) (back : List X) → slice_get (front ++ x ∷ back) (length front) ≡ Some x
at_seam [] x back = refl
at_seam (y ∷ front) x back = at_seam front x back

own_seam : (chain : Chain) (c : Committed) → own_hash (chain ++ c ∷ []) (suc (length chain)) ≡ Some (header_hash c.block)
own_seam chain c = ap (option_map (λ own. header_hash own.block)) (at_seam chain c [])

own_within : (chain : Chain) (place : ℕ) (hash : Bytes) → own_hash chain (suc place) ≡ Some hash → place < length chain
own_within [] place hash e = absurd (cc)
own_within (c ∷ chain) zero hash e = omega arith
own_within (c ∷ chain) (suc place) hash e = let h = own_within chain place hash e in omega (arith, h)

own_front : (chain more : Chain) (place : ℕ) → place < length chain → own_hash (chain ++ more) (suc place) ≡ own_hash chain (suc place)
own_front [] more place h = absurd (omega (arith, h))
own_front (c ∷ chain) more zero h = refl
own_front (c ∷ chain) more (suc place) h = own_front chain more place (omega (arith, h))

-- ---- linked blocks

pub linked_parts : (before front back : List Block) → AreLinked before (front ++ back) → AreLinked before front × AreLinked (before ++ front) back
linked_parts before [] back are = (tt, subst (λ (bs : List Block). AreLinked bs back) (sym (append-nil before)) are)
linked_parts before (b ∷ front) back are =
    let later = linked_parts (before ++ b ∷ []) front back are.1 in
    ((are.0, later.0), subst (λ (bs : List Block). AreLinked bs back) (append_assoc before (b ∷ []) front) later.1)

next_number_is : (log back : List Block) (b : Block) → AreLinked [] (log ++ b ∷ back) → b.header.number ≡ suc (length log)
next_number_is log back b are = ap (λ h. h.number) (linked_parts [] log (b ∷ back) are).1.0

-- ---- the chain begins as the log

begins_on : (log : List Block) (chain more : Chain) → BeginsAs log chain → BeginsAs log (chain ++ more)
begins_on [] chain more h = tt
begins_on (b ∷ log) [] more h = absurd h
begins_on (b ∷ log) (c ∷ chain) more h = (h.0, begins_on log chain more h.1)

begins_more : (log : List Block) (chain : Chain) (b : Block) → BeginsAs log chain → own_hash chain (suc (length log)) ≡ Some (header_hash b) →
    BeginsAs (log ++ b ∷ []) chain
begins_more [] [] b h e = absurd (cc)
begins_more [] (c ∷ chain) b h e = (sym (same_Some (header_hash c.block) (header_hash b) e), tt)
begins_more (x ∷ log) [] b h e = absurd h
begins_more (x ∷ log) (c ∷ chain) b h e = (h.0, begins_more log chain b h.1 e)

begins_short : (log : List Block) (chain : Chain) → BeginsAs log chain → length log ≤ length chain
begins_short [] chain h = omega arith
begins_short (b ∷ log) [] h = absurd h
begins_short (b ∷ log) (c ∷ chain) h = let short = begins_short log chain h.1 in omega (arith, short)

begins_link : (link : Bytes) (log : List Block) (chain : Chain) → BeginsAs log chain → length log ≡ length chain →
    link_from link (blocks_of chain) ≡ link_from link log
begins_link link [] [] h e = refl
begins_link link [] (c ∷ chain) h e = absurd (omega (arith, e))
begins_link link (b ∷ log) [] h e = absurd h
begins_link link (b ∷ log) (c ∷ chain) h e =
    ap (λ (l : Bytes). link_from l (blocks_of chain)) (sym h.0) ∙ begins_link (header_hash b) log chain h.1 (omega (arith, e))

-- what the lines made at a number, the chain has there
pub has_hash : (log : List Block) (chain : Chain) (number : ℕ) (hash : Bytes) → BeginsAs log chain → hash_at log number ≡ Some hash →
    own_hash chain number ≡ Some hash
has_hash log chain zero hash h e = absurd (cc)
has_hash [] chain (suc place) hash h e = absurd (cc)
has_hash (b ∷ log) [] (suc place) hash h e = absurd h
has_hash (b ∷ log) (c ∷ chain) (suc zero) hash h e = ap Some (sym h.0) ∙ e
has_hash (b ∷ log) (c ∷ chain) (suc (suc place)) hash h e = has_hash log chain (suc place) hash h.1 e

-- ---- blocks of the log that are received

one_received : (rule : BlockRule) (log : List Block) (chain next : Chain) (b : Block) (told : Received) → HasEach log chain → AreLinked [] (log ++ b ∷ []) →
    length (log ++ b ∷ []) ≤ 4000000000 → Receives rule chain b (Ok told) next → HasEach (log ++ b ∷ []) next
one_received rule log chain next b received.Committed has linked few is =
    let c : Committed = record { block = b; flags = judge (rule (history chain)) (history chain) (length chain + 1) 0 b.envelopes } in
    let number = next_number_is log [] b linked in
    let fits = is.0.0.number in
    let tall : length chain ≡ length log = omega (arith, number, fits, length_map (λ (d : Committed). d.block) chain) in
    let there = subst (λ (n : ℕ). own_hash (chain ++ c ∷ []) (suc n) ≡ Some (header_hash b)) tall (own_seam chain c) in
    record {
      linked = linked;
      few = few;
      same = subst (λ (d : Chain). BeginsAs (log ++ b ∷ []) d) (sym is.1)
          (begins_more log (chain ++ c ∷ []) b (begins_on log chain (c ∷ []) has.same) there);
    }
one_received rule log chain next b received.Known has linked few is =
    let there = subst (λ (n : ℕ). own_hash chain n ≡ Some (header_hash b)) (next_number_is log [] b linked) is.0 in
    record {
      linked = linked;
      few = few;
      same = subst (λ (d : Chain). BeginsAs (log ++ b ∷ []) d) (sym is.1) (begins_more log chain b has.same there);
    }

pub all_received : (rule : BlockRule) (log : List Block) (old new : Chain) (blocks : List Block) (told : List Received) → HasEach log old →
    AreLinked [] (log ++ blocks) → length (log ++ blocks) ≤ 4000000000 → ReceivesAll rule old blocks told new → HasEach (log ++ blocks) new
all_received rule log old new [] told has linked few is =
    subst (λ (bs : List Block). HasEach bs new) (sym (append-nil log)) (subst (λ (c : Chain). HasEach log c) (sym is.1) has)
all_received rule log old new (b ∷ blocks) told has linked few is =
    let more = log ++ b ∷ [] in
    let same : more ++ blocks ≡ log ++ b ∷ blocks = append_assoc log (b ∷ []) blocks in
    let long = ap (λ (bs : List Block). length bs) same in
    let sum = length-append more blocks in
    let all = subst (λ (bs : List Block). AreLinked [] bs) (sym same) linked in
    let next = one_received rule log old is.2 b is.0 has (linked_parts [] more blocks all).0 (omega (arith, few, long, sum)) is.4 in
    subst (λ (bs : List Block). HasEach bs new) same
    (all_received rule more is.2 new blocks is.1 next all (omega (arith, few, long)) is.5)

one_longer : (rule : BlockRule) (log : List Block) (old new : Chain) (b : Block) (told : Received) → AreLinked [] (log ++ b ∷ []) →
    Receives rule old b (Ok told) new → (length new ≤ length old) ⊎ (length new ≤ length (log ++ b ∷ []))
one_longer rule log old new b received.Known linked is = let e = ap (λ (c : Chain). length c) is.1 in inl (omega (arith, e))
one_longer rule log old new b received.Committed linked is =
    let c : Committed = record { block = b; flags = judge (rule (history old)) (history old) (length old + 1) 0 b.envelopes } in
    let number = next_number_is log [] b linked in
    let fits = is.0.0.number in
    let tall = length_map (λ (d : Committed). d.block) old in
    let e = ap (λ (d : Chain). length d) is.1 in
    inr (omega (arith, number, fits, tall, e, length-append old (c ∷ []), length-append log (b ∷ [])))

-- a chain gets no longer than it was, or than the log is
no_longer : (rule : BlockRule) (log : List Block) (old new : Chain) (blocks : List Block) (told : List Received) → AreLinked [] (log ++ blocks) →
    ReceivesAll rule old blocks told new → (length new ≤ length old) ⊎ (length new ≤ length (log ++ blocks))
no_longer rule log old new [] told linked is = let e = ap (λ (c : Chain). length c) is.1 in inl (omega (arith, e))
no_longer rule log old new (b ∷ blocks) told linked is =
    let more = log ++ b ∷ [] in
    let same : more ++ blocks ≡ log ++ b ∷ blocks = append_assoc log (b ∷ []) blocks in
    let all = subst (λ (bs : List Block). AreLinked [] bs) (sym same) linked in
    let long = ap (λ (bs : List Block). length bs) same in
    let first = one_longer rule log old is.2 b is.0 (linked_parts [] more blocks all).0 is.4 in
    let sum = length-append more blocks in
    elim (no_longer rule more is.2 new blocks is.1 all is.5) as (λ _. (length new ≤ length old) ⊎ (length new ≤ length (log ++ b ∷ blocks))) [
      | inl short ↦ elim first as (λ _. (length new ≤ length old) ⊎ (length new ≤ length (log ++ b ∷ blocks))) [
        | inl as_it_was ↦ inl (omega (arith, short, as_it_was))
        | inr grown ↦ inr (omega (arith, short, grown, long, sum))
      ]
      | inr within ↦ inr (omega (arith, within, long))
    ]

-- ---- a block of the log that is refused

fits_next : (log : List Block) (chain : Chain) (b : Block) (back : List Block) → HasEach log chain → AreLinked [] (log ++ b ∷ back) →
    length (log ++ b ∷ back) ≤ 4000000000 → length log ≡ length chain → Fits (blocks_of chain) b
fits_next log chain b back has linked few tall =
    let header = (linked_parts [] log (b ∷ back) linked).1.0 in
    let number = ap (λ h. h.number) header in
    let same = length_map (λ (d : Committed). d.block) chain in
    record {
      room = omega (arith, few, tall, same, length-append log (b ∷ back));
      number = omega (arith, number, tall, same);
      previous_hash = ap (λ h. h.previous_hash) header ∙ sym (begins_link _ log chain has.same tall);
      data_hash = ap (λ h. h.data_hash) header;
    }

pub cut_short : (rule : BlockRule) (log : List Block) (old : Chain) (blocks : List Block) (cause : ReceiveRefusal) → HasEach log old →
    AreLinked [] (log ++ blocks) → length (log ++ blocks) ≤ 4000000000 → AreCutShort rule old blocks cause → IsRefusedFor (log ++ blocks) old cause
cut_short rule log old blocks (Unfit cause) has linked few is =
    let front = log ++ is.front in
    let whole : log ++ blocks ≡ front ++ is.block ∷ is.back =
    ap (λ (bs : List Block). log ++ bs) is.parts ∙ sym (append_assoc log is.front (is.block ∷ is.back)) in
    let all = subst (λ (bs : List Block). AreLinked [] bs) whole linked in
    let many = subst (λ (bs : List Block). length bs ≤ 4000000000) whole few in
    let sum = length-append front (is.block ∷ is.back) in
    let now = all_received rule log old is.between is.front is.told has (linked_parts [] front (is.block ∷ is.back) all).0 (omega (arith, many, sum))
    is.received in
    let number = next_number_is front is.back is.block all in
    let above = is.refused.0 in
    let tall : length front ≡ length is.between = let short = begins_short front is.between now.same in omega (arith, number, above, short) in
    only_memory cause (blocks_of is.between) is.block (fits_next front is.between is.block is.back now all many tall) is.refused.1
cut_short rule log old blocks (Forked n) has linked few is =
    let front = log ++ is.front in
    let place = length front in
    let whole : log ++ blocks ≡ front ++ is.block ∷ is.back =
    ap (λ (bs : List Block). log ++ bs) is.parts ∙ sym (append_assoc log is.front (is.block ∷ is.back)) in
    let all = subst (λ (bs : List Block). AreLinked [] bs) whole linked in
    let number : is.block.header.number ≡ suc place = next_number_is front is.back is.block all in
    let own = is.refused.1.0 in
    let there : own_hash is.between (suc place) ≡ Some own = subst (λ (m : ℕ). own_hash is.between m ≡ Some own) number is.refused.1.1 in
    let inside = own_within is.between place own there in
    let within : place < length old =
    elim (no_longer rule log old is.between is.front is.told (linked_parts [] front (is.block ∷ is.back) all).0 is.received) as (λ _. place < length old) [
      | inl short ↦ omega (arith, inside, short)
      | inr long ↦ absurd (omega (arith, inside, long))
    ] in
    let grown = blocks_grow rule old is.between is.front is.told is.received in
    let kept = sym (own_front old grown.0 place within) ∙ ap (λ (c : Chain). own_hash c (suc place)) (sym grown.1) ∙ there in
    let made : hash_at (log ++ blocks) (suc place) ≡ Some (header_hash is.block) =
    ap (option_map header_hash) (ap (λ (bs : List Block). slice_get bs place) whole ∙ at_seam front is.block is.back) in
    let same : n ≡ suc place = is.refused.0 ∙ number in
    record {
      made = header_hash is.block;
      made_at = subst (λ (m : ℕ). hash_at (log ++ blocks) m ≡ Some (header_hash is.block)) (sym same) made;
      own = own;
      own_at = subst (λ (m : ℕ). own_hash old m ≡ Some own) (sym same) kept;
      differ = is.refused.1.2;
    }

-- ---- a line

abbrev pub IsChainOfLog : List Block → Type 0
IsChainOfLog log = AreLinked [] log × (length log ≤ 4000000000)

line_linked : (old new : Ordering) (line : Bytes) (answer : Option (List BatchReport)) → IsChainOfLog old.chain → Reads old line answer new →
    IsChainOfLog new.chain
line_linked old new line None was reads = subst (λ (o : Ordering). IsChainOfLog o.chain) (sym reads.1) was
line_linked old new line (Some reports) was reads =
    let takes = reads.2 in
    (each_linked (arranges_by old.reorder) old.chain takes.0.batches reports new.chain takes.0.added was.0, le_trans takes.2 (last_block_most old.edition))

-- a line that is read
pub line_kept : (rule : BlockRule) (old : Held) (line : Bytes) (report : LineReport) (told : List Received) (log : Ordering) (chain : Chain) →
    HasEach old.log.chain old.chain → Reads old.log line (answer_of report) log → HandsOut report old.log.chain log.chain →
    ReceivesAll rule old.chain (made_by report) told chain → HasEach log.chain chain
line_kept rule old line report told log chain has reads handed got =
    let new = subst (λ (bs : List Block). IsChainOfLog bs) handed.chain (line_linked old.log log line (answer_of report) (has.linked, has.few) reads) in
    subst (λ (bs : List Block). HasEach bs chain) (sym handed.chain)
    (all_received rule old.log.chain old.chain chain (made_by report) told has new.0 new.1 got)

-- a line that is not
pub line_cut : (rule : BlockRule) (old : Held) (line : Bytes) (report : LineReport) (log : Ordering) (cause : ReceiveRefusal) →
    HasEach old.log.chain old.chain → Reads old.log line (answer_of report) log → HandsOut report old.log.chain log.chain →
    AreCutShort rule old.chain (made_by report) cause → IsRefusedFor log.chain old.chain cause
line_cut rule old line report log cause has reads handed cut =
    let new = subst (λ (bs : List Block). IsChainOfLog bs) handed.chain (line_linked old.log log line (answer_of report) (has.linked, has.few) reads) in
    subst (λ (bs : List Block). IsRefusedFor bs old.chain cause) (sym handed.chain)
    (cut_short rule old.log.chain old.chain (made_by report) cause has new.0 new.1 cut)

-- ---- what a line comes to is one

-- who reads the same lines from the same state on gives the same answers, and has the same state: the law `log_laws`, clause `one`
abbrev pub ReadsOneWay : Type 0
ReadsOneWay =
    (old new other : Ordering) (lines : List (List ℕ)) (answers left : List (Option (List BatchReport))) → ReadsEach old lines answers new →
    ReadsEach old lines left other → (answers ≡ left) × (new ≡ other)

done : (told : Received) → let r : Result Received ReceiveRefusal = Ok told in r ≢ for_memory
done told e = cc

pub one_told : (rule : BlockRule) (old new other : Chain) (blocks : List Block) (told said : List Received) → ReceivesAll rule old blocks told new →
    ReceivesAll rule old blocks said other → (told ≡ said) × (new ≡ other)
one_told rule old new other [] told said a b = (a.0 ∙ sym b.0, a.1 ∙ sym b.1)
one_told rule old new other (block ∷ blocks) told said a b =
    let first = one_answer rule old a.2 b.2 block (Ok a.0) (Ok b.0) (done a.0) (done b.0) a.4 b.4 in
    let same : a.0 ≡ b.0 = let e = first.0 in cc in
    let rest = one_told rule a.2 new other blocks a.1 b.1 a.5 (subst (λ (c : Chain). ReceivesAll rule c blocks b.1 other) (sym first.1) b.5) in
    (a.3 ∙ ap (λ (r : Received). r ∷ a.1) same ∙ ap (λ (rs : List Received). b.0 ∷ rs) rest.0 ∙ sym b.3, rest.1)

pub one_line : ReadsOneWay → (rule : BlockRule) (old new other : Held) (line : Bytes) (report said : LineReport) (told tells : List Received) →
    ReadsLine rule old line report told new → ReadsLine rule old line said tells other →
    (answer_of report ≡ answer_of said) × (made_by report ≡ made_by said) × (told ≡ tells) × (new ≡ other)
one_line reads rule old new other line report said told tells a b =
    let one = reads old.log new.log other.log (line ∷ []) (answer_of report ∷ []) (answer_of said ∷ [])
    (answer_of report, [], new.log, refl, a.reads, (refl, refl)) (answer_of said, [], other.log, refl, b.reads, (refl, refl)) in
    let answer : answer_of report ≡ answer_of said = let e = one.0 in cc in
    let made : made_by report ≡ made_by said =
    append_cancel_left old.log.chain (made_by report) (made_by said)
    (sym a.blocks.chain ∙ ap (λ (o : Ordering). o.chain) one.1 ∙ b.blocks.chain) in
    let got = one_told rule old.chain new.chain other.chain (made_by report) told tells a.received
    (subst (λ (bs : List Block). ReceivesAll rule old.chain bs tells other.chain) (sym made) b.received) in
    (answer, made, got.0, λ i. record { log = one.1 i; chain = got.1 i })
