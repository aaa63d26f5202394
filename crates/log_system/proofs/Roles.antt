-- What a committer and an endorser of a log do are acts of a machine.
use Rattle.std.proofs.Common.{◌≡◌, ◌≢◌, ◌⊎◌, ◌+◌, inl, inr, ℕ, List, [], ◌∷◌, ◌++◌, length, length-take, Option, Result, Ok, Err, refl, sym, ap, subst}
use Rattle.std.proofs.Common.{◌∙◌, arith}
use Rattle.std.proofs.lemmas.List.{length-map}
use Rattle.std.proofs.lemmas.Option.{slice_get_within}
use Rattle.fab_types.specs.declared.block.Block.{Block}
use Rattle.fab_types.specs.declared.envelope.Endorsement.{Endorsement}
use Rattle.fab_types.specs.Payloads.{Payload}
use Rattle.fab_types.specs.declared.proposal.Proposal.{Proposal}
use Rattle.orderer.specs.Ordering.{Ordering}
use Rattle.orderer.specs.declared.report.BatchReport.{BatchReport}
use Rattle.orderer.proofs.Linking.{linked_at}
use Rattle.ledger_model.specs.Chain.{Bytes, Chain, Committed, history}
use Rattle.ledger_model.specs.Execution.{Ending, NotInstalled, Outcome, payload_of}
use Rattle.ledger_model.specs.Judged.{BlockRule, judge}
use Rattle.ledger_model.specs.State.{state}
use Rattle.ledger_model.specs.Views.{Plain, values_of}
use Rattle.committer.specs.Fits.{Fits, blocks_of}
use Rattle.chaincode_book.specs.Books.{Book}
use Rattle.ledger_setting.specs.Rule.{table_of}
use Rattle.simulator.specs.Answers.{Answers, done_or_refusal}
use Rattle.simulator.specs.Execution.{IsPartOf, exec_of}
use Rattle.simulator.specs.declared.refusal.SimRefusal.{SimRefusal}
use Rattle.simulator.specs.declared.refusal.SimRefusal.TheVariants as refusal
use Rattle.store_replay.specs.Lawful.{AreLawful}
use Rattle.log_orderer.specs.Log.{ReadsEach}
use Rattle.log_committer.specs.Committing.{Receives}
use Rattle.endorser.specs.Endorsing.{endorsed_on, sealed_by}
use Rattle.log_committer.specs.declared.receiving.Received.TheVariants as received
use Rattle.log_system.proofs.Firsts.{log_linked}
use Rattle.log_system.specs.Machines.{Does, Endorses, IsRead, Joins, Setting, endorsing_at, endorsing_with, unread}

-- ---- a block of the log that fits is the next one

place_of : (s : Setting) (lines : List (List ℕ)) (place : ℕ) (block : Block) (chain : Chain) → IsRead s lines place block → Fits (blocks_of chain) block →
    place ≡ length chain
place_of s lines place block chain is fits =
    let blocks = is.replica.chain in
    let linked = log_linked s is.replica is.front is.answers is.reads in
    let number = ap (λ h. h.number) (linked_at [] blocks place block linked is.there) in
    let inside = slice_get_within blocks place block is.there in
    let front = length-take place blocks in
    let tall = length-map chain (λ (c : Committed). c.block) in
    let next = fits.number in
    omega (arith, number, inside, front, tall, next)

at_height : (s : Setting) (lines : List (List ℕ)) (place : ℕ) (block : Block) (chain : Chain) → IsRead s lines place block → Fits (blocks_of chain) block →
    IsRead s lines (length chain) block
at_height s lines place block chain is fits = subst (λ (n : ℕ). IsRead s lines n block) (place_of s lines place block chain is fits) is

-- ---- the answers of who has read less

-- one log has one list of answers
abbrev pub OneAnswers : Type 0
OneAnswers =
    (old new other : Ordering) (lines : List (List ℕ)) (answers left : List (Option (List BatchReport))) → ReadsEach old lines answers new →
    ReadsEach old lines left other → (answers ≡ left) × (new ≡ other)

-- the answers of the front of a log are the first ones, and who has read it reads on
pub read_front : (old new : Ordering) (front back : List (List ℕ)) (answers : List (Option (List BatchReport))) → ReadsEach old (front ++ back) answers new →
    (first later : List (Option (List BatchReport))) × (between : Ordering) × (answers ≡ first ++ later) × ReadsEach old front first between
    × ReadsEach between back later new
read_front old new [] back answers reads = ([], answers, old, refl, (refl, refl), reads)
read_front old new (line ∷ front) back answers reads =
    let rest = read_front reads.2 new front back reads.1 reads.5 in (
      reads.0 ∷ rest.0,
      rest.1,
      rest.2,
      reads.3 ∙ ap (λ (l : List (Option (List BatchReport))). reads.0 ∷ l) rest.3,
      (reads.0, rest.0, reads.2, refl, reads.4, rest.4),
      rest.5,
    )

pub replica_answers : OneAnswers → (s : Setting) (front back : List (List ℕ)) (answers some : List (Option (List BatchReport))) (log replica : Ordering) →
    ReadsEach (unread s) (front ++ back) answers log → ReadsEach (unread s) front some replica →
    (later : List (Option (List BatchReport))) × (answers ≡ some ++ later)
replica_answers one s front back answers some log replica all few =
    let split = read_front (unread s) log front back answers all in
    let same = one (unread s) split.2 replica front split.0 some split.4 few in
    (split.1, split.3 ∙ ap (λ (l : List (Option (List BatchReport))). l ++ split.1) same.0)

-- ---- the roles

pub committer_acts : (s : Setting) (lines : List (List ℕ)) (org : Bytes) (place : ℕ) (block : Block) (old new : Chain) → IsRead s lines place block →
    Receives (table_of s.listed) old block (Ok received.Committed) new → (c : Committed) × (c.block ≡ block) × Does s lines org old (Joins c) new
committer_acts s lines org place block old new is commits =
    let rule : BlockRule = table_of s.listed in
    let c : Committed = record { block = block; flags = judge (rule (history old)) (history old) (length old + 1) 0 block.envelopes } in
    (c, refl, (at_height s lines place block old is commits.0.0, commits, commits.1))

pub stored_acts : (s : Setting) (lines : List (List ℕ)) (org : Bytes) (place : ℕ) (stored : Committed) (chain : Chain) → IsRead s lines place stored.block →
    AreLawful (table_of s.listed) chain (stored ∷ []) → Does s lines org chain (Joins stored) (chain ++ stored ∷ [])
stored_acts s lines org place stored chain is lawful =
    let rule : BlockRule = table_of s.listed in
    let c : Committed = record {
      block = stored.block;
      flags = judge (rule (history chain)) (history chain) (length chain + 1) 0 stored.block.envelopes;
    } in
    let same : stored ≡ c = λ i. record { block = stored.block; flags = lawful.1 i } in
    (at_height s lines place stored.block chain is lawful.0, ((lawful.0, tt), ap (λ (x : Committed). chain ++ x ∷ []) same), refl)

answer_is : (wanted result : Result (Payload × Endorsement) SimRefusal) → result ≢ Err refusal.Memory → Answers wanted result → result ≡ wanted
answer_is wanted (Ok made) enough told = sym told
answer_is wanted (Err refusal.Memory) enough told = absurd (enough refl)
answer_is wanted (Err refusal.UnknownChaincode) enough told = sym told
answer_is wanted (Err refusal.NotInstalled) enough told = sym told
answer_is wanted (Err refusal.BadPolicy) enough told = sym told
answer_is wanted (Err refusal.BadMembership) enough told = sym told
answer_is wanted (Err (refusal.Trapped kind used)) enough told = sym told
answer_is wanted (Err refusal.Spent) enough told = sym told
answer_is wanted (Err (refusal.Status n)) enough told = sym told
answer_is wanted (Err refusal.Stale) enough told = sym told

pub endorser_acts : (s : Setting) (lines : List (List ℕ)) (org : Bytes) (chain : Chain) (p : Proposal) (result : Result (Payload × Endorsement) SimRefusal) →
    result ≢ Err refusal.Memory → Answers (endorsed_on (endorsing_at s org) p chain) result →
    Does s lines org chain (Endorses p result) chain
endorser_acts s lines org chain p result enough told =
    (answer_is (endorsed_on (endorsing_at s org) p chain) result enough told, refl)

-- who has fewer modules at hand comes to what who has more comes to, or ends as where a module is not at hand
abbrev pub PartsAnswerAlike : Type 0
PartsAnswerAlike =
    (part whole : Book) → IsPartOf part whole → (p : Proposal) (m : Plain) →
    (exec_of part p m ≡ exec_of whole p m) ⊎ ((exec_of part p m).ending ≡ NotInstalled)

pub part_acts : PartsAnswerAlike → (s : Setting) (lines : List (List ℕ)) (org : Bytes) (chain : Chain) (book : Book) (p : Proposal)
    (result : Result (Payload × Endorsement) SimRefusal) → IsPartOf book s.book → result ≢ Err refusal.Memory →
    Answers (endorsed_on (endorsing_with book s org) p chain) result →
    (result ≡ Err refusal.NotInstalled) ⊎ Does s lines org chain (Endorses p result) chain
part_acts alike s lines org chain book p result part enough told =
    let m = state (history chain) in
    let seal : Payload → Endorsement = s.seal (values_of m) org in
    let answer : Outcome → Result (Payload × Endorsement) SimRefusal = λ o. sealed_by seal (done_or_refusal o.ending (payload_of p m o.seen)) in
    let made = payload_of p m (exec_of book p (values_of m)).seen in
    let is = answer_is (endorsed_on (endorsing_with book s org) p chain) result enough told in
    elim (alike book s.book part p (values_of m)) [
      | inl same ↦ inr (is ∙ ap answer same, refl)
      | inr none ↦ inl (is ∙ ap (λ (e : Ending). sealed_by seal (done_or_refusal e made)) none)
    ]
