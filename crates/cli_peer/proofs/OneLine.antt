-- Two peers that read one log are in one state, and print one text of a line.
use Rattle.std.proofs.Common.{◌≡◌, ◌≢◌, ◌⊎◌, ◌∙◌, ◌++◌, ◌+◌, inl, inr, ℕ, false, List, [], ◌∷◌, Option, Some, None, Result, Ok, ap, ap₂, refl, subst, sym}
use Rattle.std.proofs.lemmas.List.{append_cancel_left}
use Rattle.std.specs.Str.Lossy.{utf8_lossy}
use Rattle.batch_cutter.specs.Division.{Mark}
use Rattle.fab_types.specs.declared.block.Block.{Block}
use Rattle.fab_types.specs.declared.envelope.Envelope.{Envelope}
use Rattle.ledger_model.specs.Chain.{Bytes, Chain}
use Rattle.ledger_model.specs.Judged.{BlockRule}
use Rattle.ledger_setting.specs.Rule.{table_of}
use Rattle.orderer.specs.Ordering.{Ordering}
use Rattle.orderer.specs.declared.report.BatchReport.{BatchReport}
use Rattle.log_orderer.specs.Lines.{IsMark}
use Rattle.log_orderer.specs.Log.{Reads, ReadsEach}
use Rattle.log_orderer.specs.Reported.{answer_of}
use Rattle.log_orderer.specs.declared.replica.LineReport.{LineReport}
use Rattle.log_committer.specs.Committing.{Receives, ReceivesAll, for_memory}
use Rattle.log_committer.specs.Peering.{Held, ReadsLine, made_by}
use Rattle.log_committer.specs.declared.receiving.Received.{Received}
use Rattle.log_committer.specs.declared.refusal.ReceiveRefusal.{ReceiveRefusal}
use Rattle.log_peer.specs.Peering.{told_by}
use Rattle.cli_peer.specs.Alike.{AreAlike, AsksForBlocks, LogsNoEnvelope, ReadsBack, SpellsNoEnvelope, logged_by, logged_in}
use Rattle.peer_answers.specs.Answering.{Peer}
use Rattle.cli_peer.specs.Filters.{AreDone}
use Rattle.peer_answers.specs.Lines.{Asks, Logs, Said, said_in}
use Rattle.cli_peer.specs.Logged.{IsLogged, Reached, TellsEntry}
use Rattle.cli_peer.specs.Peering.{DoesLine, DoesSaid}
use Rattle.peer_answers.specs.declared.log_genesis.LogGenesis.{LogGenesis}
use Rattle.cli_peer.proofs.OneAnswer.{AreSpellings, one_asked}
use Rattle.cli_peer.proofs.OneEntry.{entry_once}

-- what holds of all who read one log, and of all who receive one block
pub record AreOne : Type 0 where
  pub mark : (line : List ℕ) (a b : Mark Envelope) → IsMark line a → IsMark line b → a ≡ b
  pub log : (old new other : Ordering) (lines : List (List ℕ)) (answers left : List (Option (List BatchReport))) → ReadsEach old lines answers new →
      ReadsEach old lines left other → (answers ≡ left) × (new ≡ other)
  pub block : (rule : BlockRule) (old new other : Chain) (block : Block) (a b : Result Received ReceiveRefusal) → a ≢ for_memory → b ≢ for_memory →
      Receives rule old block a new → Receives rule old block b other → (a ≡ b) × (new ≡ other)

-- ---- a line of the log

first_is : {X : Type 0} (x y : X) → x ∷ [] ≡ y ∷ [] → x ≡ y
first_is x y same = cc same

reads_once : AreOne → (old new other : Ordering) (line : Bytes) (a b : Option (List BatchReport)) → Reads old line a new → Reads old line b other →
    (a ≡ b) × (new ≡ other)
reads_once laws old new other line a b x y =
    let same = laws.log old new other (line ∷ []) (a ∷ []) (b ∷ []) (a, [], new, refl, x, (refl, refl)) (b, [], other, refl, y, (refl, refl)) in
    (first_is a b same.0, same.1)

abbrev is_received : Received → Result Received ReceiveRefusal
is_received r = Ok r

no_want : (r : Received) → is_received r ≢ for_memory
no_want r = λ is. absurd (cc is)

receives_once : AreOne → (rule : BlockRule) (old new other : Chain) (blocks : List Block) (told left : List Received) → ReceivesAll rule old blocks told new →
    ReceivesAll rule old blocks left other → (told ≡ left) × (new ≡ other)
receives_once laws rule old new other [] told left x y = (x.0 ∙ sym y.0, x.1 ∙ sym y.1)
receives_once laws rule old new other (b ∷ blocks) told left x y =
    let same = laws.block rule old x.2 y.2 b (is_received x.0) (is_received y.0) (no_want x.0) (no_want y.0) x.4 y.4 in
    let first : x.0 ≡ y.0 = let is = same.0 in cc is in
    let rest = receives_once laws rule y.2 new other blocks x.1 y.1 (subst (λ (c : Chain). ReceivesAll rule c blocks x.1 new) same.1 x.5) y.5 in
    (x.3 ∙ ap₂ (λ (r : Received) (rs : List Received). r ∷ rs) first rest.0 ∙ sym y.3, rest.1)

-- one state, and one list of what the blocks came to
pub line_once : AreOne → (rule : BlockRule) (old new other : Held) (text : Bytes) (a b : LineReport) (told left : List Received) →
    ReadsLine rule old text a told new → ReadsLine rule old text b left other → (answer_of a ≡ answer_of b) × ((told ≡ left) × (new ≡ other))
line_once laws rule old new other text a b told left x y =
    let read = reads_once laws old.log new.log other.log text (answer_of a) (answer_of b) x.reads y.reads in
    let made : made_by a ≡ made_by b =
    append_cancel_left old.log.chain (made_by a) (made_by b) (sym x.blocks.chain ∙ ap (λ (o : Ordering). o.chain) read.1 ∙ y.blocks.chain) in
    let got = receives_once laws rule old.chain new.chain other.chain (made_by b) told left
    (subst (λ (blocks : List Block). ReceivesAll rule old.chain blocks told new.chain) made x.received) y.received in
    (read.0, (got.0, λ i. record { log = read.1 i; chain = got.1 i }))

logged_once : AreOne → (log : LogGenesis) (old new other : Reached) (index place said text out : Bytes) → IsLogged log old index said text new →
    IsLogged log old place said out other → new ≡ other
logged_once laws log old new other index place said text out x y =
    let held = (line_once laws (table_of log.genesis.rules.value) old.held new.held other.held said x.report y.report (told_by x.told) (told_by y.told) x.reads
    y.reads).1.1 in
    let begun = x.begun ∙ sym y.begun in
    λ i. record { held = held i; begun = begun i }

-- ---- the lines of the log among others

-- these lines of the log are read
abbrev LogsEach : LogGenesis → Reached → List Bytes → Reached → Type 0
LogsEach log old [] new = new ≡ old
LogsEach log old (said ∷ later) new = (mid : Reached) × (index text : Bytes) × IsLogged log old index said text mid × LogsEach log mid later new

logs_once : AreOne → (log : LogGenesis) (lines : List Bytes) (old new other : Reached) → LogsEach log old lines new → LogsEach log old lines other → new ≡ other
logs_once laws log [] old new other x y = x ∙ sym y
logs_once laws log (said ∷ later) old new other x y =
    let mid = logged_once laws log old x.0 y.0 x.1 y.1 said x.2 y.2 x.3 y.3 in
    logs_once laws log later y.0 new other (subst (λ (r : Reached). LogsEach log r later new) mid x.4) y.4

-- a line is one of the log, or changes nothing
one_logs : (p : Peer) (number : ℕ) (old mid new : Reached) (l text : Bytes) (s : Option Said) (later : List Bytes) → DoesSaid p number old l s text mid →
    LogsEach p.log mid later new → LogsEach p.log old (logged_by s ++ later) new
one_logs p number old mid new l text (Some (Logs index said)) later does rest = (mid, index, text, does, rest)
one_logs p number old mid new l text (Some (Asks request tag words)) later does rest = subst (λ (r : Reached). LogsEach p.log r later new) does.1 rest
one_logs p number old mid new l text None later does rest = subst (λ (r : Reached). LogsEach p.log r later new) does.1 rest

done_logs : (p : Peer) (lines : List Bytes) (number : ℕ) (old new : Reached) (text : Bytes) → AreDone (DoesLine p) number old lines text new →
    LogsEach p.log old (logged_in lines) new
done_logs p [] number old new text done = done.1
done_logs p (l ∷ lines) number old new text done =
    one_logs p number old done.2 new l done.0 (said_in (utf8_lossy l)) (logged_in lines) done.3 (done_logs p lines (number + 1) done.2 new done.1 done.4)

-- whoever read the same lines of a log, from one state on, is in one state
pub state_once : AreOne → (p : Peer) (number count : ℕ) (old new other : Reached) (lines others : List Bytes) (text out : Bytes) →
    AreDone (DoesLine p) number old lines text new → AreDone (DoesLine p) count old others out other → logged_in lines ≡ logged_in others → new ≡ other
state_once laws p number count old new other lines others text out x y same =
    logs_once laws p.log (logged_in others) old new other
    (subst (λ (ls : List Bytes). LogsEach p.log old ls new) same (done_logs p lines number old new text x)) (done_logs p others count old other out y)

-- ---- what a line comes to

entry_alike : AreOne → (log : LogGenesis) (old new other : Reached) (index said text out : Bytes) → IsLogged log old index said text new →
    IsLogged log old index said out other → (text ≡ out) ⊎ SpellsNoEnvelope said
entry_alike laws log old new other index said text out x y =
    let same = line_once laws (table_of log.genesis.rules.value) old.held new.held other.held said x.report y.report (told_by x.told) (told_by y.told) x.reads
    y.reads in
    let tells = subst (λ (h : Held). TellsEntry log h index said x.told text) same.1.1 x.tells in
    entry_once laws.mark log old.held.log other.held index said x.report y.report x.told y.told x.is y.is same.0 new.held.log other.held.log text out
    x.reads.reads x.reads.ids y.reads.ids x.reads.blocks y.reads.blocks x.reads.why y.reads.why same.1.0 tells y.tells

-- one text, but for bytes that spell no envelope, and for what a file gives back
abbrev SaysOne : Peer → (text out : Bytes) → Option Said → Type 0
SaysOne p text out s = ((text ≡ out) ⊎ LogsNoEnvelope s) ⊎ ((p.keeps ≡ false) × AsksForBlocks s)

said_once : AreOne → AreSpellings → (p : Peer) (number : ℕ) (old new other : Reached) (l text out : Bytes) (s : Option Said) →
    DoesSaid p number old l s text new → DoesSaid p number old l s out other → (new ≡ other) × SaysOne p text out s
said_once laws spellings p number old new other l text out (Some (Logs index said)) x y =
    (logged_once laws p.log old new other index index said text out x y, inl (entry_alike laws p.log old new other index said text out x y))
said_once laws spellings p number old new other l text out (Some (Asks request tag words)) x y = (
  x.1 ∙ sym y.1,
  elim (one_asked spellings p number old.held.chain l request tag words text out x.0 y.0) [
    | inl same ↦ inl (inl same)
    | inr read ↦ inr read
  ],
)
said_once laws spellings p number old new other l text out None x y = (x.1 ∙ sym y.1, inl (inl (x.0 ∙ sym y.0)))

pub answer_once : AreOne → AreSpellings → (p : Peer) (number : ℕ) (old new other : Reached) (l text out : Bytes) → DoesLine p number old l text new →
    DoesLine p number old l out other → (new ≡ other) × (AreAlike l text out ⊎ ReadsBack p l)
answer_once laws spellings p number old new other l text out x y =
    said_once laws spellings p number old new other l text out (said_in (utf8_lossy l)) x y
