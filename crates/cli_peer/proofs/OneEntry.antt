-- What is printed of a line of the log is one, but for the fault of bytes that spell no envelope.
use Rattle.std.proofs.Common.{◌≡◌, ◌≢◌, ◌⊎◌, ◌++◌, inl, inr, ℕ, List, [], ◌∷◌, map, Option, Some, None, Ok, codes, refl, sym, ap, ap₂, subst, ◌∙◌, append-nil}
use Rattle.std.proofs.lemmas.Option.{same_Some}
use Rattle.std.specs.List.{flat_map, slice_get, zip, AllByRecursion, AllZip}
use Rattle.std.specs.Option.{MatchOption, option_to_list}
use Rattle.hex.specs.Hex.{decode_of}
use Rattle.batch_cutter.specs.Division.{Mark, message, timeout}
use Rattle.fab_types.specs.declared.block.Block.{Block}
use Rattle.fab_types.specs.declared.envelope.Envelope.{Envelope}
use Rattle.ledger_model.specs.Chain.{Bytes, Chain}
use Rattle.orderer.specs.Making.{number_in}
use Rattle.orderer.specs.Ordering.{IsTooLarge, Ordering}
use Rattle.orderer.specs.declared.arrangement.AbortCause.{AbortCause}
use Rattle.orderer.specs.declared.report.BatchReport.{BatchReport}
use Rattle.log_orderer.specs.Handed.{HandsOut, batches_of}
use Rattle.log_orderer.specs.Ids.{ids_of}
use Rattle.log_orderer.specs.Lines.{IsMark}
use Rattle.log_orderer.specs.Log.{Reads}
use Rattle.log_orderer.specs.Reported.{IsTrueOf, answer_of, reports_of}
use Rattle.log_orderer.specs.Skipped.{IsSkippedBy}
use Rattle.log_orderer.specs.Told.{AreNamed, IsNamed, TellsIds}
use Rattle.log_orderer.specs.declared.batch.LogBatch.{LogBatch}
use Rattle.log_orderer.specs.declared.replica.LineReport.{LineReport}
use Rattle.log_orderer.specs.declared.replica.LineReport.TheVariants as line
use Rattle.log_orderer.specs.declared.skip.Skip.{Skip}
use Rattle.log_orderer.specs.declared.skip.Skip.TheVariants.{NoHex, EndedEarly, EnvelopeLength, NotCanonical, Limit, BytesLeft, TooLarge, NoNumber}
use Rattle.log_committer.specs.Peering.{Held}
use Rattle.log_committer.specs.declared.receiving.Received.{Received}
use Rattle.log_peer.specs.Peering.{IsBatchOf, IsOfBlock, IsReportOf, batches_in, told_by, told_of}
use Rattle.log_peer.specs.declared.peering.PeerBatch.{PeerBatch}
use Rattle.log_peer.specs.declared.peering.PeerReport.{PeerReport}
use Rattle.log_peer.specs.declared.peering.PeerReport.TheVariants as peer
use Rattle.cli_peer.specs.Alike.{SpellsNoEnvelope}
use Rattle.cli_peer.specs.Logged.{TellsEntry, TellsReport, TellsSeen, TellsText, batch_text, block_text}
use Rattle.cli_peer.specs.Printed.{left_out_text, read_text, skipped_text}
use Rattle.peer_answers.specs.Seen.{IsUnsigned, Sighting, TellsFork}
use Rattle.peer_answers.specs.declared.log_genesis.LogGenesis.{LogGenesis}
use Rattle.cli_peer.proofs.Entries.{told_are}
use Rattle.cli_peer.proofs.OneSighting.{one_fork, one_seen, one_unsigned}

abbrev IsOneMark : Type 0
IsOneMark = (line : List ℕ) (a b : Mark Envelope) → IsMark line a → IsMark line b → a ≡ b

-- ---- why a line is skipped

-- a line with a mark is `tick` or hex
has_hex : (line : Bytes) (mark : Mark Envelope) → IsMark line mark → (line ≢ codes "tick") × ((bytes : Bytes) → decode_of line ≢ Ok bytes) → ⊥
has_hex line (message e) is none = none.1 _ is.1
has_hex line timeout is none = none.0 is

too_large : IsOneMark → (old : Ordering) (line : Bytes) (a b : Mark Envelope) → IsMark line a → IsMark line b → IsTooLarge old.limits a →
    ¬ IsTooLarge old.limits b → ⊥
too_large one old line a b is_a is_b large fits = fits (subst (λ (m : Mark Envelope). IsTooLarge old.limits m) (one line a b is_a is_b) large)

one_skip : IsOneMark → (old : Ordering) (line : Bytes) (a b : Skip) → IsSkippedBy a old line → IsSkippedBy b old line → (a ≡ b) ⊎ SpellsNoEnvelope line
one_skip one old line NoHex NoHex x y = inl refl
one_skip one old line TooLarge TooLarge x y = inl refl
one_skip one old line NoNumber NoNumber x y = inl refl
one_skip one old line NoHex TooLarge x y = absurd (has_hex line y.0 y.1 x)
one_skip one old line NoHex NoNumber x y = absurd (has_hex line y.0 y.1 x)
one_skip one old line TooLarge NoHex x y = absurd (has_hex line x.0 x.1 y)
one_skip one old line NoNumber NoHex x y = absurd (has_hex line x.0 x.1 y)
one_skip one old line TooLarge NoNumber x y = absurd (too_large one old line x.0 y.0 x.1 y.1 x.2 y.2.fits)
one_skip one old line NoNumber TooLarge x y = absurd (too_large one old line y.0 x.0 y.1 x.1 y.2 x.2.fits)
one_skip one old line EndedEarly b x y = inr (x.0, (x.1.0, x.1.1))
one_skip one old line EnvelopeLength b x y = inr (x.0, (x.1.0, x.1.1))
one_skip one old line NotCanonical b x y = inr (x.0, (x.1.0, x.1.1))
one_skip one old line Limit b x y = inr (x.0, (x.1.0, x.1.1))
one_skip one old line BytesLeft b x y = inr (x.0, (x.1.0, x.1.1))
one_skip one old line a EndedEarly x y = inr (y.0, (y.1.0, y.1.1))
one_skip one old line a EnvelopeLength x y = inr (y.0, (y.1.0, y.1.1))
one_skip one old line a NotCanonical x y = inr (y.0, (y.1.0, y.1.1))
one_skip one old line a Limit x y = inr (y.0, (y.1.0, y.1.1))
one_skip one old line a BytesLeft x y = inr (y.0, (y.1.0, y.1.1))

-- ---- the batches that a line ended

told_is : (told : PeerReport) → told_by told ≡ told_of (batches_in told)
told_is (peer.Accepted id batches) = refl
told_is (peer.Ticked batch) = refl
told_is (peer.Skipped skip) = refl

some_same : {X : Type 0} (xs ys : List X) → map Some xs ≡ map Some ys → xs ≡ ys
some_same [] [] same = refl
some_same [] (y ∷ ys) same = absurd (cc same)
some_same (x ∷ xs) [] same = absurd (cc same)
some_same {X} (x ∷ xs) (y ∷ ys) same =
    let first : x ≡ y = cc same in
    let rest : map Some xs ≡ map Some ys = cc same in
    ap (λ (z : X). z ∷ xs) first ∙ ap (λ (zs : List X). y ∷ zs) (some_same xs ys rest)

-- what a block came to stands first, where there is one
one_received : (a b : Option Block) (r s : Option Received) (ts us : List Received) → IsOfBlock a r → IsOfBlock b s → number_in a ≡ number_in b →
    option_to_list r ++ ts ≡ option_to_list s ++ us → (r ≡ s) × (ts ≡ us)
one_received None None None None ts us x y number same = (refl, same)
one_received (Some a) (Some b) (Some r) (Some s) ts us x y number same =
    let first : r ≡ s = cc same in (ap (λ (t : Received). Some t) first, cc same)
one_received None (Some b) r s ts us x y number same = absurd (cc number)
one_received (Some a) None r s ts us x y number same = absurd (cc number)
one_received None None (Some r) s ts us x y number same = absurd x
one_received None None None (Some s) ts us x y number same = absurd y
one_received (Some a) (Some b) None s ts us x y number same = absurd x
one_received (Some a) (Some b) (Some r) None ts us x y number same = absurd y

abbrev HasNumber : LogBatch → Type 0
HasNumber batch = batch.report.block ≡ number_in batch.block

-- what is told of a batch by a chain is told by the chain, whoever hands its block out
text_of : (chain : Chain) (u v : PeerBatch) → u.report ≡ v.report → u.aborted ≡ v.aborted → u.received ≡ v.received → batch_text chain u ≡ batch_text chain v
text_of chain u v report aborted received =
    λ i. flat_map left_out_text (zip (aborted i) (report i).aborted) ++ block_text chain (report i).block (received i)

one_batch : (chain : Chain) (x y : LogBatch) (u v : PeerBatch) (e : List Envelope) (ts us : List Received) → IsBatchOf x u → IsBatchOf y v →
    x.report ≡ y.report → IsNamed e x → IsNamed e y → HasNumber x → HasNumber y →
    option_to_list u.received ++ ts ≡ option_to_list v.received ++ us → (batch_text chain u ≡ batch_text chain v) × (ts ≡ us)
one_batch chain x y u v e ts us is_x is_y report named other own its same =
    let left = λ (r : BatchReport). map (λ (l : ℕ × AbortCause). slice_get (ids_of e) l.0) r.aborted in
    let aborted : x.aborted ≡ y.aborted = some_same x.aborted y.aborted (named ∙ ap left report ∙ sym other) in
    let number : number_in x.block ≡ number_in y.block = sym own ∙ ap (λ (r : BatchReport). r.block) report ∙ its in
    let got = one_received x.block y.block u.received v.received ts us is_x.2 is_y.2 number same in
    let reports : u.report ≡ v.report = is_x.0 ∙ report ∙ sym is_y.0 in
    let ids : u.aborted ≡ v.aborted = is_x.1 ∙ aborted ∙ sym is_y.1 in
    (text_of chain u v reports ids got.0, got.1)

one_told : (chain : Chain) (xs ys : List LogBatch) (us vs : List PeerBatch) (cut : List (List Envelope)) → AllZip IsBatchOf xs us →
    AllZip IsBatchOf ys vs → reports_of xs ≡ reports_of ys → AllZip IsNamed cut xs → AllZip IsNamed cut ys → AllByRecursion HasNumber xs →
    AllByRecursion HasNumber ys → told_of us ≡ told_of vs → flat_map (batch_text chain) us ≡ flat_map (batch_text chain) vs
one_told chain [] [] [] [] cut a b reports named other own its told = refl
one_told chain [] (y ∷ ys) us vs cut a b reports named other own its told = absurd (cc reports)
one_told chain (x ∷ xs) [] us vs cut a b reports named other own its told = absurd (cc reports)
one_told chain [] [] (u ∷ us) vs cut a b reports named other own its told = absurd a
one_told chain [] [] [] (v ∷ vs) cut a b reports named other own its told = absurd b
one_told chain (x ∷ xs) (y ∷ ys) [] vs cut a b reports named other own its told = absurd a
one_told chain (x ∷ xs) (y ∷ ys) (u ∷ us) [] cut a b reports named other own its told = absurd b
one_told chain (x ∷ xs) (y ∷ ys) (u ∷ us) (v ∷ vs) [] a b reports named other own its told = absurd named
one_told chain (x ∷ xs) (y ∷ ys) (u ∷ us) (v ∷ vs) (e ∷ es) a b reports named other own its told =
    let first : x.report ≡ y.report = cc reports in
    let later : reports_of xs ≡ reports_of ys = cc reports in
    let got = one_batch chain x y u v e (told_of us) (told_of vs) a.0 b.0 first named.0 other.0 own.0 its.0 told in
    let rest = one_told chain xs ys us vs es a.1 b.1 later named.1 other.1 own.1 its.1 got.1 in
    ap₂ (λ (front back : Bytes). front ++ back) got.0 rest

-- the line tells the ids of what its mark cut
named_by : IsOneMark → (a : LineReport) (old : Ordering) (said : Bytes) (mark : Mark Envelope) (reports : List BatchReport) → answer_of a ≡ Some reports →
    IsMark said mark → TellsIds a old said → AreNamed old mark (batches_of a)
named_by one (line.Accepted id batches) old said mark reports answer is ids =
    subst (λ (m : Mark Envelope). AreNamed old m batches) (one said (message ids.0) mark ids.1 is) ids.3
named_by one (line.Ticked batch) old said mark reports answer is ids =
    subst (λ (m : Mark Envelope). AreNamed old m (option_to_list batch)) (one said timeout mark ids.0 is) ids.1
named_by one (line.Skipped skip) old said mark reports answer is ids = absurd (cc answer)

-- two reports of one line, which was not skipped, and with one list of what their blocks came to, tell the same batches
one_report : IsOneMark → (chain : Chain) (old new next other : Ordering) (said : Bytes) (a b : LineReport) (t u : PeerReport) →
    answer_of a ≡ Some (reports_of (batches_of a)) → answer_of b ≡ Some (reports_of (batches_of b)) → answer_of a ≡ answer_of b →
    Reads old said (answer_of a) new → IsReportOf a t → IsReportOf b u → TellsIds a old said → TellsIds b old said → HandsOut a old.chain next.chain →
    HandsOut b old.chain other.chain → told_by t ≡ told_by u →
    flat_map (batch_text chain) (batches_in t) ≡ flat_map (batch_text chain) (batches_in u)
one_report one chain old new next other said a b t u some_a some_b same reads is_t is_u ids its has have told =
    let taken = subst (λ (r : Option (List BatchReport)). Reads old said r new) some_a reads in
    let mark = taken.0 in
    let takes = taken.2.0 in
    let named = named_by one a old said mark (reports_of (batches_of a)) some_a taken.1 ids takes.batches new.pending takes.cut in
    let others = named_by one b old said mark (reports_of (batches_of b)) some_b taken.1 its takes.batches new.pending takes.cut in
    let reports = same_Some (reports_of (batches_of a)) (reports_of (batches_of b)) (sym some_a ∙ same ∙ some_b) in
    one_told chain (batches_of a) (batches_of b) (batches_in t) (batches_in u) takes.batches (told_are a t is_t) (told_are b u is_u) reports named others
    has.own have.own (sym (told_is t) ∙ told ∙ told_is u)

-- ---- what is printed of a line

abbrev TellsBatches : PeerReport → Type 0
TellsBatches t = (log : LogGenesis) (held : Held) (index said text : Bytes) → TellsReport log held index said t text →
    text ≡ flat_map (batch_text held.chain) (batches_in t)

abbrev WasSkipped : LineReport → PeerReport → Type 0
WasSkipped a t = (skip : Skip) × (a ≡ line.Skipped skip) × (t ≡ peer.Skipped skip)

abbrev WasTaken : LineReport → PeerReport → Type 0
WasTaken a t = (answer_of a ≡ Some (reports_of (batches_of a))) × TellsBatches t

-- it was skipped, or its batches are told
skipped_or_taken : (a : LineReport) (t : PeerReport) → IsReportOf a t → WasSkipped a t ⊎ WasTaken a t
skipped_or_taken (line.Accepted id batches) (peer.Accepted told others) is = inr (refl, λ log held index said text tells. tells)
skipped_or_taken (line.Ticked batch) (peer.Ticked None) is = inr (refl, λ log held index said text tells. tells)
skipped_or_taken (line.Ticked batch) (peer.Ticked (Some told)) is =
    inr (refl, λ log held index said text tells. tells ∙ sym (append-nil (batch_text held.chain told)))
skipped_or_taken (line.Skipped skip) (peer.Skipped told) is = inl (skip, refl, ap (λ (s : Skip). peer.Skipped s) is)
skipped_or_taken (line.Accepted id batches) (peer.Ticked told) is = absurd is
skipped_or_taken (line.Accepted id batches) (peer.Skipped told) is = absurd is
skipped_or_taken (line.Ticked batch) (peer.Accepted told others) is = absurd is
skipped_or_taken (line.Ticked batch) (peer.Skipped told) is = absurd is
skipped_or_taken (line.Skipped skip) (peer.Accepted told others) is = absurd is
skipped_or_taken (line.Skipped skip) (peer.Ticked told) is = absurd is

-- the text of a sighting, by whether it is signed
one_by_signature : (log : LogGenesis) (held : Held) (said : Bytes) (s : Sighting) (signature : Option Bytes) (text other : Bytes) →
    MatchOption signature (IsUnsigned log.genesis.rules.value held.log.chain s text)
    (λ _. TellsFork log.genesis.rules.value log.digest held.chain said text) →
    MatchOption signature (IsUnsigned log.genesis.rules.value held.log.chain s other)
    (λ _. TellsFork log.genesis.rules.value log.digest held.chain said other) → text ≡ other
one_by_signature log held said s None text other x y = one_unsigned log.genesis.rules.value held.log.chain s text other x y
one_by_signature log held said s (Some signature) text other x y = one_fork log.genesis.rules.value log.digest held.chain said text other x y

one_told_seen : (log : LogGenesis) (held : Held) (said : Bytes) (s : Option Sighting) (text other : Bytes) → TellsSeen log held said s text →
    TellsSeen log held said s other → text ≡ other
one_told_seen log held said None text other x y = x ∙ sym y
one_told_seen log held said (Some s) text other x y = one_by_signature log held said s s.signature text other x y

one_seen_text : (log : LogGenesis) (held : Held) (said text other : Bytes) → TellsText log held said text → TellsText log held said other → text ≡ other
one_seen_text log held said text other x y =
    one_told_seen log held said y.0 text other
    (subst (λ (s : Option Sighting). TellsSeen log held said s text) (one_seen said x.0 y.0 x.1 y.1) x.2) y.2

skipped_once : (log : LogGenesis) (held : Held) (index said : Bytes) (skip fault : Skip) (text other : Bytes) →
    (skip ≡ fault) ⊎ SpellsNoEnvelope said → TellsReport log held index said (peer.Skipped skip) text →
    TellsReport log held index said (peer.Skipped fault) other → (text ≡ other) ⊎ SpellsNoEnvelope said
skipped_once log held index said skip fault text other (inl same) x y =
    let fronts = one_seen_text log held said x.0 y.0 x.1 y.1 in
    inl (x.2 ∙ ap (λ (front : Bytes). front ++ skipped_text index skip) fronts ∙ ap (λ (s : Skip). y.0 ++ skipped_text index s) same ∙ sym y.2)
skipped_once log held index said skip fault text other (inr spoilt) x y = inr spoilt

-- what is told of one line by two that read it from one state on
module _ (one : IsOneMark) (log : LogGenesis) (old : Ordering) (now : Held) (index said : Bytes) (a b : LineReport) (t u : PeerReport)
    (is_t : IsReportOf a t) (is_u : IsReportOf b u) (same : answer_of a ≡ answer_of b) where
  told_once : (next other : Ordering) (text said_text : Bytes) → WasSkipped a t ⊎ WasTaken a t → WasSkipped b u ⊎ WasTaken b u →
      Reads old said (answer_of a) next → TellsIds a old said → TellsIds b old said → HandsOut a old.chain next.chain → HandsOut b old.chain other.chain →
      IsTrueOf a old said → IsTrueOf b old said → told_by t ≡ told_by u → TellsReport log now index said t text →
      TellsReport log now index said u said_text → (text ≡ said_text) ⊎ SpellsNoEnvelope said
  told_once next other text said_text (inl x) (inl y) reads ids its has have why cause told tells says =
      skipped_once log now index said x.0 y.0 text said_text
      (one_skip one old said x.0 y.0 (subst (λ (r : LineReport). IsTrueOf r old said) x.1 why) (subst (λ (r : LineReport). IsTrueOf r old said) y.1 cause))
      (subst (λ (r : PeerReport). TellsReport log now index said r text) x.2 tells)
      (subst (λ (r : PeerReport). TellsReport log now index said r said_text) y.2 says)
  told_once next other text said_text (inl x) (inr y) reads ids its has have why cause told tells says =
      absurd (let none = ap answer_of x.1 in let some = y.0 in cc)
  told_once next other text said_text (inr x) (inl y) reads ids its has have why cause told tells says =
      absurd (let none = ap answer_of y.1 in let some = x.0 in cc)
  told_once next other text said_text (inr x) (inr y) reads ids its has have why cause told tells says =
      let batches = one_report one now.chain old next next other said a b t u x.0 y.0 same reads is_t is_u ids its has have told in
      inl (x.1 log now index said text tells ∙ batches ∙ sym (y.1 log now index said said_text says))

  -- with that it was read
  pub entry_once : (next other : Ordering) (text said_text : Bytes) → Reads old said (answer_of a) next → TellsIds a old said → TellsIds b old said →
      HandsOut a old.chain next.chain → HandsOut b old.chain other.chain → IsTrueOf a old said → IsTrueOf b old said → told_by t ≡ told_by u →
      TellsEntry log now index said t text → TellsEntry log now index said u said_text → (text ≡ said_text) ⊎ SpellsNoEnvelope said
  entry_once next other text said_text reads ids its has have why cause told x y =
      elim (told_once next other x.0 y.0 (skipped_or_taken a t is_t) (skipped_or_taken b u is_u) reads ids its has have why cause told x.1 y.1) [
        | inl fronts ↦ inl (x.2 ∙ ap (λ (front : Bytes). front ++ read_text index now.log) fronts ∙ sym y.2)
        | inr spoilt ↦ inr spoilt
      ]
