-- A whole run, by its lines and by what is printed behind them.
use Rattle.std.proofs.Common.{◌≡◌, ℕ, suc, Bool, List, [], ◌∷◌, ◌++◌, ◌⊎◌, inl, inr, Option, Some, None, Result, Ok, Err, IfErr, IfOk, OnOk, length, take, true, false, refl, sym, subst}
use Rattle.std.proofs.Math.Nat.{le_refl}
use Rattle.std.proofs.lemmas.List.{take_all}
use Rattle.batch_cutter.specs.Division.{Mark}
use Rattle.fab_types.specs.declared.envelope.Envelope.{Envelope}
use Rattle.chaincode_book.specs.Books.{Book}
use Rattle.ledger_model.specs.Chain.{Chain}
use Rattle.orderer.specs.Ordering.{Ordering, IsOrdered, Takes}
use Rattle.orderer.specs.declared.report.BatchReport.{BatchReport}
use Rattle.ledger_setting.specs.Limits.{limits_of}
use Rattle.ledger_setting.specs.declared.genesis.Genesis.{Genesis}
use Rattle.fabric_core.specs.System.{Rules, World, AreSteps, chain_of, fresh_orderer, opening}
use Rattle.fabric_core.specs.Inside.{State}
use Rattle.fabric_core.specs.Headline.{IsRun}
use Rattle.fabric_core.specs.declared.event.Event.{Event}
use Rattle.fabric_core.specs.declared.event.Reply.{Reply}
use Rattle.fabric_core.proofs.Runs.{run_all}
use Rattle.cli_lines.specs.Places.{IsFileOf}
use Rattle.cli_lines.specs.Told.{Told, Prints, Answers, IsBrokenOff}
use Rattle.cli_lines.specs.declared.failure.Failure.{Failure}
use Rattle.cli_lines.specs.declared.failure.Failure.TheVariants as failure
use Rattle.cli_lines.specs.declared.files.Target.{Target}
use Rattle.cli_lines.proofs.Answering.{answers_by}
use Rattle.cli_lines.proofs.Printing.{prints_none, prints_then}
use Rattle.cli_session.specs.States.{state_text}
use Rattle.cli_session.specs.Stages.{Stage, first_chain}
use Rattle.cli_session.specs.Running.{AreLines, DoesAll, MeetsBadLine, events_of, replies_of}
use Rattle.cli_session.specs.Stored.{HoldsAsked, HoldsPlaced}
use Rattle.cli_session.specs.Verdicts.{IsVerdict, is_good, verdict_text}
use Rattle.cli_session.specs.declared.verdict.Verdict.{Verdict}
use Rattle.cli_session.specs.Whole.{ComesTo, EndsAtBadLine, EndsPrinted, EndsWith, IsOpening, IsWholeRun, LinesComeTo, a_peer_lacks_seed, rules_by}
use Rattle.cli_session.proofs.Steps.{Runs, same_rules}
use Rattle.cli_session.proofs.Several.{lines_run}

-- what an orderer makes of one mark more
abbrev pub StepLaw : Type 0
StepLaw = (marks : List (Mark Envelope)) (old new : Ordering) (mark : Mark Envelope) (reports : List BatchReport) → IsOrdered marks old →
    Takes old mark reports new → IsOrdered (marks ++ mark ∷ []) new

-- what its orderer has read: nothing
abbrev pub unread : Genesis → Ordering
unread g = fresh_orderer g.rules.value.edition (limits_of g) g.reorder

-- the state at the opening
abbrev pub opened : Genesis → State
opened g =
    record {
      book = g.book.value;
      rules = g.rules.value;
      seeds = g.signers.value;
      capacity = g.queue;
      world = opening g.rules.value.edition g.peers.items g.seats (limits_of g) g.reorder;
    }

steps_run : (g : Genesis) → StepLaw → IsOrdered [] (unread g) → (events : List Event) (replies : List Reply) (w : World) →
    AreSteps (rules_by g) (opened g).world events replies w →
    IsRun (rules_by g) g.peers.items g.seats (limits_of g) g.reorder events replies w false
steps_run g law began events replies w steps =
    let all : take (length events) events ≡ events = take_all (length events) events (le_refl (length events)) in
    run_all (rules_by g) g.peers.items g.seats (limits_of g) g.reorder events replies w false (length events) law began
    (subst (λ (es : List Event). AreSteps (rules_by g) (opened g).world es replies w) (sym all) steps) refl (le_refl (length events))

pub whole_run : (g : Genesis) → StepLaw → IsOrdered [] (unread g) → (IsStored : Option Chain → Type 0) (good : Bool)
    (lines : List (List ℕ)) (start end : Stage) (told : List (Event × Reply)) (front rest : List ℕ) → IsOpening g start →
    AreLines lines start told front end → EndsWith g.book.value (first_chain end.system) good rest → IsStored (first_chain end.system) →
    IsWholeRun g IsStored lines good (front ++ rest)
whole_run g law began IsStored good lines start end told front rest opens does ends stored =
    let runs : Runs (opened g) told end.system =
    subst (λ (s : State). Runs s told end.system) opens.system (lines_run lines start end told front does) in
    let same = same_rules (opened g) end.system runs.1 in
    record {
      start = start;
      end = end;
      told = told;
      front = front;
      rest = rest;
      opens = opens;
      does = does;
      run = steps_run g law began (events_of told) (replies_of told) end.system.world runs.0;
      ends = subst (λ (r : Rules). EndsWith g.book.value (chain_of r end.system.world 0) good rest) same ends;
      stored = subst (λ (r : Rules). IsStored (chain_of r end.system.world 0)) same stored;
      whole = refl;
    }

-- where there is no peer
pub ends_none : (book : Book) (o : Option Chain) (t : Told) → None ≡ o → (text : List ℕ) × EndsWith book o true text × Prints t t text
ends_none book None t is = ([], (refl, refl), prints_none t)
ends_none book (Some chain) t is = absurd cc

-- the state of a chain is printed, and then what its audit says
pub ends_some : {E : Type 0} (book : Book) (o : Option Chain) (chain : Chain) (verdict : Verdict) (r : Result Bool E) (t u v : Told) → Some chain ≡ o →
    IsVerdict book chain verdict → Prints t u (state_text chain) → IfOk r (λ good. good ≡ is_good verdict) → OnOk r (Prints u v (verdict_text verdict)) →
    IfOk r (λ good. (text : List ℕ) × EndsWith book o good text × Prints t v text)
ends_some book o chain verdict (Err e) t u v is says state good audit = tt
ends_some book o chain verdict (Ok x) t u v is says state good audit = (
  state_text chain ++ verdict_text verdict,
  subst (λ (p : Option Chain). EndsWith book p x (state_text chain ++ verdict_text verdict)) is (verdict, says, good, refl),
  prints_then t u v (state_text chain) (verdict_text verdict) state audit,
)

-- what a run does from its opening on is what its lines come to
pub comes_to : (g : Genesis) → StepLaw → IsOrdered [] (unread g) → (held : Option (List ℕ))
    (IsStored : Option Chain → Type 0) (r : Result Bool Failure) (start end : Stage) (before after : Told) → IsOpening g start →
    IfOk r (λ good. (mid : Told) × DoesAll held start end before mid × EndsPrinted g.book.value (first_chain end.system) good mid after) →
    IfErr r (λ f. IsBrokenOff f ⊎ MeetsBadLine held start before after f) → OnOk r (IsStored (first_chain end.system)) →
    Answers (LinesComeTo g held IsStored) before after r
comes_to g law began held IsStored (Ok good) start end before after opens all stops stored =
    let d = all.1.does in
    let ends = all.2 in
    inr (
      d.1 ++ ends.0,
      (all.1.lines, all.1.all, whole_run g law began IsStored good all.1.lines start end d.0 d.1 ends.0 opens d.2 ends.1 stored),
      prints_then before all.0 after d.1 ends.0 d.3 ends.2,
    )
comes_to g law began held IsStored (Err f) start end before after opens all (inl lost) stored = inl lost
comes_to g law began held IsStored (Err f) start end before after opens all (inr m) stored =
    inr (m.text, subst (λ (e : Failure). LinesComeTo g held IsStored (Err e) m.text) (sym m.is) stopped, m.prints)
  where
    stopped : EndsAtBadLine g held (suc (length m.lines)) m.text
    stopped =
        record {
          lines = m.lines;
          next = m.next;
          start = start;
          end = m.end;
          told = m.told;
          first = m.first;
          opens = opens;
          does = m.does;
          bad = m.bad;
          counted = refl;
        }

-- ---- what is stored, in other words

whole_by : (g : Genesis) (P Q : Option Chain → Type 0) → ((o : Option Chain) → P o → Q o) → (lines : List (List ℕ)) (good : Bool) (text : List ℕ) →
    IsWholeRun g P lines good text → IsWholeRun g Q lines good text
whole_by g P Q f lines good text w =
    record {
      start = w.start;
      end = w.end;
      told = w.told;
      front = w.front;
      rest = w.rest;
      opens = w.opens;
      does = w.does;
      run = w.run;
      ends = w.ends;
      stored = f (chain_of (rules_by g) w.end.system.world 0) w.stored;
      whole = w.whole;
    }

comes_by : (g : Genesis) (held : Option (List ℕ)) (P Q : Option Chain → Type 0) → ((o : Option Chain) → P o → Q o) → (r : Result Bool Failure)
    (text : List ℕ) → LinesComeTo g held P r text → LinesComeTo g held Q r text
comes_by g held P Q f (Ok good) text c = (c.0, c.1, whole_by g P Q f c.0 good text c.2)
comes_by g held P Q f (Err (failure.BadLine number)) text c = c
comes_by g held P Q f (Err e) text c = c

pub stored_by : (g : Genesis) (held : Option (List ℕ)) (P Q : Option Chain → Type 0) → ((o : Option Chain) → P o → Q o) → (before after : Told)
    (r : Result Bool Failure) → Answers (LinesComeTo g held P) before after r → Answers (LinesComeTo g held Q) before after r
stored_by g held P Q f before after r = answers_by (LinesComeTo g held P) (LinesComeTo g held Q) before after r (comes_by g held P Q f r)

-- the file of the name that was asked for is that of its place
pub asked_of_place : (known : Bool) (bytes : List ℕ → Option (List ℕ)) (name : List ℕ) (target : Target) → (known ≡ true → IsFileOf name target) →
    (o : Option Chain) → HoldsPlaced known bytes (Some target) o → HoldsAsked known bytes (Some name) o
asked_of_place known bytes name target file None held = tt
asked_of_place known bytes name target file (Some chain) held = λ is. held name (file is) is

-- a run whose organisations have their seeds
pub with_seeds : (g : Genesis) (held : Option (List ℕ)) (P : Option Chain → Type 0) (before after : Told) (r : Result Bool Failure) →
    a_peer_lacks_seed g ≡ false → Answers (LinesComeTo g held P) before after r → Answers (ComesTo g held P) before after r
with_seeds g held P before after r has = answers_by (LinesComeTo g held P) (ComesTo g held P) before after r (λ text c. inl (has, c))
