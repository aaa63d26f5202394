-- Who reads one log makes one chain of it.
use Rattle.std.proofs.Common.{inl, inr, ◌≡◌, ◌<◌, ◌⊎◌, ◌++◌, ℕ, List, [], ◌∷◌, length, Option, Some, None, refl, sym, ap, ap₂, subst, ◌∙◌, arith}
use Rattle.std.proofs.lemmas.List.{append-nil}
use Rattle.fab_types.specs.Editions.{last_block}
use Rattle.fab_types.specs.declared.envelope.Envelope.{Envelope}
use Rattle.batch_cutter.specs.Division.{Mark}
use Rattle.orderer.specs.Adding.{BeginsWith}
use Rattle.orderer.specs.Ordering.{Ordering, Takes, RunsOut, IsTooLarge}
use Rattle.orderer.specs.declared.report.BatchReport.{BatchReport}
use Rattle.orderer.proofs.Refusing.{takes_begins, begins_through}
use Rattle.log_orderer.specs.Lines.{IsMark}
use Rattle.log_orderer.specs.Log.{IsSkipped, Reads, ReadsEach, TakesMark}

-- a line has one mark
abbrev pub OneMark : Type 0
OneMark = (line : List ℕ) (a b : Mark Envelope) → IsMark line a → IsMark line b → a ≡ b

-- a mark has one answer
abbrev pub OneAnswer : Type 0
OneAnswer =
    (old new other : Ordering) (mark : Mark Envelope) (reports left : List BatchReport) → Takes old mark reports new → Takes old mark left other →
    (reports ≡ left) × (new ≡ other)

-- who takes a mark that runs out goes past the last block
abbrev pub GoesPast : Type 0
GoesPast =
    (old new : Ordering) (mark : Mark Envelope) (reports : List BatchReport) → RunsOut old mark → Takes old mark reports new →
    last_block old.edition < length new.chain

refused_taken : GoesPast → (old new : Ordering) (mark : Mark Envelope) (reports : List BatchReport) → (IsTooLarge old.limits mark ⊎ RunsOut old mark) →
    TakesMark old mark reports new → ⊥
refused_taken past old new mark reports (inl large) takes = takes.1 large
refused_taken past old new mark reports (inr out) takes = omega (arith, past old new mark reports out takes.0, takes.2)

-- no line is both taken and skipped
skipped_taken : OneMark → GoesPast → (old new : Ordering) (line : List ℕ) (reports : List BatchReport) → IsSkipped old line →
    Reads old line (Some reports) new → ⊥
skipped_taken one past old new line reports (inl none) reads = none reads.0 reads.1
skipped_taken one past old new line reports (inr refused) reads =
    let same = one line refused.0 reads.0 refused.1 reads.1 in
    refused_taken past old new reads.0 reports (subst (λ (m : Mark Envelope). IsTooLarge old.limits m ⊎ RunsOut old m) same refused.2) reads.2

reads_once : OneMark → OneAnswer → GoesPast → (old new other : Ordering) (line : List ℕ) (a b : Option (List BatchReport)) → Reads old line a new →
    Reads old line b other → (a ≡ b) × (new ≡ other)
reads_once one answer past old new other line (Some r) (Some s) x y =
    let takes = subst (λ (m : Mark Envelope). Takes old m s other) (one line y.0 x.0 y.1 x.1) y.2.0 in
    let same = answer old new other x.0 r s x.2.0 takes in
    (ap (λ (l : List BatchReport). let o : Option (List BatchReport) = Some l in o) same.0, same.1)
reads_once one answer past old new other line (Some r) None x y = absurd (skipped_taken one past old new line r y.0 x)
reads_once one answer past old new other line None (Some s) x y = absurd (skipped_taken one past old other line s x.0 y)
reads_once one answer past old new other line None None x y = (refl, x.1 ∙ sym y.1)

pub log_once : OneMark → OneAnswer → GoesPast → (old new other : Ordering) (lines : List (List ℕ)) (answers left : List (Option (List BatchReport))) →
    ReadsEach old lines answers new → ReadsEach old lines left other → (answers ≡ left) × (new ≡ other)
log_once one answer past old new other [] answers left x y = (x.0 ∙ sym y.0, x.1 ∙ sym y.1)
log_once one answer past old new other (line ∷ lines) answers left x y =
    let first = reads_once one answer past old x.2 y.2 line x.0 y.0 x.4 y.4 in
    let later = log_once one answer past y.2 new other lines x.1 y.1 (subst (λ (o : Ordering). ReadsEach o lines x.1 new) first.1 x.5) y.5 in
    (x.3 ∙ ap₂ (λ (a : Option (List BatchReport)) (rs : List (Option (List BatchReport))). a ∷ rs) first.0 later.0 ∙ sym y.3, later.1)

-- a reader that stops and goes on
pub log_joined : (old between new : Ordering) (front back : List (List ℕ)) (first later : List (Option (List BatchReport))) →
    ReadsEach old front first between → ReadsEach between back later new → ReadsEach old (front ++ back) (first ++ later) new
log_joined old between new [] back first later x y = rw x.0 (subst (λ (o : Ordering). ReadsEach o back later new) x.1 y)
log_joined old between new (line ∷ front) back first later x y = (
  x.0,
  x.1 ++ later,
  x.2,
  ap (λ (rs : List (Option (List BatchReport))). rs ++ later) x.3,
  x.4,
  log_joined x.2 between new front back x.1 later x.5 y,
)

same_begins : (old new : Ordering) → new ≡ old → BeginsWith old.chain new.chain
same_begins old new same = ([], ap (λ (o : Ordering). o.chain) same ∙ sym (append-nil old.chain))

reads_begins : (old new : Ordering) (line : List ℕ) (a : Option (List BatchReport)) → Reads old line a new → BeginsWith old.chain new.chain
reads_begins old new line (Some r) x = takes_begins old x.0 r new x.2.0
reads_begins old new line None x = same_begins old new x.1

-- the chain only grows
log_begins : (old new : Ordering) (lines : List (List ℕ)) (answers : List (Option (List BatchReport))) → ReadsEach old lines answers new →
    BeginsWith old.chain new.chain
log_begins old new [] answers x = same_begins old new x.1
log_begins old new (line ∷ lines) answers x =
    begins_through old.chain x.2.chain new.chain (reads_begins old x.2 line x.0 x.4) (log_begins x.2 new lines x.1 x.5)

-- what is read of the front of a log is on the way of what is read of all
log_split : (old new : Ordering) (front back : List (List ℕ)) (answers : List (Option (List BatchReport))) → ReadsEach old (front ++ back) answers new →
    (between : Ordering) × (first later : List (Option (List BatchReport))) × (answers ≡ first ++ later) × ReadsEach old front first between ×
    ReadsEach between back later new
log_split old new [] back answers x = (old, [], answers, refl, (refl, refl), x)
log_split old new (line ∷ front) back answers x =
    let rest = log_split x.2 new front back x.1 x.5 in (
      rest.0,
      x.0 ∷ rest.1,
      rest.2,
      x.3 ∙ ap (λ (rs : List (Option (List BatchReport))). x.0 ∷ rs) rest.3,
      (x.0, rest.1, x.2, refl, x.4, rest.4),
      rest.5,
    )

-- who has read less of the log has a beginning of the chain
pub log_behind : OneMark → OneAnswer → GoesPast → (old new behind : Ordering) (front back : List (List ℕ)) (answers some : List (Option (List BatchReport))) →
    ReadsEach old (front ++ back) answers new → ReadsEach old front some behind → BeginsWith behind.chain new.chain
log_behind one answer past old new behind front back answers some all few =
    let split = log_split old new front back answers all in
    let same = log_once one answer past old split.0 behind front split.1 some split.4 few in
    subst (λ (o : Ordering). BeginsWith o.chain new.chain) same.1 (log_begins split.0 new back split.2 split.5)
