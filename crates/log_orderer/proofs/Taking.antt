-- What a mark that is taken does to the ids that wait.
use Rattle.std.proofs.Common.{◌≡◌, ◌≤◌, ℕ, ◌++◌, List, [], ◌∷◌, length, map, sym, ap, ap₂, subst, ◌∙◌}
use Rattle.std.specs.List.{AllZip}
use Rattle.std.proofs.lemmas.List.{append-nil, map-append}
use Rattle.fab_types.specs.Size.{envelope_size}
use Rattle.fab_types.specs.declared.envelope.Envelope.{Envelope}
use Rattle.batch_cutter.specs.Division.{IsPending, Mark, concatenate, message, messages, timeout}
use Rattle.batch_cutter.proofs.Divisions.{IsDivision-messages, IsDivision-one, pending_of}
use Rattle.wire.specs.Ids.{id_of}
use Rattle.orderer.specs.Ordering.{Ordering, Takes}
use Rattle.orderer.specs.declared.report.BatchReport.{BatchReport}
use Rattle.orderer.proofs.Cutting.{messages_after}
use Rattle.log_orderer.specs.Cutting.{AreCut, AreFront, HaveRoom}
use Rattle.log_orderer.specs.Ids.{ids_of}
use Rattle.log_orderer.specs.Reported.{reports_of}
use Rattle.log_orderer.specs.Told.{AreNamed, IsNamed}
use Rattle.log_orderer.specs.declared.batch.LogBatch.{LogBatch}
use Rattle.log_orderer.proofs.Parting.{few_cut}
use Rattle.log_orderer.proofs.Telling.{all_front, all_told, few_fit}

-- these ids are those of the envelopes that a mark cuts, and behind them of those that wait on
abbrev pub AreParted : (old new : Ordering) (mark : Mark Envelope) (reports : List BatchReport) → Takes old mark reports new → List (List ℕ) → Type 0
AreParted old new mark reports takes ids = ids ≡ ids_of (concatenate takes.batches ++ new.pending)

-- the envelopes that waited, and that of the mark, if it is one
parted : (old new : Ordering) (mark : Mark Envelope) (reports : List BatchReport) → (takes : Takes old mark reports new) →
    AreParted old new mark reports takes (ids_of (old.pending ++ messages (mark ∷ [])))
parted old new mark reports takes =
    let marks = map message old.pending ++ mark ∷ [] in
    ap ids_of (sym (messages_after old.pending (mark ∷ [])) ∙ IsDivision-messages envelope_size old.limits marks takes.batches new.pending takes.cut)

pub parted_after : (old new : Ordering) (e : Envelope) (reports : List BatchReport) (takes : Takes old (message e) reports new)
    (waiting more : List (List ℕ)) (id : List ℕ) → more ≡ waiting ++ id ∷ [] → waiting ≡ ids_of old.pending → id ≡ id_of e.payload.proposal →
    AreParted old new (message e) reports takes more
parted_after old new e reports takes waiting more id pushed waits is =
    pushed
    ∙ ap₂ (λ (a b : List (List ℕ)). a ++ b) waits (ap (λ (i : List ℕ). i ∷ []) is)
    ∙ sym (map-append (λ (d : Envelope). id_of d.payload.proposal) old.pending (e ∷ []))
    ∙ parted old new (message e) reports takes

pub parted_by_tick : (old new : Ordering) (reports : List BatchReport) (takes : Takes old timeout reports new) (waiting : List (List ℕ)) →
    waiting ≡ ids_of old.pending → AreParted old new timeout reports takes waiting
parted_by_tick old new reports takes waiting waits =
    waits ∙ ap ids_of (sym (append-nil old.pending)) ∙ parted old new timeout reports takes

pub front_of : (old new : Ordering) (mark : Mark Envelope) (reports : List BatchReport) (takes : Takes old mark reports new) (ids : List (List ℕ)) →
    AreParted old new mark reports takes ids → AreFront reports ids
front_of old new mark reports takes ids are =
    subst (λ (l : List (List ℕ)). AreFront reports l) (sym are)
    (all_front old.reorder old.chain new.chain takes.batches new.pending reports takes.added)

-- after an envelope there are two reports at most
pub few_of : (old new : Ordering) (e : Envelope) (reports : List BatchReport) (takes : Takes old (message e) reports new) (ids : List (List ℕ)) (room : ℕ) →
    IsPending envelope_size old.limits old.pending → AreParted old new (message e) reports takes ids → length ids ≤ room →
    (length reports ≤ 2) × HaveRoom reports room
few_of old new e reports takes ids room waits are fits =
    few_fit old.reorder old.chain new.chain takes.batches reports ids room (few_cut old.limits old.pending e takes.batches new.pending waits takes.cut)
    takes.added (front_of old new (message e) reports takes ids are) fits

-- what is told, and what waits on
pub told_of : (old new : Ordering) (mark : Mark Envelope) (reports : List BatchReport) (takes : Takes old mark reports new) (ids : List (List ℕ))
    (batches : List LogBatch) (left : List (List ℕ)) → AreParted old new mark reports takes ids → AreCut reports ids batches left →
    AllZip IsNamed takes.batches batches × (left ≡ ids_of new.pending) × (reports_of batches ≡ reports)
told_of old new mark reports takes ids batches left are cut =
    all_told old.reorder old.chain new.chain takes.batches new.pending reports batches left takes.added
    (subst (λ (l : List (List ℕ)). AreCut reports l batches left) are cut)

pub waits_on : (old new : Ordering) (mark : Mark Envelope) (reports : List BatchReport) → Takes old mark reports new →
    IsPending envelope_size new.limits new.pending
waits_on old new mark reports takes =
    subst (λ limits. IsPending envelope_size limits new.pending) (sym takes.limits)
    (pending_of envelope_size old.limits (map message old.pending ++ mark ∷ []) takes.batches new.pending takes.cut)

-- the batches are the same, whatever they are
pub named_of : (old new : Ordering) (mark : Mark Envelope) (reports : List BatchReport) (takes : Takes old mark reports new) (batches : List LogBatch) →
    AllZip IsNamed takes.batches batches → AreNamed old mark batches
named_of old new mark reports takes batches named cut pending division =
    let marks = map message old.pending ++ mark ∷ [] in
    let same = IsDivision-one envelope_size old.limits marks takes.batches cut new.pending pending takes.cut division in
    subst (λ (ess : List (List Envelope)). AllZip IsNamed ess batches) same.0 named
