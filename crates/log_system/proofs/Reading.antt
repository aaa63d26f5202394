-- The marks of a log are steps of a system, whose queue is empty before each envelope and behind it.
use Rattle.std.proofs.Common.{inl, inr, ◌≡◌, ℕ, ◌<◌, ◌≤◌, Bool, List, [], ◌∷◌, ◌++◌, length, map, Option, Some, None, refl, sym, ap, ap₂, subst, ◌∙◌, arith}
use Rattle.std.proofs.lemmas.Bool.{cases_lt, lt-ltb}
use Rattle.std.proofs.lemmas.List.{append-nil, append_assoc}
use Rattle.std.specs.Option.{option_to_list}
use Rattle.fab_types.specs.Editions.{last_block}
use Rattle.fab_types.specs.Size.{envelope_size}
use Rattle.fab_types.specs.declared.block.Block.{Block}
use Rattle.fab_types.specs.declared.envelope.Envelope.{Envelope}
use Rattle.batch_cutter.specs.Division.{IsDivision, IsPending, Limits, Mark, message, timeout}
use Rattle.batch_cutter.proofs.Divisions.{IsDivision-one, nothing_cut, pending_of, timeout_cuts}
use Rattle.orderer.specs.Arranged.{arranges_by}
use Rattle.orderer.specs.Blocks.{AddsEach}
use Rattle.orderer.specs.Ordering.{IsOrdered, Ordering, Takes}
use Rattle.orderer.specs.declared.report.BatchReport.{BatchReport}
use Rattle.log_orderer.specs.Lines.{IsMark}
use Rattle.log_orderer.specs.Log.{Reads, ReadsEach, TakesMark}
use Rattle.fabric_core.specs.System.{Rules, PeerState, World, IsStep, AreSteps}
use Rattle.fabric_core.specs.declared.event.Event.{Event}
use Rattle.fabric_core.specs.declared.event.Event.TheVariants.{Submit, Take, Tick}
use Rattle.fabric_core.specs.declared.event.Reply.{Reply}
use Rattle.fabric_core.specs.declared.event.Reply.TheVariants.{Queued, Ordered}
use Rattle.fabric_core.specs.Headline.{marks_of}
use Rattle.log_system.specs.OneSystem.{AreLines, IsLine, reply_of_tick}
use Rattle.log_system.proofs.Stepping.{one_step, steps_joined, two_steps}

-- what an orderer that has made of some marks what they ask for makes of one mark more
abbrev pub StepLaw : Type 0
StepLaw =
    (marks : List (Mark Envelope)) (old new : Ordering) (mark : Mark Envelope) (reports : List BatchReport) → IsOrdered marks old →
    Takes old mark reports new → IsOrdered (marks ++ mark ∷ []) new

-- a system whose queue is empty
abbrev pub resting : List PeerState → Ordering → World
resting peers orderer = record { peers = peers; queue = []; orderer = orderer }

-- ---- an envelope

not_larger : (size most : ℕ) → ¬ (most < size) → size ≤ most
not_larger size most fits = elim (cases_lt most size) as (λ _. size ≤ most) [ inl large ↦ absurd (fits large) | inr small ↦ small ]

sent : (r : Rules) (peers : List PeerState) (orderer : Ordering) (e : Envelope) → 0 < r.capacity →
    IsStep r (resting peers orderer) (Submit e) Queued (record { peers = peers; queue = e ∷ []; orderer = orderer })
sent r peers orderer e room = rw (lt-ltb 0 r.capacity room) refl

taken : (r : Rules) (peers : List PeerState) (old new : Ordering) (e : Envelope) (reports : List BatchReport) → 0 < r.capacity →
    TakesMark old (message e) reports new →
    AreSteps r (resting peers old) (Submit e ∷ Take ∷ []) (Queued ∷ Ordered reports ∷ []) (resting peers new)
taken r peers old new e reports room takes =
    let queued : World = record { peers = peers; queue = e ∷ []; orderer = old } in
    two_steps r (resting peers old) queued (resting peers new) (Submit e) Take Queued (Ordered reports) (sent r peers old e room)
    (new, takes.0, not_larger (envelope_size e) old.limits.absolute takes.1, takes.2, refl)

-- ---- a tick

-- a timeout cuts what waits, if anything does, as one batch
one_batch : (limits : Limits) (waited rest : List Envelope) (batches : List (List Envelope)) → IsPending envelope_size limits waited →
    IsDivision envelope_size limits (map message waited ++ timeout ∷ []) batches rest →
    (batch : Option (List Envelope)) × (option_to_list batch ≡ batches)
one_batch limits [] rest batches waits cut =
    let counted = waits.counted in
    let none = nothing_cut envelope_size limits (omega (arith, counted)) in
    (None, (IsDivision-one envelope_size limits (timeout ∷ []) [] batches [] rest none cut).0)
one_batch limits (e ∷ waited) rest batches waits cut =
    let one = timeout_cuts envelope_size limits (e ∷ waited) waits (omega arith) in
    let marks = map message (e ∷ waited) ++ timeout ∷ [] in
    (Some (e ∷ waited), (IsDivision-one envelope_size limits marks ((e ∷ waited) ∷ []) batches [] rest one cut).0)

report_of : (reorder : Bool) (old new : List Block) (batch : Option (List Envelope)) (reports : List BatchReport) →
    AddsEach (arranges_by reorder) old (option_to_list batch) reports new → (report : Option BatchReport) × (reports ≡ option_to_list report)
report_of reorder old new None reports added = (None, added.0)
report_of reorder old new (Some batch) reports added = (Some added.0, added.3 ∙ ap (λ (l : List BatchReport). added.0 ∷ l) added.5.0)

one_report : (old new : Ordering) (reports : List BatchReport) → IsPending envelope_size old.limits old.pending → Takes old timeout reports new →
    (report : Option BatchReport) × (reports ≡ option_to_list report)
one_report old new reports waits takes =
    let one = one_batch old.limits old.pending new.pending takes.batches waits takes.cut in
    report_of old.reorder old.chain new.chain one.0 reports
    (subst (λ (bs : List (List Envelope)). AddsEach (arranges_by old.reorder) old.chain bs reports new.chain) (sym one.1) takes.added)

timed : (r : Rules) (peers : List PeerState) (old new : Ordering) (report : Option BatchReport) → Takes old timeout (option_to_list report) new →
    length new.chain ≤ last_block old.edition → IsStep r (resting peers old) Tick (reply_of_tick report) (resting peers new)
timed r peers old new None takes room = (new, takes, room, refl)
timed r peers old new (Some report) takes room = (new, takes, room, refl)

-- ---- the marks that the orderer is given

-- whatever comes behind them, these steps give the orderer these marks, and leave nothing in the queue
abbrev pub AreMarked : List Event → List Reply → List (Mark Envelope) → Type 0
AreMarked events replies marks = (es : List Event) (rs : List Reply) → marks_of [] (events ++ es) (replies ++ rs) ≡ marks ++ marks_of [] es rs

pub marked_joined : (es fs : List Event) (rs ss : List Reply) (ms ns : List (Mark Envelope)) → AreMarked es rs ms → AreMarked fs ss ns →
    AreMarked (es ++ fs) (rs ++ ss) (ms ++ ns)
marked_joined es fs rs ss ms ns a b later told =
    ap₂ (λ (x : List Event) (y : List Reply). marks_of [] x y) (append_assoc es fs later) (append_assoc rs ss told)
    ∙ a (fs ++ later) (ss ++ told)
    ∙ ap (λ (l : List (Mark Envelope)). ms ++ l) (b later told)
    ∙ sym (append_assoc ms ns (marks_of [] later told))

tick_marked : (report : Option BatchReport) → AreMarked (Tick ∷ []) (reply_of_tick report ∷ []) (timeout ∷ [])
tick_marked None es rs = refl
tick_marked (Some report) es rs = refl

-- ---- a line

-- the orderer makes these marks more
abbrev pub OrdersOn : Ordering → List (Mark Envelope) → Ordering → Type 0
OrdersOn old marks new = (before : List (Mark Envelope)) → IsOrdered before old → IsOrdered (before ++ marks) new

-- lines, or one, are these events with these replies, by which the orderer goes on by these marks
pub record AreRead (r : Rules) (peers : List PeerState) (old : Ordering) (IsTold : List Event → List Reply → Type 0) (new : Ordering) : Type 0 where
  pub events : List Event
  pub replies : List Reply
  pub marks : List (Mark Envelope)
  pub told : IsTold events replies
  pub steps : AreSteps r (resting peers old) events replies (resting peers new)
  pub marked : AreMarked events replies marks
  pub ordered : OrdersOn old marks new
  pub waits : IsPending envelope_size new.limits new.pending

waits_on : (old new : Ordering) (mark : Mark Envelope) (reports : List BatchReport) → Takes old mark reports new →
    IsPending envelope_size new.limits new.pending
waits_on old new mark reports takes =
    subst (λ limits. IsPending envelope_size limits new.pending) (sym takes.limits)
    (pending_of envelope_size old.limits (map message old.pending ++ mark ∷ []) takes.batches new.pending takes.cut)

mark_read : StepLaw → (r : Rules) (peers : List PeerState) (old new : Ordering) (line : List ℕ) (mark : Mark Envelope) (reports : List BatchReport) →
    0 < r.capacity → IsPending envelope_size old.limits old.pending → IsMark line mark → TakesMark old mark reports new →
    AreRead r peers old (IsLine line (Some reports)) new
mark_read law r peers old new line (message e) reports room waits is takes = record {
  events = Submit e ∷ Take ∷ [];
  replies = Queued ∷ Ordered reports ∷ [];
  marks = message e ∷ [];
  told = (message e, is, refl, refl);
  steps = taken r peers old new e reports room takes;
  marked = λ es rs. refl;
  ordered = λ before was. law before old new (message e) reports was takes.0;
  waits = waits_on old new (message e) reports takes.0;
}
mark_read law r peers old new line timeout reports room waits is takes =
    let one = one_report old new reports waits takes.0 in
    let known = subst (λ (l : List BatchReport). Takes old timeout l new) one.1 takes.0 in
    record {
      events = Tick ∷ [];
      replies = reply_of_tick one.0 ∷ [];
      marks = timeout ∷ [];
      told = (timeout, is, refl, (one.0, one.1, refl));
      steps = one_step r (resting peers old) Tick (reply_of_tick one.0) (resting peers new) (timed r peers old new one.0 known takes.2);
      marked = tick_marked one.0;
      ordered = λ before was. law before old new timeout reports was takes.0;
      waits = waits_on old new timeout reports takes.0;
    }

same_read : (r : Rules) (peers : List PeerState) (old new : Ordering) (IsTold : List Event → List Reply → Type 0) → new ≡ old → IsTold [] [] →
    IsPending envelope_size old.limits old.pending → AreRead r peers old IsTold new
same_read r peers old new IsTold same told waits = record {
  events = [];
  replies = [];
  marks = [];
  told = told;
  steps = (refl, ap (resting peers) same);
  marked = λ es rs. refl;
  ordered = λ before was.
      subst (λ (ms : List (Mark Envelope)). IsOrdered ms new) (sym (append-nil before)) (subst (λ (o : Ordering). IsOrdered before o) (sym same) was);
  waits = subst (λ (o : Ordering). IsPending envelope_size o.limits o.pending) (sym same) waits;
}

line_read : StepLaw → (r : Rules) (peers : List PeerState) (old new : Ordering) (line : List ℕ) (answer : Option (List BatchReport)) →
    0 < r.capacity → IsPending envelope_size old.limits old.pending → Reads old line answer new → AreRead r peers old (IsLine line answer) new
line_read law r peers old new line None room waits reads = same_read r peers old new (IsLine line None) reads.1 (refl, refl) waits
line_read law r peers old new line (Some reports) room waits reads = mark_read law r peers old new line reads.0 reports room waits reads.1 reads.2

-- ---- line after line

pub log_read : StepLaw → (r : Rules) (peers : List PeerState) (old new : Ordering) (lines : List (List ℕ)) (answers : List (Option (List BatchReport))) →
    0 < r.capacity → IsPending envelope_size old.limits old.pending → ReadsEach old lines answers new →
    AreRead r peers old (AreLines lines answers) new
log_read law r peers old new [] answers room waits reads =
    same_read r peers old new (AreLines [] answers) reads.1 (reads.0, refl, refl) waits
log_read law r peers old new (line ∷ lines) answers room waits reads =
    let next = reads.2 in
    let one = line_read law r peers old next line reads.0 room waits reads.4 in
    let others = log_read law r peers next new lines reads.1 room one.waits reads.5 in
    record {
      events = one.events ++ others.events;
      replies = one.replies ++ others.replies;
      marks = one.marks ++ others.marks;
      told = (
        reads.0,
        reads.1,
        one.events,
        others.events,
        one.replies,
        others.replies,
        reads.3,
        refl,
        refl,
        one.told,
        others.told,
      );
      steps = steps_joined r (resting peers old) (resting peers next) (resting peers new) one.events others.events one.replies others.replies one.steps
          others.steps;
      marked = marked_joined one.events others.events one.replies others.replies one.marks others.marks one.marked others.marked;
      ordered = λ before was.
          subst (λ (ms : List (Mark Envelope)). IsOrdered ms new) (append_assoc before one.marks others.marks)
          (others.ordered (before ++ one.marks) (one.ordered before was));
      waits = others.waits;
    }
