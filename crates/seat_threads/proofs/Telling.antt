-- What is told of seats at work, from what the receiver, the desk and the counts came to.
use Rattle.std.proofs.Common.{◌≡◌, ◌<◌, ◌≤◌, ◌*◌, ◌^◌, ℕ, Bool, List, [], length, Result, Ok, Err, IfOk, IfErr, sym, ◌∙◌, ap, subst, arith}
use Rattle.std.proofs.lemmas.List.{length-map}
use mathlib.Core.Option.{some}
use lib.ListN.{get_elem?}
use Rattle.fab_types.specs.declared.envelope.Envelope.{Envelope}
use Rattle.batch_cutter.specs.Division.{Limits}
use Rattle.wire.specs.Links.{AreLinked}
use Rattle.envelope_ordering.specs.Given.{WasCut}
use Rattle.envelope_ordering.proofs.Parting.{by_same, parted_length}
use Rattle.intake.specs.declared.rule.Parcel.{Parcel}
use Rattle.intake.specs.declared.rule.View.{View}
use Rattle.intake.specs.Mail.{of, NoneMissing}
use Rattle.simulator.specs.Execution.{exec_of}
use mathlib.Core.List.{IsPrefix}
use Rattle.ledger_model.specs.Chain.{Chain, history}
use Rattle.ledger_model.specs.Serial.{AllHandedOut}
use Rattle.ledger_setting.specs.Rule.{table_of}
use Rattle.ledger_setting.specs.declared.verdict.Audit.TheVariants.{Agrees}
use Rattle.fabric_core.specs.Audit.{AuditSays, valid_count}
use Rattle.seat_threads.specs.declared.counts.Counts.{Counts}
use Rattle.seat_threads.specs.declared.desk.Desk.{Desk}
use Rattle.seat_threads.specs.declared.refusal.SeatsRefusal.{SeatsRefusal}
use Rattle.seat_threads.specs.declared.refusal.SeatsRefusal.TheVariants.{Memory, NoPlace, NotEntered}
use Rattle.seat_threads.specs.declared.running.Report.{Report}
use Rattle.seat_threads.specs.Desks.{envelopes_got, home_of, IsSameDesk}
use Rattle.seat_threads.specs.Reports.{TellsOfSeats, IsSeatsRefused, IsWorkRefused, IsOpeningRefused, IsCountRefused, chain_of, counts_told}
use Rattle.seat_threads.specs.Rounds.{least_refusal, rounds_in}
use Rattle.seat_threads.specs.Work.{Task, HasRetired}
use Rattle.seat_threads.proofs.Getting.{all_got, as_many}
use Rattle.seat_threads.proofs.Handing.{IsGiven, all_given, all_handed}
use Rattle.seat_threads.proofs.Retiring.{came_before}
use Rattle.seat_threads.proofs.Sifting.{sifted}
use Rattle.seat_threads.proofs.Sums.{bounded, totalled}

-- all rounds of all seats are counted
pub all_counted : (task : Task) (whole : Chain) (n : ℕ) (counts : Counts) (old new : List (ℕ × List Envelope)) → HasRetired task whole n counts old new →
    rounds_in counts ≡ n * task.rounds
all_counted task whole n counts old new h =
    ap rounds_in h.counted ∙ (totalled task whole 0 h.outcomes h.came ∙ ap (λ (k : ℕ). k * task.rounds) h.seats_are)

-- the seats work at the same place
pub same_home : (a b : Desk) → IsSameDesk a b → home_of a ≡ home_of b
same_home a b same = λ i. record { intake = same.0 i; peer = same.4 i }

pub told : (task : Task) (seen whole : Chain) (n : ℕ) (counts : Counts) (v : View) (d : Desk) (reorder : Bool) (limits : Limits) (r : Report) → n < 2 ^ 32
    → task.rounds < 2 ^ 32 → HasRetired task seen n counts [] v.known → IsPrefix seen whole → IsPrefix (chain_of task d.orderer) whole → v.senders ≡ n →
    NoneMissing v → WasCut (envelopes_got v.got) d.orderer d.missing → d.orderer.edition ≡ task.endorsing.listed.edition → d.orderer.reorder ≡ reorder →
    d.orderer.limits ≡ limits → counts_told r ≡ counts → r.missing ≡ d.missing →
    AreLinked [] d.orderer.chain × (r.blocks ≡ length d.orderer.chain) × AuditSays (exec_of task.endorsing.book) (chain_of task d.orderer) r.audit →
    (AllHandedOut (exec_of task.endorsing.book) (chain_of task d.orderer) (history (chain_of task d.orderer)) →
    r.audit ≡ Agrees (valid_count (history (chain_of task d.orderer)))) → TellsOfSeats task n reorder limits r
told task seen whole n counts v d reorder limits r few short h more begins senders none cut edition_is reorder_is limits_are same missing chain honest =
    let got_all = all_got v.got 0 h.outcomes
    (λ j p all at. none.0 j p all (subst (λ (known : List (ℕ × List Envelope)). get_elem? known j ≡ some (p, all)) (sym h.known) at)) in
    let alone : (p : ℕ) → n ≤ p → of p v.got ≡ [] = λ p le. none.1 p (omega (arith, senders, le)) in
    let counted = same ∙ h.counted in
    let endorsed : r.endorsed ≡ length v.got =
    ap (λ (c : Counts). c.endorsed) counted ∙ as_many v.got h.outcomes got_all (λ p le. alone p (omega (arith, h.seats_are, le))) in
    let rounds : rounds_in (counts_told r) ≡ n * task.rounds = ap rounds_in same ∙ all_counted task seen n counts [] v.known h in
    let bound = bounded n task.rounds few short in
    let refused = cut.1 in
    let parted = parted_length cut.2 in
    let long = length-map v.got (λ (parcel : Parcel). parcel.envelope) in
    let came = came_before task seen whole 0 h.outcomes more h.came in
    let exec = exec_of task.endorsing.book in
    let given = all_given task (chain_of task d.orderer) whole begins v.got h.outcomes came got_all
    (λ p le. alone p (omega (arith, h.seats_are, le))) in
    let in_blocks = sifted (IsGiven exec (chain_of task d.orderer)) d.orderer.edition d.orderer.limits d.orderer.reorder (envelopes_got v.got) cut.0 refused
    d.orderer cut.2 cut.3 given in
    record {
      whole = whole;
      outcomes = h.outcomes;
      seats_are = h.seats_are;
      came = came;
      counted = counted;
      got = v.got;
      got_all = got_all;
      got_alone = alone;
      endorsed = endorsed;
      ordered = cut.0;
      refused = refused;
      each =
          by_same d.orderer.edition task.endorsing.listed.edition d.orderer.limits limits d.orderer.reorder reorder (envelopes_got v.got) cut.0 refused
          (sym edition_is) (sym limits_are) (sym reorder_is) cut.2;
      missing = omega (arith, missing, cut.4, parted, long, endorsed, rounds, bound);
      now = d.orderer;
      edition_is = edition_is;
      reorder_is = reorder_is;
      limits_are = limits_are;
      cut = cut.3;
      linked = chain.0;
      blocks = chain.1;
      begins = begins;
      audited = chain.2;
      agrees = honest (all_handed exec (table_of task.endorsing.listed) d.orderer.chain in_blocks);
    }

pub refused_by_counts : (task : Task) (whole : Chain) (n : ℕ) (counts : Counts) (old new : List (ℕ × List Envelope)) (r : SeatsRefusal) →
    HasRetired task whole n counts old new → IsCountRefused counts r → IsWorkRefused task n r
refused_by_counts task whole n counts old new Memory h why = tt
refused_by_counts task whole n counts old new NoPlace h why = why
refused_by_counts task whole n counts old new NotEntered h why =
    (whole, h.outcomes, h.seats_are, h.came, ap least_refusal (sym h.counted) ∙ why)

pub refused_at_work : (task : Task) (n : ℕ) (r : SeatsRefusal) → IsWorkRefused task n r → IsSeatsRefused task n r
refused_at_work task n Memory why = tt
refused_at_work task n NoPlace why = tt
refused_at_work task n NotEntered why = why

pub refused_at_opening : (task : Task) (n : ℕ) (r : SeatsRefusal) → IsOpeningRefused r → IsSeatsRefused task n r
refused_at_opening task n Memory why = tt
refused_at_opening task n NoPlace why = tt
refused_at_opening task n NotEntered why = absurd why

pub if_ok : {T E : Type 0} (P Q : T → Type 0) (r : Result T E) → ((x : T) → P x → Q x) → IfOk r P → IfOk r Q
if_ok P Q (Ok x) f h = f x h
if_ok P Q (Err e) f h = tt

pub if_err : {T E : Type 0} (P Q : E → Type 0) (r : Result T E) → ((e : E) → P e → Q e) → IfErr r P → IfErr r Q
if_err P Q (Ok x) f h = tt
if_err P Q (Err e) f h = f e h

pub both_ok : {T E : Type 0} (P Q : T → Type 0) (r : Result T E) → IfOk r P → IfOk r Q → IfOk r (λ x. P x × Q x)
both_ok P Q (Ok x) a b = (a, b)
both_ok P Q (Err e) a b = tt
