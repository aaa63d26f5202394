-- What a run's outcome says of a payload is what the ending of the execution says.
use Rattle.std.proofs.Common.{◌≡◌, ℕ, ◌-◌, arith, Bool, true, false, cond, [], ◌∷◌, Result, Ok, Err, refl, sym, ap, ◌∙◌, subst}
use Rattle.std.specs.Prelude.{◌==◌}
use Rattle.interp.specs.declared.outcome.Outcome.{Outcome}
use Rattle.interp.specs.declared.outcome.Outcome.TheVariants as outcome
use Rattle.interp.specs.Ended.{Ended}
use Rattle.ledger_model.specs.Views.{Plain, Versioned, values_of}
use Rattle.ledger_model.specs.Execution as ledger
use Rattle.wasm_ast.specs.declared.trap.Trap.{Trap}
use Rattle.wasm_ast.specs.declared.trap.Trap.TheVariants as trap
use Rattle.wasm_ast.specs.Traps.{trap_number}
use Rattle.wasm_meaning.specs.Values.{Answer, Next, Trapped, Spent}
use Rattle.wasm_meaning.specs.Program.{invocation}
use Rattle.host_api.specs.Given.{Given}
use Rattle.host_api.specs.Recorded.{Recorded, nothing_recorded, seen_on}
use Rattle.host_api.specs.HostStep.{host_step}
use Rattle.host_api.specs.Executing as host
use Rattle.host_api.specs.Executing.{outcome_with, ending_of, outcome_of}
use Rattle.host_api.specs.Recording.{Opened, Recording}
use Rattle.host_api.specs.Parts.{parts_of}
use Rattle.simulator.specs.Execution.{Executable}
use Rattle.simulator.specs.Answers.{trap_of, done_or_refusal, Answers}
use Rattle.simulator.specs.Success.{success_of}
use Rattle.simulator.specs.declared.refusal.SimRefusal.{SimRefusal}
use Rattle.simulator.specs.declared.refusal.SimRefusal.TheVariants as refusal

-- the ending that a run's outcome is
abbrev pub ending_in : Outcome → ledger.Ending
ending_in (outcome.Returned status used) = ending_of status
ending_in (outcome.Trapped kind used) = ledger.Trapped (trap_number kind) used
ending_in outcome.Spent = ledger.Spent

outcome_is : (fuel : ℕ) (m : Plain) (a : Answer Recorded) (o : Outcome) (s : Recorded) → Ended a fuel o s → outcome_of fuel m a ≡ outcome_with (ending_in o) m s
outcome_is fuel m (Next left (v ∷ []) l w) (outcome.Returned status used) s h = rw (← h.0, ← h.2) refl
outcome_is fuel m (Trapped why left w) (outcome.Trapped kind used) s h =
    let e : fuel - left ≡ used = omega (arith, h.1) in rw (e, ← h.0, ← h.2) refl
outcome_is fuel m (Spent w) outcome.Spent s h = rw (← h) refl
outcome_is fuel m _ _ s h = absurd h

trap_of-number : (t : Trap) → trap_of (trap_number t) ≡ t
trap_of-number trap.Unreachable = refl
trap_of-number trap.DivideByZero = refl
trap_of-number trap.IntegerOverflow = refl
trap_of-number trap.OutOfBounds = refl
trap_of-number trap.UndefinedElement = refl
trap_of-number trap.UninitializedElement = refl
trap_of-number trap.IndirectCallType = refl
trap_of-number trap.CallDepth = refl

-- with this value where there is no refusal
abbrev pub with_value : {X : Type 0} → X → Result (Unit {0}) SimRefusal → Result X SimRefusal
with_value x (Ok u) = Ok x
with_value x (Err e) = Err e

of_status : {X : Type 0} (x : X) (status : ℕ) (b : Bool) →
    done_or_refusal (cond b ledger.Done (ledger.Status status)) x ≡ with_value x (cond b (Ok tt) (Err (refusal.Status status)))
of_status x status true = refl
of_status x status false = refl

done_is : {X : Type 0} (x : X) (o : Outcome) → done_or_refusal (ending_in o) x ≡ with_value x (success_of o)
done_is x (outcome.Returned status used) = of_status x status (status == 0)
done_is {X} x (outcome.Trapped kind used) =
    let found : Trap → Result X SimRefusal = λ t. Err (refusal.Trapped t used) in ap found (trap_of-number kind)
done_is x outcome.Spent = refl

-- what an execution comes to whose host was opened as `before` and ended as `after`
module _ {V : Type 0} (state_of : V → Versioned) (e : Executable) (given : Given) (v : V) (before after : Recording V) (o : Outcome) where
  pub record IsRun : Type 0 where
    pub start : before ≡ record { opened = record { view = v; given = given }; records = nothing_recorded }
    pub ends : Ended (invocation e.module (host_step (values_of (state_of before.opened.view)) before.opened.given) before.records e.fuel) e.fuel o
        after.records
    pub keeps : after.opened ≡ before.opened

  module _ (run : IsRun) where
    run_is : host.outcome e.module e.fuel given (values_of (state_of v)) ≡ outcome_with (ending_in o) (values_of (state_of v)) after.records
    run_is =
        let ends : Ended (invocation e.module (host_step (values_of (state_of v)) given) nothing_recorded e.fuel) e.fuel o after.records =
        subst (λ (b : Recording V).
        Ended (invocation e.module (host_step (values_of (state_of b.opened.view)) b.opened.given) b.records e.fuel) e.fuel o after.records) run.start
        run.ends in
        outcome_is e.fuel (values_of (state_of v)) _ o after.records ends

    pub answer_is : (r : Result (Unit {0}) SimRefusal) → r ≡ success_of o → let x =
        host.outcome e.module e.fuel given (values_of (state_of v)) in
        done_or_refusal x.ending (parts_of (state_of v) x.seen) ≡ with_value (parts_of (state_of v) (seen_on (values_of (state_of v)) after.records)) r
    answer_is r is =
        let parts = parts_of (state_of v) (seen_on (values_of (state_of v)) after.records) in
        ap (λ (x : ledger.Outcome). done_or_refusal x.ending (parts_of (state_of v) x.seen)) run_is ∙ done_is parts o ∙ ap (with_value parts) (sym is)

    view_is : after.opened.view ≡ v
    view_is = ap (λ (b : Opened V). b.view) (run.keeps ∙ ap (λ (b : Recording V). b.opened) run.start)

    pub parts_are : parts_of (state_of after.opened.view) (seen_on (values_of (state_of after.opened.view)) after.records) ≡
        parts_of (state_of v) (seen_on (values_of (state_of v)) after.records)
    parts_are = ap (λ x. parts_of (state_of x) (seen_on (values_of (state_of x)) after.records)) view_is

-- what is wanted is an answer
pub answers : {X : Type 0} (wanted result : Result X SimRefusal) → wanted ≡ result → Answers wanted result
answers wanted (Ok x) e = e
answers wanted (Err refusal.Memory) e = tt
answers wanted (Err refusal.UnknownChaincode) e = e
answers wanted (Err (refusal.Trapped kind used)) e = e
answers wanted (Err refusal.Spent) e = e
answers wanted (Err (refusal.Status n)) e = e
answers wanted (Err refusal.Stale) e = e
answers wanted (Err refusal.NotInstalled) e = e
answers wanted (Err refusal.BadPolicy) e = e
answers wanted (Err refusal.BadMembership) e = e

abbrev pub map_ok : {X Y : Type 0} → (X → Y) → Result X SimRefusal → Result Y SimRefusal
map_ok f (Ok x) = Ok (f x)
map_ok f (Err e) = Err e

-- what is made of an answer is made of what it is to be
pub answers_mapped : {X Y : Type 0} (f : X → Y) (wanted result : Result X SimRefusal) → Answers wanted result →
    Answers (map_ok f wanted) (map_ok f result)
answers_mapped f wanted (Ok x) h = ap (map_ok f) h
answers_mapped f wanted (Err refusal.Memory) h = tt
answers_mapped f wanted (Err refusal.UnknownChaincode) h = ap (map_ok f) h
answers_mapped f wanted (Err (refusal.Trapped kind used)) h = ap (map_ok f) h
answers_mapped f wanted (Err refusal.Spent) h = ap (map_ok f) h
answers_mapped f wanted (Err (refusal.Status n)) h = ap (map_ok f) h
answers_mapped f wanted (Err refusal.Stale) h = ap (map_ok f) h
answers_mapped f wanted (Err refusal.NotInstalled) h = ap (map_ok f) h
answers_mapped f wanted (Err refusal.BadPolicy) h = ap (map_ok f) h
answers_mapped f wanted (Err refusal.BadMembership) h = ap (map_ok f) h

pub mapped_done : {X Y : Type 0} (f : X → Y) (e : ledger.Ending) (x : X) → map_ok f (done_or_refusal e x) ≡ done_or_refusal e (f x)
mapped_done f ledger.Done x = refl
mapped_done f ledger.Unknown x = refl
mapped_done f ledger.NotInstalled x = refl
mapped_done f ledger.BadPolicy x = refl
mapped_done f ledger.BadMembership x = refl
mapped_done f (ledger.Trapped kind used) x = refl
mapped_done f ledger.Spent x = refl
mapped_done f (ledger.Status n) x = refl

-- what is made of what is done answers what is to be made
pub answers_made : {X Y : Type 0} (f : X → Y) (e : ledger.Ending) (x : X) (result : Result X SimRefusal) → Answers (done_or_refusal e x) result →
    Answers (done_or_refusal e (f x)) (map_ok f result)
answers_made f e x result h =
    subst (λ wanted. Answers wanted (map_ok f result)) (mapped_done f e x) (answers_mapped f (done_or_refusal e x) result h)
