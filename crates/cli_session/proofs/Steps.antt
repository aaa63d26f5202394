-- Steps that are printed, and those of several lines.
use Rattle.std.proofs.Common.{◌≡◌, ℕ, List, [], ◌∷◌, ◌++◌, inl, inr, Result, Ok, Err, IfOk, IfErr, OnOk, String, Global, string_bytes, refl, sym, ap, subst, ◌∙◌}
use Rattle.std.specs.Prelude.{IsOkAnd}
use Rattle.std.proofs.lemmas.List.{map-append}
use Rattle.simulator.specs.Execution.{exec_of}
use Rattle.json_events.specs.declared.bindings.Bindings.{Bindings}
use Rattle.fabric_core.specs.System.{Rules, World, AreSteps}
use Rattle.fabric_core.specs.Inside.{State, rules_of, KeepsRules}
use Rattle.fabric_core.specs.declared.event.Event.{Event}
use Rattle.fabric_core.specs.declared.event.Reply.{Reply}
use Rattle.cli_lines.specs.Told.{Told, Prints, IsBrokenOff}
use Rattle.cli_lines.specs.declared.failure.Failure.{Failure}
use Rattle.cli_lines.proofs.Printing.{prints_same}
use Rattle.cli_session.specs.Stages.{Stage, StepsTo, Stay, IsStepOf, DoesPrint}
use Rattle.cli_session.specs.Running.{StopsAt, events_of, replies_of}

-- a step whose reply was printed
pub step_printed : {A E : Type 0} (told : Result A E) {F : Type 0} (reply : Result Reply F) (event : Event) (said : Reply → List ℕ)
    (named : Reply → Bindings → Bindings → Type 0) (old new : Stage) (before after : Told) →
    IfOk reply (λ r. StepsTo old.system event r new.system) → OnOk told (IfOk reply (λ r. named r old.names new.names)) →
    OnOk told ((r : Reply) × (reply ≡ Ok r) × Prints before after (said r)) →
    OnOk told (DoesPrint (IsStepOf event said named) old new before after)
step_printed (Err e) reply event said named old new before after steps names printed = tt
step_printed (Ok x) {F} reply event said named old new before after steps names printed =
    let r = printed.0 in
    let step : StepsTo old.system event r new.system =
    subst (λ (q : Result Reply F). IfOk q (λ a. StepsTo old.system event a new.system)) printed.1 steps in
    let name : named r old.names new.names = subst (λ (q : Result Reply F). IfOk q (λ a. named a old.names new.names)) printed.1 names in
    ((event, r) ∷ [], said r, record { answer = r; step = step; names = name; is = refl; prints = refl }, printed.2)

-- a step whose reply was printed, where names are bound behind it
pub step_named : {A E : Type 0} (told : Result A E) (reply : Reply) (event : Event) (said : Reply → List ℕ)
    (named : Reply → Bindings → Bindings → Type 0) (old mid new : Stage) (before after : Told) → StepsTo old.system event reply mid.system →
    mid.names ≡ old.names → new.system ≡ mid.system → OnOk told (named reply mid.names new.names) → OnOk told (Prints before after (said reply)) →
    OnOk told (DoesPrint (IsStepOf event said named) old new before after)
step_named (Err e) reply event said named old mid new before after step same kept names prints = tt
step_named (Ok x) reply event said named old mid new before after step same kept names prints =
    let here : StepsTo old.system event reply new.system = subst (λ (s : State). StepsTo old.system event reply s) (sym kept) step in
    let bound : named reply old.names new.names = subst (λ (b : Bindings). named reply b new.names) same names in
    ((event, reply) ∷ [], said reply, record { answer = reply; step = here; names = bound; is = refl; prints = refl }, prints)

pub names_stay : {A E F : Type 0} (told : Result A E) (reply : Result Reply F) (old new : Bindings) → new ≡ old → OnOk told (IfOk reply (λ r. Stay r old new))
names_stay (Err e) reply old new same = tt
names_stay (Ok x) (Err e) old new same = tt
names_stay (Ok x) (Ok r) old new same = same

-- the same step in other words
pub does_by : (P Q : Stage → List (Event × Reply) → List ℕ → Stage → Type 0) {A E : Type 0} (r : Result A E) (old new : Stage) (before after : Told) →
    ((told : List (Event × Reply)) (text : List ℕ) → P old told text new → Q old told text new) →
    OnOk r (DoesPrint P old new before after) → OnOk r (DoesPrint Q old new before after)
does_by P Q (Err e) old new before after f h = tt
does_by P Q (Ok x) old new before after f h = (h.0, h.1, f h.0 h.1 h.2, h.3)

pub any_ok : {A E : Type 0} (r : Result A E) (P : Type 0) → P → OnOk r P
any_ok (Ok x) P h = h
any_ok (Err e) P h = tt

-- what is bound, where that could be done
pub bound_ok : {A E F : Type 0} (r : Result A F) (bound : Result (Unit {0}) E) (P : Type 0) → OnOk r (bound ≡ Ok tt) → OnOk bound P → OnOk r P
bound_ok {A} {E} (Ok x) bound P is h = subst (λ (q : Result (Unit {0}) E). OnOk q P) is h
bound_ok (Err e) bound P is h = tt

-- its line, where there is one
pub line_printed : {A E F : Type 0} (r : Result A F) (line : Result (String Global) E) (t u : Told) (text : List ℕ) →
    IfOk line (λ s. string_bytes s ≡ text) → OnOk r (IsOkAnd line (λ s. Prints t u (string_bytes s))) → OnOk r (Prints t u text)
line_printed (Ok x) (Ok s) t u text is prints = prints_same t u (string_bytes s) text is prints
line_printed (Ok x) (Err e) t u text is prints = absurd prints
line_printed (Err e) line t u text is prints = tt

-- ---- a line that stops the run

pub lost_stops : {A : Type 0} (r : Result A Failure) (number : ℕ) (Why : Type 0) (t u : Told) → IfErr r IsBrokenOff → IfErr r (StopsAt number Why t u)
lost_stops (Ok x) number Why t u lost = tt
lost_stops (Err f) number Why t u lost = inl lost

stop_by : (number : ℕ) (P Q : Type 0) (t u : Told) (f : Failure) → (P → Q) → StopsAt number P t u f → StopsAt number Q t u f
stop_by number P Q t u f by (inl lost) = inl lost
stop_by number P Q t u f by (inr s) = inr (s.0, by s.1, s.2)

pub stops_by : {A : Type 0} (r : Result A Failure) (number : ℕ) (P Q : Type 0) (t u : Told) → (P → Q) → IfErr r (StopsAt number P t u) →
    IfErr r (StopsAt number Q t u)
stops_by (Ok x) number P Q t u by s = tt
stops_by (Err f) number P Q t u by s = stop_by number P Q t u f by s

-- ---- the steps of a run

pub steps_joined : (r : Rules) (w mid new : World) (es fs : List Event) (rs ss : List Reply) → AreSteps r w es rs mid → AreSteps r mid fs ss new →
    AreSteps r w (es ++ fs) (rs ++ ss) new
steps_joined r w mid new [] fs rs ss a b = rw a.0 (subst (λ (u : World). AreSteps r u fs ss new) a.1 b)
steps_joined r w mid new (e ∷ es) fs rs ss a b =
    (a.0, a.1, a.2 ++ ss, ap (λ (qs : List Reply). qs ++ ss) a.3, a.4, steps_joined r a.1 mid new es fs a.2 ss a.5 b)

abbrev pub rules_at : State → Rules
rules_at s = rules_of (exec_of s.book) s.rules s.seeds s.capacity

-- these are steps of a system, which keeps its setting
abbrev pub Runs : State → List (Event × Reply) → State → Type 0
Runs old told new = AreSteps (rules_at old) old.world (events_of told) (replies_of told) new.world × KeepsRules old new

pub same_rules : (old new : State) → KeepsRules old new → rules_at new ≡ rules_at old
same_rules old new k = λ i. rules_of (exec_of (k.0 i)) (k.1 i) (k.2 i) (k.3 i)

pub runs_none : (s : State) → Runs s [] s
runs_none s = ((refl, refl), (refl, refl, refl, refl))

pub runs_one : (old : State) (event : Event) (reply : Reply) (new : State) → StepsTo old event reply new → Runs old ((event, reply) ∷ []) new
runs_one old event reply new step = ((reply, new.world, [], refl, step.0, (refl, refl)), step.1)

pub runs_joined : (old mid new : State) (told more : List (Event × Reply)) → Runs old told mid → Runs mid more new → Runs old (told ++ more) new
runs_joined old mid new told more first next =
    let later : AreSteps (rules_at old) mid.world (events_of more) (replies_of more) new.world =
    subst (λ (r : Rules). AreSteps r mid.world (events_of more) (replies_of more) new.world) (same_rules old mid first.1) next.0 in
    let events : events_of told ++ events_of more ≡ events_of (told ++ more) = sym (map-append (λ (t : Event × Reply). t.0) told more) in
    let replies : replies_of told ++ replies_of more ≡ replies_of (told ++ more) = sym (map-append (λ (t : Event × Reply). t.1) told more) in
    let all = steps_joined (rules_at old) old.world mid.world new.world (events_of told) (events_of more) (replies_of told) (replies_of more) first.0 later in (
      subst (λ (es : List Event). AreSteps (rules_at old) old.world es (replies_of (told ++ more)) new.world) events
          (subst (λ (rs : List Reply). AreSteps (rules_at old) old.world (events_of told ++ events_of more) rs new.world) replies all),
      (next.1.0 ∙ first.1.0, next.1.1 ∙ first.1.1, next.1.2 ∙ first.1.2, next.1.3 ∙ first.1.3),
    )
