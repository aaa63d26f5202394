-- The steps of a run, printed as they are made.
use Rattle.std.proofs.Common.{◌≡◌, ◌<◌, ◌≤◌, ◌+◌, inl, inr, ℕ, suc, List, [], ◌∷◌, ◌++◌, length, take, Option, Some, None, Result}
use Rattle.std.proofs.Common.{Ok, Err, IfErr, OnOk, OnErr, refl, sym, ap, subst, ◌∙◌, append_assoc, append-nil, arith}
use Rattle.std.specs.FinMap.{empty}
use Rattle.std.specs.List.{cons_option}
use Rattle.std.proofs.lemmas.Bool.{cases_lt}
use Rattle.std.proofs.lemmas.List.{length-append, length-take, take_all, take-append-le}
use Rattle.std.proofs.lemmas.List.Elements.{filter_map-append}
use Rattle.wasm_ast.specs.declared.module.Module.{Module}
use Rattle.wasm_meaning.specs.Values.{Answering, Program}
use Rattle.wasm_meaning.specs.Program.{program_of}
use Rattle.interp.specs.declared.outcome.Outcome.{Outcome}
use Rattle.host_api.specs.Given.{Given}
use Rattle.host_api.specs.Recorded.{Recorded, nothing_recorded}
use Rattle.host_api.specs.HostStep.{host_step}
use Rattle.simulator.specs.Execution.{given_by}
use Rattle.chaincode_book.specs.Books.{chaincode_at}
use Rattle.chaincode_book.specs.declared.book.Chaincode.{Chaincode}
use Rattle.fab_types.specs.declared.proposal.Call.{Call}
use Rattle.ledger_model.specs.Chain.{Bytes}
use Rattle.ledger_model.specs.Views.{Plain}
use Rattle.ledger_setting.specs.declared.genesis.Genesis.{Genesis}
use Rattle.wasm_trace.specs.Reduction.{Config, To, reduce}
use Rattle.wasm_typing.specs.ModuleRules.{IsValid}
use Rattle.wasm_trace.specs.Ending.{IsStart, IsEnd}
use Rattle.wasm_trace.specs.Names.{Named}
use Rattle.wasm_trace.specs.Standing.{Standing, Begins, Goes, IsShownOf, with_records}
use Rattle.wasm_trace.proofs.Running.{Runs}
use Rattle.wasm_trace.proofs.Whole.{goes_on}
use Rattle.cli_lines.specs.Told.{Told, Answers, IsBrokenOff, Prints, PrintsNothing, PrintsPart}
use Rattle.cli_lines.specs.Told.{Begins as IsBegun}
use Rattle.cli_lines.specs.declared.failure.Failure.{Failure}
use Rattle.cli_lines.proofs.Printing.{part_end, printed_on_err, prints_none, prints_same, prints_then}
use Rattle.cli_lines.proofs.Answering.{begins_by, begins_part}
use Rattle.cli_show.specs.Tracing.{Reduction, Reduces, IsTrace, IsTraceBegun, NextStep, TraceBegins, Traces, named_text, step_text}
use Rattle.cli_show.specs.Tracing.{step_texts, step_line, numbered, steps_text, outcome_text}

-- ---- lines

added : Option Bytes → List Bytes
added None = []
added (Some t) = t ∷ []

numbered_more : (n : ℕ) (ts : List Bytes) (t : Bytes) → numbered n (ts ++ t ∷ []) ≡ numbered n ts ++ step_line (n + length ts) t
numbered_more n [] t = append-nil (step_line n t) ∙ ap (λ (k : ℕ). step_line k t) (omega arith)
numbered_more n (x ∷ ts) t =
    let place : (n + 1) + length ts ≡ n + suc (length ts) = omega arith in
    ap (λ (s : Bytes). step_line n x ++ s) (numbered_more (n + 1) ts t ∙ ap (λ (k : ℕ). numbered (n + 1) ts ++ step_line k t) place)
    ∙ sym (append_assoc (step_line n x) (numbered (n + 1) ts) (step_line (n + suc (length ts)) t))

-- one more of the texts, of which so many are printed
abbrev IsNext : (most count : ℕ) (ts us : List Bytes) (text : Bytes) → Type 0
IsNext most count ts us text = (count ≡ length (take most us)) × (steps_text most us ≡ steps_text most ts ++ text)

next_printed : (most printed count : ℕ) (ts : List Bytes) (t text : Bytes) → printed ≡ length (take most ts) → printed < most → count ≡ printed + 1 →
    text ≡ step_line count t → IsNext most count ts (ts ++ t ∷ []) text
next_printed most printed count ts t text is below one line =
    let shown = length-take most ts in
    let longer = length-append ts (t ∷ []) in
    let few : length ts ≤ most = omega (arith, is, below, shown) in
    let all : take most ts ≡ ts = take_all most ts few in
    let also : take most (ts ++ t ∷ []) ≡ ts ++ t ∷ [] = take_all most (ts ++ t ∷ []) (omega (arith, is, below, shown, longer)) in
    let place : 1 + length ts ≡ count = omega (arith, is, below, shown, one) in (
      omega (arith, one, is, longer, ap length all, ap length also),
      ap (λ (us : List Bytes). numbered 1 us) also ∙ numbered_more 1 ts t
          ∙ ap (λ (k : ℕ). numbered 1 ts ++ step_line k t) place
          ∙ ap (λ (s : Bytes). numbered 1 ts ++ s) (sym line)
          ∙ ap (λ (us : List Bytes). numbered 1 us ++ text) (sym all),
    )

next_left : (most printed count : ℕ) (ts : List Bytes) (t text : Bytes) → printed ≡ length (take most ts) → most ≤ printed → count ≡ printed → text ≡ [] →
    IsNext most count ts (ts ++ t ∷ []) text
next_left most printed count ts t text is past same none =
    let shown = length-take most ts in
    let cut : take most (ts ++ t ∷ []) ≡ take most ts = take-append-le most ts (t ∷ []) (omega (arith, is, past, shown)) in (
      same ∙ is ∙ ap length (sym cut),
      ap (λ (us : List Bytes). numbered 1 us) cut ∙ sym (append-nil (numbered 1 (take most ts))) ∙ ap (λ (s : Bytes). numbered 1 (take most ts) ++ s) (sym none),
    )

next : (most printed count : ℕ) (ts : List Bytes) (o : Option Bytes) (text : Bytes) → printed ≡ length (take most ts) → NextStep o most printed count text →
    IsNext most count ts (ts ++ added o) text
unfolding added
next most printed count ts None text is n =
    let same : ts ++ [] ≡ ts = append-nil ts in (
      n.0 ∙ is ∙ ap (λ (us : List Bytes). length (take most us)) (sym same),
      ap (λ (us : List Bytes). numbered 1 (take most us)) same ∙ sym (append-nil (numbered 1 (take most ts)))
          ∙ ap (λ (s : Bytes). numbered 1 (take most ts) ++ s) (sym n.1),
    )
next most printed count ts (Some t) text is n = elim (cases_lt printed most) [
  | inl below ↦ let h = n.0 below in next_printed most printed count ts t text is below h.0 h.1
  | inr past ↦ let h = n.1 past in next_left most printed count ts t text is past h.0 h.1
]

-- ---- the step that was made last

pub next_past : (o : Option Bytes) (most printed : ℕ) → most ≤ printed → NextStep o most printed printed []
next_past None most printed past = (refl, refl)
next_past (Some t) most printed past = (λ below. absurd (omega (arith, below, past)), λ p. (refl, refl))

pub next_none : (o : Option Bytes) (most printed : ℕ) → None ≡ o → NextStep o most printed printed []
next_none o most printed is = subst (λ (q : Option Bytes). NextStep q most printed printed []) is (refl, refl)

pub next_some : (o : Option Bytes) (t : Bytes) (most printed count : ℕ) → Some t ≡ o → printed < most → count ≡ printed + 1 →
    NextStep o most printed count (step_line count t)
next_some o t most printed count is below one =
    subst (λ (q : Option Bytes). NextStep q most printed count (step_line count t)) is
    (λ b. (one, refl), λ past. absurd (omega (arith, below, past)))

-- ---- reductions

-- what is shown of a step that the run goes on from
pub step_named : (s s' : Standing) (q : Option Outcome) → q ≡ None → IsShownOf q s.at s'.at.fuel s'.shown → Named s.at.seq s.at.fuel s'.at.fuel s'.shown
step_named s s' q goes h = subst (λ (q : Option Outcome). IsShownOf q s.at s'.at.fuel s'.shown) goes h

last_text : {R : Type 0} (o : Option Bytes) (s : Reduction R) → step_text s ≡ o → step_texts (s ∷ []) ≡ added o
unfolding added
last_text None s e = ap (λ (q : Option Bytes). cons_option q []) e
last_text (Some t) s e = ap (λ (q : Option Bytes). cons_option q []) e

module _ {R : Type 0} (p : Program R) where
  reduces_more : (x y : Config R) (steps : List (Reduction R)) (s : Reduction R) → Reduces p x steps y → reduce p y ≡ To s.to →
      Named y.seq y.fuel s.to.fuel s.name → Reduces p x (steps ++ s ∷ []) s.to
  reduces_more x y [] s is e named =
      (ap (reduce p) (sym is) ∙ e, subst (λ (z : Config R). Named z.seq z.fuel s.to.fuel s.name) is named, refl)
  reduces_more x y (t ∷ steps) s r e named = (r.0, r.1, reduces_more t.to y steps s r.2 e named)

module _ {R : Type 0} (m : Module) (host : Answering R) (records : R) (fuel most : ℕ) where
  -- a run that has come to a configuration, and what was printed of it
  pub record Traced (x : Config R) (printed : ℕ) (before after : Told) : Type 0 where
    pub start : Config R
    pub starts : IsStart m records fuel start
    pub steps : List (Reduction R)
    pub reduces : Reduces (program_of m host) start steps x
    pub count : printed ≡ length (take most (step_texts steps))
    pub prints : Prints before after (steps_text most (step_texts steps))

  pub traced_none : (s : Standing) (t : Told) → Begins m fuel s → Traced (with_records s.at records) 0 t t
  traced_none s t b =
      let x : Config R = with_records s.at records in
      let none : take most [] ≡ [] = take_all {A = Bytes} most [] (omega arith) in
      record {
        start = x;
        starts = record {
          index = b.starts.index;
          function = b.starts.function;
          invokes = b.starts.invokes;
          found = b.starts.found;
          is = ap (λ x. with_records x records) b.starts.is;
        };
        steps = [];
        reduces = refl;
        count = ap length (sym none);
        prints = prints_same t t [] (steps_text most []) (ap (λ (ts : List Bytes). numbered 1 ts) (sym none)) (prints_none t);
      }

  traced_more : (x y : Config R) (name : Option Bytes) (printed count : ℕ) (text : Bytes) (t u v : Told) → Traced x printed t u →
      reduce (program_of m host) x ≡ To y → Named x.seq x.fuel y.fuel name → NextStep (named_text name y.fuel) most printed count text →
      Prints u v text → Traced y count t v
  traced_more x y name printed count text t u v r e named n prints =
      let p : Program R = program_of m host in
      let s : Reduction R = record { to = y; name = name } in
      let ts : List Bytes = step_texts r.steps in
      let o : Option Bytes = named_text name y.fuel in
      let longer : step_texts (r.steps ++ s ∷ []) ≡ ts ++ added o =
      filter_map-append step_text r.steps (s ∷ []) ∙ ap (λ (us : List Bytes). ts ++ us) (last_text o s refl) in
      let is : IsNext most count ts (step_texts (r.steps ++ s ∷ [])) text =
      subst (λ (us : List Bytes). IsNext most count ts us text) (sym longer) (next most printed count ts o text r.count n) in
      record {
        start = r.start;
        starts = r.starts;
        steps = r.steps ++ s ∷ [];
        reduces = reduces_more p r.start x r.steps s r.reduces e named;
        count = is.0;
        prints = prints_same t v _ _ (sym is.1) (prints_then t u v _ _ r.prints prints);
      }

  next_config : (x y : Config R) → IsValid m → Runs m host records fuel x → Goes (program_of m host) fuel x y None → reduce (program_of m host) x ≡ To y
  next_config x y valid r g = elim g [
    | inl e ↦ e
    | inr stuck ↦ absurd (goes_on m host records fuel r.start x valid r.starts r.reaches stuck)
  ]

  -- the run goes on by one step, which was printed, if it is to be
  pub traced_step : (s s' : Standing) (r r' : R) (printed count : ℕ) (text : Bytes) (t u v : Told) → IsValid m →
      Runs m host records fuel (with_records s.at r) → Traced (with_records s.at r) printed t u →
      Goes (program_of m host) fuel (with_records s.at r) (with_records s'.at r') None → Named s.at.seq s.at.fuel s'.at.fuel s'.shown →
      NextStep (named_text s'.shown s'.at.fuel) most printed count text → Prints u v text → Traced (with_records s'.at r') count t v
  traced_step s s' r r' printed count text t u v valid runs traced goes named n prints =
      let x : Config R = with_records s.at r in
      let y : Config R = with_records s'.at r' in
      traced_more x y s'.shown printed count text t u v traced (next_config x y valid runs goes) named n prints

  pub traced_end : (x : Config R) (o : Outcome) (after : R) (printed : ℕ) (t u v : Told) → Traced x printed t u → IsEnd (program_of m host) x fuel o after →
      Prints u v (outcome_text o) → (text : Bytes) × IsTrace m host records fuel most text × Prints t v text
  traced_end x o after printed t u v r ends prints =
      let text : Bytes = steps_text most (step_texts r.steps) ++ outcome_text o in (
        text,
        record {
          start = r.start;
          starts = r.starts;
          steps = r.steps;
          end = x;
          reduces = r.reduces;
          outcome = o;
          after = after;
          ends = ends;
          is = refl;
        },
        prints_then t u v _ _ r.prints prints,
      )

  -- it goes no further, and nothing more is printed
  pub traced_begun : {A : Type 0} (x : Config R) (printed : ℕ) (t u v : Told) (answer : Result A Failure) → Traced x printed t u →
      OnErr answer (PrintsNothing u v) → IsBegun (IsTraceBegun m host records fuel most) t v answer
  traced_begun x printed t u v answer r none =
      let text : Bytes = steps_text most (step_texts r.steps) in
      begins_part (IsTraceBegun m host records fuel most) t v answer text
      (record { start = r.start; starts = r.starts; steps = r.steps; last = x; reduces = r.reduces; is = refl })
      (printed_on_err answer (PrintsNothing u v) (PrintsPart t v text) (λ n. part_end t u v text r.prints n) none)

-- what `trace` begins, by a host that was opened on a state without keys
pub call_begun : (g : Genesis) (call : Call) (most : ℕ) (c : Chaincode) (state : Plain) (given : Given) (records : Recorded) (t u : Told)
    (r : Result (Unit {0}) Failure) → chaincode_at g.book.value.chaincodes call.chaincode ≡ Some c → state ≡ empty →
    given ≡ given_by g.book.value.edition call → records ≡ nothing_recorded → IsBegun (IsTraceBegun c.«module» (host_step state given) records c.fuel most) t u r →
    IsBegun (TraceBegins g call most) t u r
call_begun g call most c state given records t u r found none same nothing =
    begins_by (IsTraceBegun c.«module» (host_step state given) records c.fuel most) (TraceBegins g call most) t u r
    (λ text h. (
      c,
      found,
      subst (λ (s : Recorded). IsTraceBegun c.«module» (host_step empty (given_by g.book.value.edition call)) s c.fuel most text) nothing
          (subst (λ (a : Given). IsTraceBegun c.«module» (host_step empty a) records c.fuel most text) same
          (subst (λ (m : Plain). IsTraceBegun c.«module» (host_step m given) records c.fuel most text) none h)),
    ))

-- what `trace` comes to, by a host that was opened on a state without keys
pub call_traced : (g : Genesis) (call : Call) (most : ℕ) (c : Chaincode) (state : Plain) (given : Given) (records : Recorded) (t u : Told)
    (r : Result (Unit {0}) Failure) → chaincode_at g.book.value.chaincodes call.chaincode ≡ Some c → state ≡ empty →
    given ≡ given_by g.book.value.edition call → records ≡ nothing_recorded → IfErr r IsBrokenOff →
    OnOk r ((text : Bytes) × IsTrace c.«module» (host_step state given) records c.fuel most text × Prints t u text) → Answers (Traces g call most) t u r
call_traced g call most c state given records t u (Err f) found none same nothing lost traces = inl lost
call_traced g call most c state given records t u (Ok x) found none same nothing lost traces =
    let text : Bytes = traces.0 in
    let on : IsTrace c.«module» (host_step empty given) records c.fuel most text =
    subst (λ (m : Plain). IsTrace c.«module» (host_step m given) records c.fuel most text) none traces.1 in
    let asked : Given = given_by g.book.value.edition call in
    let by : IsTrace c.«module» (host_step empty asked) records c.fuel most text =
    subst (λ (a : Given). IsTrace c.«module» (host_step empty a) records c.fuel most text) same on in
    inr (text, (c, found, subst (λ (s : Recorded). IsTrace c.«module» (host_step empty asked) s c.fuel most text) nothing by), traces.2)
