-- A run that takes one reduction after another comes to its end: so many are left.
use Rattle.std.proofs.Common.{◌≡◌, ◌≢◌, ℕ, zero, suc, ◌-◌, ◌<◌, ◌≤◌, Option, Some, None, [], ◌∷◌, length, map, refl, sym, ap, ◌∙◌, subst, arith, inl, inr}
use Rattle.std.specs.Prelude.{slice_get}
use Rattle.wasm_ast.specs.declared.module.Module.{Module}
use Rattle.wasm_typing.specs.HostCalls.{host_calls}
use Rattle.wasm_typing.specs.ModuleRules.{IsValid, invoke_of}
use Rattle.wasm_meaning.specs.Values as meant
use Rattle.wasm_meaning.specs.Values.{World, Answer, Next, Branch, Returns, Answering, Function, Program}
use Rattle.wasm_meaning.specs.Meaning.{with_some, call_function, meaning}
use Rattle.wasm_meaning.specs.Program.{function_of, program_of, fresh_world, invocation}
use Rattle.wasm_meaning.specs.Fine.{IsEnding}
use Rattle.wasm_meaning.specs.Laws.NeverStuck.{invocation_ends}
use Rattle.interp.specs.declared.outcome.Outcome.{Outcome}
use Rattle.wasm_trace.specs.Reduction.{Nil, Put, Invoke, Traps, Config, conf, Step, To, Ends, Breaks, Leaves, Trapped, Spent, Stuck, reduce, Steps, Reaches}
use Rattle.wasm_trace.specs.Context.{Shows}
use Rattle.wasm_trace.specs.Ending.{IsStart, IsLast, ReductionEnds}
use Rattle.wasm_trace.specs.Standing.{Standing, Begins, Goes, StepsOn, Stepped, with_records}
use Rattle.wasm_trace.proofs.Forms.{invoke_shows}
use Rattle.wasm_trace.proofs.Tree.{sound}
use Rattle.wasm_trace.proofs.Whole.{ends_not_to, trapped_not_to, spent_not_to, same_next, goes_on}

-- one more than what a next configuration has, and 0 where there is none
follow : {R : Type 0} → (Config R → ℕ) → Step R → ℕ
follow go (To y) = suc (go y)
follow go (Ends s) = 0
follow go (Breaks k f s) = 0
follow go (Leaves f s) = 0
follow go (Trapped why) = 0
follow go Spent = 0
follow go Stuck = 0

follow_last : {R : Type 0} (go : Config R → ℕ) (r : Step R) → ((y : Config R) → r ≢ To y) → follow go r ≡ 0
unfolding follow
follow_last go (To y) h = absurd (h y refl)
follow_last go (Ends s) h = refl
follow_last go (Breaks k f s) h = refl
follow_last go (Leaves f s) h = refl
follow_last go (Trapped why) h = refl
follow_last go Spent h = refl
follow_last go Stuck h = refl

module _ {R : Type 0} (p : Program R) where
  -- how many reductions there are from a configuration on, up to n
  pub left : ℕ → Config R → ℕ
  left zero x = 0
  left (suc n) x = follow (λ y. left n y) (reduce p x)

  left_is : (n k : ℕ) (x z : Config R) → Steps p k x z → IsLast p z → k ≤ n → left n x ≡ k
  unfolding left follow
  left_is zero zero x z s h le = refl
  left_is zero (suc k) x z s h le = absurd (omega arith)
  left_is (suc n) zero x z s h le = follow_last (λ y. left n y) (reduce p x) (subst (λ x. IsLast p x) (sym s) h)
  left_is (suc n) (suc k) x z s h le =
      ap (follow (λ y. left n y)) s.1 ∙ ap suc (left_is n k s.0 z s.2 h (omega arith))

  then_one : (k : ℕ) (a x y : Config R) → Steps p k a x → reduce p x ≡ To y → Steps p (suc k) a y
  then_one zero a x y s e = (y, ap (reduce p) s ∙ e, refl)
  then_one (suc k) a x y s e = (s.0, s.1, then_one k s.0 x y s.2 e)

  -- how many reductions show an answer
  count_of : (x : Config R) (a : Answer R) → Shows p [] x Nil a → ℕ
  count_of x (Next f s l w) h = h.0
  count_of x (Branch k f s l w) h = 0
  count_of x (Returns f s l w) h = 0
  count_of x (meant.Trapped why f w) h = h.1.0
  count_of x (meant.Spent w) h = h.3.0
  count_of x meant.Stuck h = 0

  -- the last of them is the end
  counted : (x : Config R) (a : Answer R) → IsEnding a → (h : Shows p [] x Nil a) → (z : Config R) × Steps p (count_of x a h) x z × IsLast p z
  unfolding count_of
  counted x (Next f [] l w) i h = absurd i
  counted x (Next f (v ∷ []) l w) i h = (conf f l w (Put v Nil), h.1, λ z q. ends_not_to q)
  counted x (Next f (u ∷ v ∷ s) l w) i h = absurd i
  counted x (Branch k f s l w) i h = absurd i
  counted x (Returns f s l w) i h = absurd i
  counted x (meant.Trapped why f w) i h = (conf f h.0 w (Traps why Nil), h.1.1, λ z q. trapped_not_to q)
  counted x (meant.Spent w) i h = (conf h.0 h.1 w h.2, h.3.1, λ z q. spent_not_to (sym h.4 ∙ q))
  counted x meant.Stuck i h = absurd i

module _ {R : Type 0} (m : Module) (host : Answering R) (records : R) (fuel : ℕ) where
  abbrev p : Program R
  p = program_of m host

  abbrev begun : Function → Config R
  begun fn = conf fuel [] (fresh_world m records) (Invoke fn Nil)

  abbrev answer : Function → Answer R
  answer fn = call_function (meaning p) 0 fn fuel [] [] (fresh_world m records)

  shown : (fn : Function) → Shows p [] (begun fn) Nil (answer fn)
  shown fn = invoke_shows p (suc fuel) (sound p (suc fuel)) [] fn fuel [] (fresh_world m records) [] Nil (omega arith)

  count_for : Option Function → ℕ
  count_for None = 0
  count_for (Some fn) = count_of p (begun fn) (answer fn) (shown fn)

  abbrev found : ℕ → Option Function
  found k = slice_get (map (function_of m.types) m.functions) (k - length (host_calls m.imports))

  count_at : Option ℕ → ℕ
  count_at None = 0
  count_at (Some k) = count_for (found k)

  -- how many reductions an invocation has
  pub reductions : ℕ
  reductions = count_at (invoke_of m)

  comes : (x : Config R) → IsValid m → IsStart m records fuel x → (z : Config R) × Steps p reductions x z × IsLast p z
  unfolding count_at count_for reductions
  comes x v st =
      let fn = st.function in
      let called : Option ℕ → Answer R = λ o. with_some o (λ k. with_some (found k) answer) in
      let whole : invocation m host records fuel ≡ answer fn = ap called st.invokes ∙ ap (λ o. with_some o answer) st.found in
      let c = counted p (begun fn) (answer fn) (subst IsEnding whole (invocation_ends m host records fuel v)) (shown fn) in
      let k = count_of p (begun fn) (answer fn) (shown fn) in
      let n : reductions ≡ k = ap count_at st.invokes ∙ ap count_for st.found in
      (c.0, subst (λ n. Steps p n x c.0) (sym n) (subst (λ x. Steps p k x c.0) (sym st.is) c.1), c.2)

  -- a run has come to this configuration, and goes on to its end
  pub record Runs (x : Config R) : Type 0 where
    pub start : Config R
    pub starts : IsStart m records fuel start
    pub reaches : Reaches p start x
    pub last : Config R
    pub rest : ℕ
    pub steps : Steps p rest x last
    pub is_last : IsLast p last
    pub within : rest ≤ reductions

  -- what falls
  abbrev pub measure : Config R → ℕ
  measure x = left p reductions x

  pub begins : (s : Standing) → IsValid m → Begins m fuel s → Runs (with_records s.at records)
  begins s v b =
      let x : Config R = with_records s.at records in
      let st : IsStart m records fuel x = record {
        index = b.starts.index;
        function = b.starts.function;
        invokes = b.starts.invokes;
        found = b.starts.found;
        is = ap (λ x. with_records x records) b.starts.is;
      } in
      let c = comes x v st in
      record { start = x; starts = st; reaches = (0, refl); last = c.0; rest = reductions; steps = c.1; is_last = c.2; within = omega arith }

  record After (x y : Config R) : Type 0 where
    pub runs : Runs y
    pub falls : measure y < measure x

  after : (x y : Config R) → Runs x → reduce p x ≡ To y → After x y
  after x y r e = go r.rest r.steps r.within
    where
      go : (k : ℕ) → Steps p k x r.last → k ≤ reductions → After x y
      go zero s le = absurd (r.is_last y (ap (reduce p) (sym s) ∙ e))
      go (suc k) s le =
          let rest : Steps p k y r.last = subst (λ y. Steps p k y r.last) (same_next p x s.0 y s.1 e) s.2 in
          let now : measure x ≡ suc k = left_is p reductions (suc k) x r.last s r.is_last le in
          let next : measure y ≡ k = left_is p reductions k y r.last rest r.is_last (omega arith) in
          record {
            runs = record {
              start = r.start;
              starts = r.starts;
              reaches = (suc r.reaches.0, then_one p r.reaches.0 r.start x y r.reaches.1 e);
              last = r.last;
              rest = k;
              steps = rest;
              is_last = r.is_last;
              within = omega arith;
            };
            falls = omega (arith, now, next);
          }

  -- a step of a stepper that stands in this run
  pub stepped : (other : Answering R) (s s' : Standing) (r r' : R) (o : Option Outcome) → s.valid ≡ m → other ≡ host → s.given ≡ fuel → s.ended ≡ None
      → Stepped (program_of s.valid other) s r s' r' o → Goes p fuel (with_records s.at r) (with_records s'.at r') o
  stepped other s s' r r' o ev eh eg en h =
      let x : Config R = with_records s.at r in
      let y : Config R = with_records s'.at r' in
      let q : Program R = program_of s.valid other in
      let same : q ≡ p = ap (λ m. program_of m other) ev ∙ ap (program_of m) eh in
      let here : StepsOn p s.ended s.given x y o = subst (λ q. StepsOn q s.ended s.given x y o) same h in
      subst (λ e. StepsOn p e fuel x y o) en (subst (λ n. StepsOn p s.ended n x y o) eg here)

  goes_after : (x y : Config R) → IsValid m → Runs x → Goes p fuel x y None → After x y
  goes_after x y v r g = elim g [
    | inl e ↦ after x y r e
    | inr h ↦ absurd (goes_on m host records fuel r.start x v r.starts r.reaches h)
  ]

  pub goes_runs : (x y : Config R) → IsValid m → Runs x → Goes p fuel x y None → Runs y
  goes_runs x y v r g = (goes_after x y v r g).runs

  pub goes_falls : (x y : Config R) → IsValid m → Runs x → Goes p fuel x y None → measure y < measure x
  goes_falls x y v r g = (goes_after x y v r g).falls

  pub goes_ends : (x y : Config R) (o : Outcome) → Runs x → Goes p fuel x y (Some o) → ReductionEnds m host records fuel o y.world.records
  goes_ends x y o r g = record { start = r.start; starts = r.starts; end = x; reaches = r.reaches; ends = g }
