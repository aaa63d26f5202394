-- The reduction of an invocation ends as its meaning says.
use Rattle.std.proofs.Common.{◌≡◌, ℕ, zero, suc, ◌+◌, ◌-◌, Option, Some, None, List, [], ◌∷◌, length, map, refl, sym, ap, ◌∙◌, subst, arith}
use Rattle.std.specs.Prelude.{slice_get}
use Rattle.wasm_ast.specs.declared.trap.Trap.{Trap}
use Rattle.wasm_ast.specs.declared.types.ValueType.TheVariants.{I32, I64}
use Rattle.wasm_ast.specs.declared.module.Module.{Module}
use Rattle.wasm_typing.specs.HostCalls.{host_calls}
use Rattle.wasm_typing.specs.ModuleRules.{IsValid, invoke_of}
use Rattle.wasm_meaning.specs.Values as meant
use Rattle.wasm_meaning.specs.Values.{Val, value, World, Answer, Next, Branch, Returns, Answering, Function, Program}
use Rattle.wasm_meaning.specs.Meaning.{with_some, call_function, meaning}
use Rattle.wasm_meaning.specs.Program.{function_of, program_of, fresh_world, invocation}
use Rattle.wasm_meaning.specs.Fine.{IsEnding}
use Rattle.wasm_meaning.specs.Laws.NeverStuck.{invocation_ends}
use Rattle.interp.specs.Ended.{Ended}
use Rattle.interp.specs.declared.outcome.Outcome.{Outcome}
use Rattle.interp.specs.declared.outcome.Outcome.TheVariants as outcome
use Rattle.wasm_trace.specs.Reduction.{Nil, Put, Invoke, Traps, Config, conf, Step, To, Ends, Breaks, Leaves, Trapped, Spent, Stuck, reduce, Steps, Reaches}
use Rattle.wasm_trace.specs.Context.{Shows}
use Rattle.wasm_trace.specs.Ending.{IsNoResult, IsStuck, IsStart, IsLast, EndsAs, IsEnd, ReductionEnds}
use Rattle.wasm_trace.proofs.Forms.{invoke_shows}
use Rattle.wasm_trace.proofs.Tree.{sound}

-- which kind of end a step is, and its word or trap
abbrev kind_of : {R : Type 0} → Step R → ℕ
kind_of (To y) = 0
kind_of (Ends v) = 1
kind_of (Breaks k f v) = 2
kind_of (Leaves f v) = 3
kind_of (Trapped why) = 4
kind_of Spent = 5
kind_of Stuck = 6

pub ends_not_to : {R : Type 0} {s : List Val} {z : Config R} → Ends s ≡ To z → ⊥
ends_not_to e = let h = ap kind_of e in absurd (omega (arith, h))

pub trapped_not_to : {R : Type 0} {why : Trap} {z : Config R} → Trapped why ≡ To z → ⊥
trapped_not_to e = let h = ap kind_of e in absurd (omega (arith, h))

pub spent_not_to : {R : Type 0} {z : Config R} → Spent ≡ To z → ⊥
spent_not_to e = let h = ap kind_of e in absurd (omega (arith, h))

abbrev word_in : {R : Type 0} → Step R → ℕ
word_in (Ends (v ∷ s)) = v.word
word_in r = 0

abbrev trap_in : {R : Type 0} → Trap → Step R → Trap
trap_in d (Trapped why) = why
trap_in d r = d

module _ {R : Type 0} (p : Program R) where
  shows_ends : (x : Config R) (a : Answer R) → IsEnding a → Shows p [] x Nil a → EndsAs p x a
  shows_ends x (Next f s l w) e h = h
  shows_ends x (Branch k f s l w) e h = absurd e
  shows_ends x (Returns f s l w) e h = absurd e
  shows_ends x (meant.Trapped why f w) e h = h
  shows_ends x (meant.Spent w) e h = h
  shows_ends x meant.Stuck e h = absurd e

  -- what ends as an answer does is an end, with the same outcome and records
  pub end_of : (x : Config R) (a : Answer R) (given : ℕ) (o : Outcome) (after : R) → IsEnding a → EndsAs p x a → Ended a given o after →
      (y : Config R) × Reaches p x y × IsEnd p y given o after
  end_of x (Next f (v ∷ []) l w) given (outcome.Returned status used) after i h e =
      (conf f l w (Put v Nil), h, (ap (λ t. Ends (value t v.word ∷ [])) i.0 ∙ ap (λ n. Ends (value I32 n ∷ [])) (sym e.0), e.1, e.2))
  end_of x (Next f (v ∷ []) l w) given (outcome.Trapped kind used) after i h e = absurd e
  end_of x (Next f (v ∷ []) l w) given outcome.Spent after i h e = absurd e
  end_of x (Next f [] l w) given o after i h e = absurd e
  end_of x (Next f (u ∷ v ∷ s) l w) given o after i h e = absurd e
  end_of x (Branch k f s l w) given o after i h e = absurd h
  end_of x (Returns f s l w) given o after i h e = absurd h
  end_of x (meant.Trapped why f w) given (outcome.Returned status used) after i h e = absurd e
  end_of x (meant.Trapped why f w) given (outcome.Trapped kind used) after i h e = (conf f h.0 w (Traps why Nil), h.1, (ap Trapped (sym e.0), e.1, e.2))
  end_of x (meant.Trapped why f w) given outcome.Spent after i h e = absurd e
  end_of x (meant.Spent w) given (outcome.Returned status used) after i h e = absurd e
  end_of x (meant.Spent w) given (outcome.Trapped kind used) after i h e = absurd e
  end_of x (meant.Spent w) given outcome.Spent after i h e = (conf h.0 h.1 w h.2, h.3, (h.4, e))
  end_of x meant.Stuck given o after i h e = absurd h

  pub same_next : (x y z : Config R) → reduce p x ≡ To y → reduce p x ≡ To z → y ≡ z
  same_next x y z e q = ap (next y) (sym e ∙ q)
    where
      next : Config R → Step R → Config R
      next d (To y) = y
      next d (Ends v) = d
      next d (Breaks k f v) = d
      next d (Leaves f v) = d
      next d (Trapped why) = d
      next d Spent = d
      next d Stuck = d

  steps_last : (m n : ℕ) (x y z : Config R) → Steps p m x y → Steps p n x z → IsLast p y → IsLast p z → y ≡ z
  steps_last zero zero x y z a b h k = sym a ∙ b
  steps_last zero (suc n) x y z a b h k = absurd (h b.0 (ap (reduce p) (sym a) ∙ b.1))
  steps_last (suc m) zero x y z a b h k = absurd (k a.0 (ap (reduce p) (sym b) ∙ a.1))
  steps_last (suc m) (suc n) x y z a b h k =
      steps_last m n b.0 y z (subst (λ u. Steps p m u y) (same_next x a.0 b.0 a.1 b.1) a.2) b.2 h k

  -- reduction comes to one end
  pub one_last : (x y z : Config R) → Reaches p x y → Reaches p x z → IsLast p y → IsLast p z → y ≡ z
  one_last x y z a b h k = steps_last a.0 b.0 x y z a.1 b.1 h k

  pub end_is_last : (y : Config R) (given : ℕ) (o : Outcome) (after : R) → IsEnd p y given o after → IsLast p y
  end_is_last y given (outcome.Returned status used) after e z q = ends_not_to (sym e.0 ∙ q)
  end_is_last y given (outcome.Trapped kind used) after e z q = trapped_not_to (sym e.0 ∙ q)
  end_is_last y given outcome.Spent after e z q = spent_not_to (sym e.0 ∙ q)

  same_fuel : (a b f given : ℕ) → a + f ≡ given → b + f ≡ given → a ≡ b
  same_fuel a b f given h k = omega arith

  -- one configuration is one end
  same_end : (y : Config R) (given : ℕ) (o o' : Outcome) (r r' : R) → IsEnd p y given o r → IsEnd p y given o' r' → (o ≡ o') × (r ≡ r')
  same_end y given (outcome.Returned s u) (outcome.Returned s' u') r r' h k =
      (ap (λ s. outcome.Returned s u) (ap word_in (sym h.0 ∙ k.0)) ∙ ap (λ u. outcome.Returned s' u) (same_fuel u u' y.fuel given h.1 k.1), h.2 ∙ sym k.2)
  same_end y given (outcome.Trapped s u) (outcome.Trapped s' u') r r' h k =
      (ap (λ s. outcome.Trapped s u) (ap (trap_in s) (sym h.0 ∙ k.0)) ∙ ap (λ u. outcome.Trapped s' u) (same_fuel u u' y.fuel given h.1 k.1), h.2 ∙ sym k.2)
  same_end y given outcome.Spent outcome.Spent r r' h k = (refl, h.1 ∙ sym k.1)
  same_end y given (outcome.Returned s u) (outcome.Trapped s' u') r r' h k = let e = ap kind_of (sym h.0 ∙ k.0) in absurd (omega (arith, e))
  same_end y given (outcome.Returned s u) outcome.Spent r r' h k = let e = ap kind_of (sym h.0 ∙ k.0) in absurd (omega (arith, e))
  same_end y given (outcome.Trapped s u) (outcome.Returned s' u') r r' h k = let e = ap kind_of (sym h.0 ∙ k.0) in absurd (omega (arith, e))
  same_end y given (outcome.Trapped s u) outcome.Spent r r' h k = let e = ap kind_of (sym h.0 ∙ k.0) in absurd (omega (arith, e))
  same_end y given outcome.Spent (outcome.Returned s' u') r r' h k = let e = ap kind_of (sym h.0 ∙ k.0) in absurd (omega (arith, e))
  same_end y given outcome.Spent (outcome.Trapped s' u') r r' h k = let e = ap kind_of (sym h.0 ∙ k.0) in absurd (omega (arith, e))

module _ {R : Type 0} (m : Module) (host : Answering R) (records : R) (fuel : ℕ) where
  pub start_ends : IsValid m → (x : Config R) × IsStart m records fuel x × EndsAs (program_of m host) x (invocation m host records fuel)
  start_ends v = go (invoke_of m) refl (invocation_ends m host records fuel v)
    where
      own : List Function
      own = map (function_of m.types) m.functions

      w : World R
      w = fresh_world m records

      run : ℕ → Answer R
      run k = with_some (slice_get own (k - length (host_calls m.imports))) (λ fn. call_function (meaning (program_of m host)) 0 fn fuel [] [] w)

      inner : (k : ℕ) → invoke_of m ≡ Some k → (o : Option Function) → slice_get own (k - length (host_calls m.imports)) ≡ o →
          IsEnding (with_some o (λ fn. call_function (meaning (program_of m host)) 0 fn fuel [] [] w)) →
          (x : Config R) × IsStart m records fuel x ×
          EndsAs (program_of m host) x (with_some o (λ fn. call_function (meaning (program_of m host)) 0 fn fuel [] [] w))
      inner k e None q h = absurd h
      inner k e (Some fn) q h = (
        conf fuel [] w (Invoke fn Nil),
        record { index = k; function = fn; invokes = e; found = q; is = refl },
        shows_ends (program_of m host) (conf fuel [] w (Invoke fn Nil)) (call_function (meaning (program_of m host)) 0 fn fuel [] [] w) h
            (invoke_shows (program_of m host) (suc fuel) (sound (program_of m host) (suc fuel)) [] fn fuel [] w [] Nil (omega arith)),
      )

      go : (o : Option ℕ) → invoke_of m ≡ o → IsEnding (with_some o run) →
          (x : Config R) × IsStart m records fuel x × EndsAs (program_of m host) x (with_some o run)
      go None e h = absurd h
      go (Some k) e h = inner k e (slice_get own (k - length (host_calls m.imports))) refl h

  -- what the meaning says of an invocation, reduction does
  pub reduction_ends : IsValid m → (o : Outcome) (after : R) → Ended (invocation m host records fuel) fuel o after → ReductionEnds m host records fuel o after
  reduction_ends v o after e =
      let s = start_ends v in
      let h = end_of (program_of m host) s.0 (invocation m host records fuel) fuel o after (invocation_ends m host records fuel v) s.2 e in
      record { start = s.0; starts = s.1; end = h.0; reaches = h.1; ends = h.2 }

  same_start : (x y : Config R) → IsStart m records fuel x → IsStart m records fuel y → x ≡ y
  same_start x y a b = a.is ∙
      ap (λ fn. conf fuel [] (fresh_world m records) (Invoke fn Nil))
      (same (subst (λ k. slice_get (map (function_of m.types) m.functions) (k - length (host_calls m.imports)) ≡ Some a.function)
      (some_same a.index b.index (sym a.invokes ∙ b.invokes)) a.found)) ∙ sym b.is
    where
      some_same : {A : Type 0} (x y : A) → Some x ≡ Some y → x ≡ y
      some_same x y e = ap (λ o. get x o) e
        where
          get : {A : Type 0} → A → Option A → A
          get d None = d
          get d (Some v) = v

      same : slice_get (map (function_of m.types) m.functions) (b.index - length (host_calls m.imports)) ≡ Some a.function → a.function ≡ b.function
      same e = some_same a.function b.function (sym e ∙ b.found)

  -- a reduction ends in one way
  pub one_end : (o o' : Outcome) (r r' : R) → ReductionEnds m host records fuel o r → ReductionEnds m host records fuel o' r' → (o ≡ o') × (r ≡ r')
  one_end o o' r r' a b =
      let p = program_of m host in
      let again = subst (λ x. Reaches p x b.end) (same_start b.start a.start b.starts a.starts) b.reaches in
      let e = one_last p a.start a.end b.end a.reaches again (end_is_last p a.end fuel o r a.ends) (end_is_last p b.end fuel o' r' b.ends) in
      same_end p b.end fuel o o' r r' (subst (λ y. IsEnd p y fuel o r) e a.ends) b.ends

-- no configuration that a run reaches is stuck
module _ {R : Type 0} (p : Program R) where
  stuck_is_last : (y : Config R) → IsStuck (reduce p y) → IsLast p y
  stuck_is_last y h z e = subst IsStuck e h

  i32_result : (v : Val) → v.type ≡ I32 → IsNoResult (v ∷ []) → ⊥
  i32_result v e h = let z : I32 ≡ I64 = sym e ∙ h in cc

  not_stuck : (x y z : Config R) → Reaches p x y → Reaches p x z → IsLast p z → IsStuck (reduce p y) → IsStuck (reduce p z)
  not_stuck x y z a b k h = subst (λ y. IsStuck (reduce p y)) (one_last p x y z a b (stuck_is_last y h) k) h

  pub ending_not_stuck : (x y : Config R) (a : Answer R) → IsEnding a → EndsAs p x a → Reaches p x y → IsStuck (reduce p y) → ⊥
  ending_not_stuck x y (Next f [] l w) i e r h = absurd i
  ending_not_stuck x y (Next f (v ∷ []) l w) i e r h =
      i32_result v i.0 (not_stuck x y (conf f l w (Put v Nil)) r e (λ z q. ends_not_to q) h)
  ending_not_stuck x y (Next f (u ∷ v ∷ s) l w) i e r h = absurd i
  ending_not_stuck x y (Branch k f s l w) i e r h = absurd i
  ending_not_stuck x y (Returns f s l w) i e r h = absurd i
  ending_not_stuck x y (meant.Trapped why f w) i e r h =
      not_stuck x y (conf f e.0 w (Traps why Nil)) r e.1 (λ z q. trapped_not_to q) h
  ending_not_stuck x y (meant.Spent w) i e r h =
      subst IsStuck e.4 (not_stuck x y (conf e.0 e.1 w e.2) r e.3 (λ z q. spent_not_to (sym e.4 ∙ q)) h)
  ending_not_stuck x y meant.Stuck i e r h = absurd i

module _ {R : Type 0} (m : Module) (host : Answering R) (records : R) (fuel : ℕ) where
  pub goes_on : (x y : Config R) → IsValid m → IsStart m records fuel x → Reaches (program_of m host) x y → IsStuck (reduce (program_of m host) y) → ⊥
  goes_on x y v st r h =
      let s = start_ends m host records fuel v in
      let p = program_of m host in
      ending_not_stuck p s.0 y (invocation m host records fuel) (invocation_ends m host records fuel v) s.2
      (subst (λ x. Reaches p x y) (same_start m host records fuel x s.0 st s.1) r) h
