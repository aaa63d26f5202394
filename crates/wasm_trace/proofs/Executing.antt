-- One reduction of the whole, by what the parts of the stepper do.
use Rattle.std.proofs.Common.{◌≡◌, ◌≢◌, ℕ, zero, suc, ◌-◌, Option, Some, None, List, [], ◌∷◌, length, take, drop, refl, sym, ap, ◌∙◌, subst, arith}
use Rattle.std.proofs.lemmas.List.{take-append-drop}
use Rattle.wasm_ast.specs.declared.body.Instr.{Instr}
use Rattle.wasm_ast.specs.declared.body.Instr.TheVariants as instr
use Rattle.wasm_ast.specs.declared.host_call.HostCall.{HostCall}
use Rattle.wasm_ast.specs.Code.{Code}
use Rattle.wasm_ast.specs.View.{then_code, code_of}
use Rattle.wasm_typing.specs.HostCalls.{arity}
use Rattle.wasm_meaning.specs.Values.{Val, World, Program, top_of}
use Rattle.wasm_trace.specs.declared.parts.Value.{Value}
use Rattle.wasm_trace.specs.declared.parts.Front.{Front}
use Rattle.wasm_trace.specs.declared.parts.Front.TheVariants as front
use Rattle.wasm_trace.specs.declared.parts.Act.{Act}
use Rattle.wasm_trace.specs.declared.parts.Act.TheVariants as act
use Rattle.wasm_trace.specs.declared.parts.Turn.TheVariants as turn
use Rattle.wasm_trace.specs.declared.parts.Flow.{Flow}
use Rattle.wasm_trace.specs.declared.parts.Flow.TheVariants as flow
use Rattle.wasm_trace.specs.declared.configuration.Configuration.{Configuration}
use Rattle.wasm_trace.specs.Standing.{with_records}
use Rattle.wasm_trace.specs.Reduction.{Seq, Nil, Label, Frame, plain, values, Config, conf, paid, Step, To, Ends, Breaks, Leaves, Spent, Stuck, with_found}
use Rattle.wasm_trace.specs.Reduction.{with_words, host_step, reduce, step}
use Rattle.wasm_trace.specs.Context.{Layer, InLabel, InFrame, frames, plug}
use Rattle.wasm_trace.specs.Calls.{AreWords, ask_step}
use Rattle.wasm_trace.specs.View.{vals, stack_of, plain_of, before, layers, world, config, out_of, outward, Is, act_step, paid_step, Jumps, IsGoing, NoEnd}
use Rattle.wasm_trace.specs.View.{Spends, Rests}
use Rattle.wasm_trace.proofs.Sim.{step_start}
use Rattle.wasm_trace.proofs.Stepping.{reduce_plug, out_same, out_spent, out_stuck, paid_none, paid_now}
use Rattle.wasm_trace.proofs.Calling.{with_args}

pub no_code : {A : Type 0} (is : List A) → length is ≡ 0 → is ≡ []
no_code [] e = refl
no_code (x ∷ is) e = absurd (omega (arith, e))

module _ {R : Type 0} where
  found_same : (ks : List Layer) (f f' : ℕ) (l : List Val) (w : World R) (o : Option (List Val)) (go : List Val → Config R) →
      out_of ks f l w (with_found o (λ r. To (go r))) ≡ out_of ks f' l w (with_found o (λ r. To (go r)))
  found_same ks f f' l w None go = out_stuck ks f l w ∙ sym (out_stuck ks f' l w)
  found_same ks f f' l w (Some r) go = out_same ks f f' l l w w (go r)

  -- a branch and a return carry their fuel
  out_breaks : (ks : List Layer) (f f' : ℕ) (l : List Val) (w : World R) (k g : ℕ) (s : List Val) →
      out_of ks f l w (Breaks k g s) ≡ out_of ks f' l w (Breaks k g s)
  out_breaks [] f f' l w k g s = refl
  out_breaks (InLabel t c b i ∷ ks) f f' l w zero g s =
      found_same ks f f' l w (top_of t s) (λ r. conf g l w (values b (values r (plain c i))))
  out_breaks (InLabel t c b i ∷ ks) f f' l w (suc k) g s = out_breaks ks f f' l w k g s
  out_breaks (InFrame t l' b i ∷ ks) f f' l w k g s = out_stuck ks f l' w ∙ sym (out_stuck ks f' l' w)

  out_leaves : (ks : List Layer) (f f' : ℕ) (l : List Val) (w : World R) (g : ℕ) (s : List Val) → out_of ks f l w (Leaves g s) ≡ out_of ks f' l w (Leaves g s)
  out_leaves [] f f' l w g s = refl
  out_leaves (InLabel t c b i ∷ ks) f f' l w g s = out_leaves ks f f' l w g s
  out_leaves (InFrame t l' b i ∷ ks) f f' l w g s =
      found_same ks f f' l' w (top_of t s) (λ r. conf g l' w (values b (values r i)))

  -- what an instruction does leaves nothing of the configuration before it but what a jump keeps
  pub acted : (ks : List Layer) (f : ℕ) (m m' : Configuration) (r r' : R) (a : Act) (s : List Val) (i : Seq) → Jumps m m' r r' a →
      out_of ks f (vals m.locals.items) (world m r) (act_step a m'.fuel (vals m'.locals.items) (world m' r') s i) ≡
      out_of ks m'.fuel (vals m'.locals.items) (world m' r') (act_step a m'.fuel (vals m'.locals.items) (world m' r') s i)
  acted ks f m m' r r' (act.Become (turn.On x)) s i h = out_same ks f m'.fuel _ _ _ _ _
  acted ks f m m' r r' (act.Become turn.Spent) s i h =
      out_spent ks f (vals m.locals.items) (world m r) ∙ sym (out_spent ks m'.fuel (vals m'.locals.items) (world m' r'))
  acted ks f m m' r r' (act.Become turn.Stuck) s i h =
      out_stuck ks f (vals m.locals.items) (world m r) ∙ sym (out_stuck ks m'.fuel (vals m'.locals.items) (world m' r'))
  acted ks f m m' r r' (act.Enter t b) s i h = out_same ks f m'.fuel _ _ _ _ _
  acted ks f m m' r r' (act.Repeat b) s i h = out_same ks f m'.fuel _ _ _ _ _
  acted ks f m m' r r' (act.Branch k) s i h =
      out_breaks ks f m'.fuel (vals m.locals.items) (world m r) k m'.fuel s ∙
      ap (λ c. out_of ks m'.fuel (vals c.locals.items) (world c r) (Breaks k m'.fuel s)) (sym h.0) ∙
      ap (λ r. out_of ks m'.fuel (vals m'.locals.items) (world m' r) (Breaks k m'.fuel s)) (sym h.1)
  acted ks f m m' r r' act.Return s i h =
      out_leaves ks f m'.fuel (vals m.locals.items) (world m r) m'.fuel s ∙
      ap (λ c. out_of ks m'.fuel (vals c.locals.items) (world c r) (Leaves m'.fuel s)) (sym h.0) ∙
      ap (λ r. out_of ks m'.fuel (vals m'.locals.items) (world m' r) (Leaves m'.fuel s)) (sym h.1)

  pub is_from : (a b : Step R) (way : Flow) (y : Config R) → a ≡ b → Is b way y → Is a way y
  is_from a b way y e h = subst (λ s. Is s way y) (sym e) h

module _ {R : Type 0} (p : Program R) where
  -- a plain instruction pays 1 first
  step_pays : (d f : ℕ) (l : List Val) (w : World R) (s : List Val) (x : Instr) (c : Code) →
      step p d f l w s (plain (then_code x c) Nil) ≡ paid 1 f (λ f. paid_step p f l w s (plain (then_code x c) Nil))
  step_pays d f l w s instr.Unreachable c = refl
  step_pays d f l w s instr.Nop c = refl
  step_pays d f l w s (instr.Block b) c = refl
  step_pays d f l w s (instr.Loop b) c = refl
  step_pays d f l w s (instr.If b) c = refl
  step_pays d f l w s (instr.Br n) c = refl
  step_pays d f l w s (instr.BrIf n) c = refl
  step_pays d f l w s (instr.BrTable t) c = refl
  step_pays d f l w s instr.Return c = refl
  step_pays d f l w s (instr.Call n) c = refl
  step_pays d f l w s (instr.CallIndirect n) c = refl
  step_pays d f l w s instr.Drop c = refl
  step_pays d f l w s instr.Select c = refl
  step_pays d f l w s (instr.LocalGet n) c = refl
  step_pays d f l w s (instr.LocalSet n) c = refl
  step_pays d f l w s (instr.LocalTee n) c = refl
  step_pays d f l w s (instr.GlobalGet n) c = refl
  step_pays d f l w s (instr.GlobalSet n) c = refl
  step_pays d f l w s (instr.Load o a) c = refl
  step_pays d f l w s (instr.Store o a) c = refl
  step_pays d f l w s instr.MemorySize c = refl
  step_pays d f l w s instr.MemoryGrow c = refl
  step_pays d f l w s (instr.I32Const n) c = refl
  step_pays d f l w s (instr.I64Const n) c = refl
  step_pays d f l w s instr.I32Eqz c = refl
  step_pays d f l w s instr.I64Eqz c = refl
  step_pays d f l w s (instr.I32Compare o) c = refl
  step_pays d f l w s (instr.I64Compare o) c = refl
  step_pays d f l w s (instr.I32Unary o) c = refl
  step_pays d f l w s (instr.I64Unary o) c = refl
  step_pays d f l w s (instr.I32Binary o) c = refl
  step_pays d f l w s (instr.I64Binary o) c = refl
  step_pays d f l w s (instr.Convert o) c = refl

  -- the next reduction, by what stands before the instructions that are left
  pub reduce_front : (m : Configuration) (r : R) (fr : Front) → m.front ≡ fr →
      reduce p (config m r) ≡
      outward m r (step p (frames (layers m.levels.items)) m.fuel (vals m.locals.items) (world m r) (stack_of m.stack.items) (before fr (plain_of m.code.now)))
  reduce_front m r fr e =
      reduce_plug p (layers m.levels.items) _ ∙
      ap (outward m r) (step_start p (frames (layers m.levels.items)) m.fuel (vals m.locals.items) (world m r) (stack_of m.stack.items)
      (before m.front (plain_of m.code.now)) ∙
      ap (λ fr. step p (frames (layers m.levels.items)) m.fuel (vals m.locals.items) (world m r) (stack_of m.stack.items) (before fr (plain_of m.code.now)))
      e)

  pub reduce_end : (m : Configuration) (r : R) → m.front ≡ front.Nothing → m.code.now ≡ [] → reduce p (config m r) ≡ outward m r (Ends (stack_of m.stack.items))
  reduce_end m r e q =
      reduce_front m r front.Nothing e ∙
      ap (λ is. outward m r (step p (frames (layers m.levels.items)) m.fuel (vals m.locals.items) (world m r) (stack_of m.stack.items) (plain_of is))) q

  pub reduce_next : (m : Configuration) (r : R) (x : Instr) (rest : List Instr) → m.front ≡ front.Nothing → m.code.now ≡ x ∷ rest →
      reduce p (config m r) ≡
      outward m r (paid 1 m.fuel (λ f. paid_step p f (vals m.locals.items) (world m r) (stack_of m.stack.items) (plain (then_code x (code_of rest)) Nil)))
  reduce_next m r x rest e q =
      reduce_front m r front.Nothing e ∙
      ap (λ is. outward m r (step p (frames (layers m.levels.items)) m.fuel (vals m.locals.items) (world m r) (stack_of m.stack.items) (plain_of is))) q ∙
      ap (outward m r) (step_pays (frames (layers m.levels.items)) m.fuel (vals m.locals.items) (world m r) (stack_of m.stack.items) x (code_of rest))

  -- an instruction of a known form
  pub by : (x y : Instr) (f : ℕ) (l : List Val) (w : World R) (s : List Val) (c : Code) (r : Step R) → x ≡ y →
      paid_step p f l w s (plain (then_code y c) Nil) ≡ r → paid_step p f l w s (plain (then_code x c) Nil) ≡ r
  by x y f l w s c r e h = ap (λ x. paid_step p f l w s (plain (then_code x c) Nil)) e ∙ h

  -- a call of the host, whose arguments are these words, or are none
  pub host_asks : (which : HostCall) (f : ℕ) (l : List Val) (w : World R) (vs : List Value) (lower : ℕ) (ns : List ℕ) (i : Seq) →
      length (drop lower vs) ≡ arity which → AreWords R (vals (drop lower vs)) (Some ns) →
      host_step p which f l w (stack_of vs) i ≡ ask_step p.host which ns f l w (stack_of (take lower vs)) i
  host_asks which f l w vs lower ns i e h =
      with_args (arity which) vs (take lower vs) (drop lower vs) (λ args s. with_words args (λ ns. ask_step p.host which ns f l w s i))
      (sym (take-append-drop lower vs)) e ∙ h (λ ns. ask_step p.host which ns f l w (stack_of (take lower vs)) i)

  pub host_wants : (which : HostCall) (f : ℕ) (l : List Val) (w : World R) (vs : List Value) (lower : ℕ) (i : Seq) → length (drop lower vs) ≡ arity which →
      AreWords R (vals (drop lower vs)) None → host_step p which f l w (stack_of vs) i ≡ Stuck
  host_wants which f l w vs lower i e h =
      with_args (arity which) vs (take lower vs) (drop lower vs) (λ args s. with_words args (λ ns. ask_step p.host which ns f l w s i))
      (sym (take-append-drop lower vs)) e ∙ h (λ ns. ask_step p.host which ns f l w (stack_of (take lower vs)) i)

  -- an instruction whose cost is not there
  pub next_spent : (m : Configuration) (r : R) (x : Instr) (rest : List Instr) → m.front ≡ front.Nothing → m.code.now ≡ x ∷ rest → m.fuel ≡ 0 →
      reduce p (config m r) ≡ Spent
  next_spent m r x rest e q z =
      reduce_next m r x rest e q ∙
      paid_none (layers m.levels.items) m.fuel (vals m.locals.items) (world m r)
      (λ f. paid_step p f (vals m.locals.items) (world m r) (stack_of m.stack.items) (plain (then_code x (code_of rest)) Nil)) z

  -- an instruction that was paid, from m to m', and what it did there
  pub next_acts : (m m1 m' : Configuration) (r r' : R) (x : Instr) (rest : List Instr) (a : Act) → m.front ≡ front.Nothing → m.code.now ≡ x ∷ rest →
      m.fuel ≢ 0 → m1.fuel ≡ m.fuel - 1 → m1.locals ≡ m.locals → m1.instance ≡ m.instance → m1.globals ≡ m.globals → m1.stack ≡ m.stack → m1.code.now ≡ rest →
      paid_step p m1.fuel (vals m1.locals.items) (world m1 r) (stack_of m1.stack.items) (plain (then_code x (code_of m1.code.now)) Nil) ≡
      act_step a m'.fuel (vals m'.locals.items) (world m' r') (stack_of m'.stack.items) (plain_of m1.code.now) → Jumps m1 m' r r' a →
      m'.levels.items ≡ m.levels.items → m'.code.now ≡ m1.code.now →
      reduce p (config m r) ≡ outward m' r' (act_step a m'.fuel (vals m'.locals.items) (world m' r') (stack_of m'.stack.items) (plain_of m'.code.now))
  next_acts m m1 m' r r' x rest a e q ne ef el ei eg es ec does jumps levels code =
      reduce_next m r x rest e q ∙
      paid_now (layers m.levels.items) m.fuel (vals m.locals.items) (world m r)
      (λ f. paid_step p f (vals m.locals.items) (world m r) (stack_of m.stack.items) (plain (then_code x (code_of rest)) Nil)) ne ∙ same ∙
      ap (out_of (layers m.levels.items) m.fuel (vals m1.locals.items) (world m1 r)) does ∙
      acted (layers m.levels.items) m.fuel m1 m' r r' a (stack_of m'.stack.items) (plain_of m1.code.now) jumps ∙
      ap (λ ls. out_of (layers ls) m'.fuel (vals m'.locals.items) (world m' r')
      (act_step a m'.fuel (vals m'.locals.items) (world m' r') (stack_of m'.stack.items) (plain_of m1.code.now))) (sym levels) ∙
      ap (λ is. outward m' r' (act_step a m'.fuel (vals m'.locals.items) (world m' r') (stack_of m'.stack.items) (plain_of is))) (sym code)
    where
      ks : List Layer
      ks = layers m.levels.items

      same : out_of ks m.fuel (vals m.locals.items) (world m r)
          (paid_step p (m.fuel - 1) (vals m.locals.items) (world m r) (stack_of m.stack.items) (plain (then_code x (code_of rest)) Nil)) ≡
          out_of ks m.fuel (vals m1.locals.items) (world m1 r)
          (paid_step p m1.fuel (vals m1.locals.items) (world m1 r) (stack_of m1.stack.items) (plain (then_code x (code_of m1.code.now)) Nil))
      same = cc

-- ---- what an end leaves as it was

module _ {R : Type 0} where
  pub rests_by : (c c' : Configuration) (r : R) (way : Flow) → NoEnd way → Rests c c' r r way
  rests_by c c' r flow.Continue h = tt
  rests_by c c' r (flow.Returned n) h = absurd h
  rests_by c c' r (flow.Trapped why) h = absurd h
  rests_by c c' r flow.Spent h = refl
  rests_by c c' r flow.Stuck h = tt

  pub rests_going : (c c' : Configuration) (r : R) (way : Flow) → IsGoing way → Rests c c' r r way
  rests_going c c' r flow.Continue h = tt
  rests_going c c' r (flow.Returned n) h = absurd h
  rests_going c c' r (flow.Trapped why) h = absurd h
  rests_going c c' r flow.Spent h = absurd h
  rests_going c c' r flow.Stuck h = tt

  pub rests_fuel : (c c' : Configuration) (r : R) (way : Flow) → c'.fuel ≡ c.fuel → Rests c c' r r way
  rests_fuel c c' r flow.Continue h = tt
  rests_fuel c c' r (flow.Returned n) h = (h, refl)
  rests_fuel c c' r (flow.Trapped why) h = (h, refl)
  rests_fuel c c' r flow.Spent h = refl
  rests_fuel c c' r flow.Stuck h = tt

  pub rests_spent : (c c' : Configuration) (r r' : R) (a : Act) (way : Flow) → Spends a way → (a ≡ act.Become turn.Spent → r' ≡ r) → Rests c c' r r' way
  rests_spent c c' r r' a flow.Continue h k = tt
  rests_spent c c' r r' a (flow.Returned n) h k = absurd h
  rests_spent c c' r r' a (flow.Trapped why) h k = absurd h
  rests_spent c c' r r' a flow.Spent h k = k h
  rests_spent c c' r r' a flow.Stuck h k = tt

  -- the configuration, by that without the records
  pub at_is : (ks : List Layer) (f : ℕ) (l : List Val) (m : List ℕ) (g : List Val) (r : R) (i : Seq) →
      with_records (plug ks (conf f l (record { memory = m; globals = g; records = tt {0} }) i)) r ≡
      plug ks (conf f l (record { memory = m; globals = g; records = r }) i)
  at_is [] f l m g r i = refl
  at_is (InLabel t c s j ∷ ks) f l m g r i = at_is ks f l m g r (values s (Label t c i j))
  at_is (InFrame t l' s j ∷ ks) f l m g r i = at_is ks f l' m g r (values s (Frame t l i j))
