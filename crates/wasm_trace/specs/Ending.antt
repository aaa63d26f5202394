-- How the reduction of an invocation ends.
use Rattle.std.specs.Prelude.{◌≡◌, ◌≢◌, ℕ, ◌+◌, ◌-◌, List, [], ◌∷◌, Some, map, length, slice_get}
use Rattle.wasm_ast.specs.declared.types.ValueType.TheVariants.{I32, I64}
use Rattle.wasm_ast.specs.declared.module.Module.{Module}
use Rattle.wasm_typing.specs.HostCalls.{host_calls}
use Rattle.wasm_typing.specs.ModuleRules.{invoke_of}
use Rattle.wasm_meaning.specs.Values as meant
use Rattle.wasm_meaning.specs.Values.{Val, value, World, Answer, Next, Branch, Returns, Answering, Function, Program}
use Rattle.wasm_meaning.specs.Program.{function_of, program_of, fresh_world}
use Rattle.interp.specs.declared.outcome.Outcome.{Outcome}
use Rattle.interp.specs.declared.outcome.Outcome.TheVariants as outcome
use Rattle.wasm_trace.specs.Reduction.{Seq, Nil, Invoke, Traps, values, Config, conf, Step, To, Ends, Breaks, Leaves, Trapped, Spent, Stuck, reduce, Reaches}

-- values that are no result of `invoke`
abbrev pub IsNoResult : List Val → Type 0
IsNoResult [] = Unit {0}
IsNoResult (v ∷ []) = v.type ≡ I64
IsNoResult (u ∷ v ∷ s) = Unit {0}

module _ {R : Type 0} where
  -- there is no next reduction, and no end of a run
  abbrev pub IsStuck : Step R → Type 0
  IsStuck (To x) = ⊥
  IsStuck (Ends s) = IsNoResult s
  IsStuck (Breaks k f s) = Unit {0}
  IsStuck (Leaves f s) = Unit {0}
  IsStuck (Trapped why) = ⊥
  IsStuck Spent = ⊥
  IsStuck Stuck = Unit {0}

  -- the configuration that an invocation begins as: `invoke` is called on a fresh instance, without a frame (Core 1.0, section 4.5.5)
  pub record IsStart (m : Module) (records : R) (fuel : ℕ) (x : Config R) : Type 0 where
    pub index : ℕ
    pub function : Function
    pub invokes : invoke_of m ≡ Some index
    pub found : slice_get (map (function_of m.types) m.functions) (index - length (host_calls m.imports)) ≡ Some function
    pub is : x ≡ conf fuel [] (fresh_world m records) (Invoke function Nil)

module _ {R : Type 0} (p : Program R) where
  -- there is no next reduction
  abbrev pub IsLast : Config R → Type 0
  IsLast x = (y : Config R) → reduce p x ≢ To y

  -- some number of reductions from x on ends as this answer of the whole says: at its values, at its trap alone, or where the fuel is less than the next cost
  abbrev pub EndsAs : Config R → Answer R → Type 0
  EndsAs x (Next f s l w) = Reaches p x (conf f l w (values s Nil))
  EndsAs x (Branch k f s l w) = ⊥
  EndsAs x (Returns f s l w) = ⊥
  EndsAs x (meant.Trapped why f w) = (l : List Val) × Reaches p x (conf f l w (Traps why Nil))
  EndsAs x (meant.Spent w) =
      (f : ℕ) × (l : List Val) × (i : Seq) × Reaches p x (conf f l w i) × (reduce p (conf f l w i) ≡ Spent)
  EndsAs x meant.Stuck = ⊥

  -- the configuration is the end of a run: one i32, a trap alone, or too little fuel
  abbrev pub IsEnd : Config R → (given : ℕ) → Outcome → R → Type 0
  IsEnd y given (outcome.Returned status used) records =
      (reduce p y ≡ Ends (value I32 status ∷ [])) × (used + y.fuel ≡ given) × (records ≡ y.world.records)
  IsEnd y given (outcome.Trapped kind used) records =
      (reduce p y ≡ Trapped kind) × (used + y.fuel ≡ given) × (records ≡ y.world.records)
  IsEnd y given outcome.Spent records = (reduce p y ≡ Spent) × (records ≡ y.world.records)

-- the reduction of an invocation, with a host, its records and fuel, ends so, and leaves these records
pub record ReductionEnds {R : Type 0} (m : Module) (host : Answering R) (records : R) (fuel : ℕ) (o : Outcome) (after : R) : Type 0 where
  pub start : Config R
  pub starts : IsStart m records fuel start
  pub end : Config R
  pub reaches : Reaches (program_of m host) start end
  pub ends : IsEnd (program_of m host) end fuel o after
