-- What a step of the whole tells, by its reduction.
use Rattle.std.proofs.Common.{◌≡◌, ℕ, ◌-◌, ◌≤◌, false, List, [], ◌∷◌, Option, Some, None, refl, sym, ◌∙◌, subst, arith, inl, inr}
use Rattle.std.specs.Prelude.{is_some}
use Rattle.wasm_meaning.specs.Values.{Program}
use Rattle.interp.specs.declared.outcome.Outcome.{Outcome}
use Rattle.wasm_trace.specs.declared.parts.Flow.{Flow}
use Rattle.wasm_trace.specs.declared.parts.Flow.TheVariants as flow
use Rattle.wasm_trace.specs.declared.configuration.Configuration.{Configuration}
use Rattle.wasm_trace.specs.Reduction.{Config}
use Rattle.wasm_trace.specs.Context.{Layer, InLabel, InFrame, wrap, plug}
use Rattle.wasm_trace.specs.View.{vals, stack_of, plain_of, before, layers, config, Reduced, Rests, outcome_of}
use Rattle.wasm_trace.specs.Standing.{with_records, Goes, StepsOn}
use Rattle.wasm_trace.proofs.Executing.{at_is}
use Rattle.wasm_trace.specs.Reduction.{values}

module _ {R : Type 0} where
  pub config_is : (c : Configuration) (r : R) → with_records (config c (tt {0})) r ≡ config c r
  config_is c r =
      at_is (layers c.levels.items) c.fuel (vals c.locals.items) c.instance.memory (vals c.globals.items) r
      (values (stack_of c.stack.items) (before c.front (plain_of c.code.now)))

  fuel_in : (ks : List Layer) (x : Config R) → (plug ks x).fuel ≡ x.fuel
  fuel_in [] x = refl
  fuel_in (InLabel t c s i ∷ ks) x = fuel_in ks (wrap (InLabel t c s i) x)
  fuel_in (InFrame t l s i ∷ ks) x = fuel_in ks (wrap (InFrame t l s i) x)

  records_in : (ks : List Layer) (x : Config R) → (plug ks x).world.records ≡ x.world.records
  records_in [] x = refl
  records_in (InLabel t c s i ∷ ks) x = records_in ks (wrap (InLabel t c s i) x)
  records_in (InFrame t l s i ∷ ks) x = records_in ks (wrap (InFrame t l s i) x)

  pub fuel_of : (c : Configuration) (r : R) → (config c r).fuel ≡ c.fuel
  fuel_of c r = fuel_in (layers c.levels.items) _

  records_of : (c : Configuration) (r : R) → (config c r).world.records ≡ r
  records_of c r = records_in (layers c.levels.items) _

module _ {R : Type 0} (p : Program R) where
  -- in the words of the configurations with their records
  goes : (c c' : Configuration) (r r' : R) (given : ℕ) (way : Flow) → Reduced p c c' r r' way → Rests c c' r r' way → c.fuel ≤ given →
      Goes p given (config c r) (config c' r') (outcome_of way (given - c'.fuel))
  goes c c' r r' given flow.Continue h k le = inl h
  goes c c' r r' given (flow.Returned n) h k le = (h, omega (arith, fuel_of c r, k.0, le), records_of c' r' ∙ k.1 ∙ sym (records_of c r))
  goes c c' r r' given (flow.Trapped why) h k le = (h, omega (arith, fuel_of c r, k.0, le), records_of c' r' ∙ k.1 ∙ sym (records_of c r))
  goes c c' r r' given flow.Spent h k le = (h, records_of c' r' ∙ k ∙ sym (records_of c r))
  goes c c' r r' given flow.Stuck h k le = inr h

  pub steps_on : (ended : Option Outcome) (c c' : Configuration) (r r' : R) (given : ℕ) (way : Flow) → ended ≡ None → Reduced p c c' r r' way →
      Rests c c' r r' way → c.fuel ≤ given →
      StepsOn p ended given (with_records (config c (tt {0})) r) (with_records (config c' (tt {0})) r') (outcome_of way (given - c'.fuel))
  steps_on ended c c' r r' given way e h k le =
      subst (λ o. StepsOn p o given (with_records (config c (tt {0})) r) (with_records (config c' (tt {0})) r') (outcome_of way (given - c'.fuel))) (sym e)
      (subst (λ x. Goes p given x (with_records (config c' (tt {0})) r') (outcome_of way (given - c'.fuel))) (sym (config_is c r))
      (subst (λ y. Goes p given (config c r) y (outcome_of way (given - c'.fuel))) (sym (config_is c' r')) (goes c c' r r' given way h k le)))

pub none_of : {A : Type 0} (o : Option A) → is_some o ≡ false → o ≡ None
none_of None e = refl
none_of (Some x) e = cc
