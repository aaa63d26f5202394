-- A run that is stepped, as contracts see it.
use Rattle.std.specs.Prelude.{◌≡◌, ◌⊎◌, ℕ, List, Option, Some, None, option_map}
use Rattle.wasm_ast.specs.declared.module.Module.{Module}
use Rattle.wasm_meaning.specs.Values.{Program}
use Rattle.interp.specs.declared.outcome.Outcome.{Outcome}
use Rattle.wasm_trace.specs.declared.stepper.Stepper.{Stepper}
use Rattle.wasm_trace.specs.Reduction.{Config, conf, To, reduce}
use Rattle.wasm_trace.specs.Ending.{IsStart, IsEnd, IsStuck}
use Rattle.wasm_trace.specs.Names.{Named, text_of}
use Rattle.wasm_trace.specs.View.{config}

pub record Standing : Type 0 where
  pub valid : Module
  -- the fuel that it was given
  pub given : ℕ
  -- the configuration, but for the host's records
  pub at : Config (Unit {0})
  -- how the run ended, once it has
  pub ended : Option Outcome
  -- the name of what the last step executed, where that cost fuel
  pub shown : Option (List ℕ)

abbrev pub standing : Stepper → Standing
standing s =
    record {
      valid = s.valid.now;
      given = s.given;
      at = config s.configuration (tt {0});
      ended = s.ended;
      shown = option_map text_of s.shown;
    }

-- the configuration with these records of the host
abbrev pub with_records : {R : Type 0} → Config (Unit {0}) → R → Config R
with_records x records =
    conf x.fuel x.locals (record { memory = x.world.memory; globals = x.world.globals; records = records }) x.seq

-- what is shown after a step from x that left this fuel: the name of what it executed, where that cost fuel and did not end the run
abbrev pub IsShownOf : Option Outcome → (x : Config (Unit {0})) → (left : ℕ) → Option (List ℕ) → Type 0
IsShownOf None x left shown = Named x.seq x.fuel left shown
IsShownOf (Some o) x left shown = shown ≡ None

-- before the first reduction
pub record Begins (m : Module) (fuel : ℕ) (s : Standing) : Type 0 where
  pub valid : s.valid ≡ m
  pub given : s.given ≡ fuel
  pub starts : IsStart m (tt {0}) fuel s.at
  pub ended : s.ended ≡ None
  pub shown : s.shown ≡ None

module _ {R : Type 0} (p : Program R) where
  -- one reduction, to the next configuration unless it is stuck, or the end of the run
  abbrev pub Goes : (given : ℕ) → (x y : Config R) → Option Outcome → Type 0
  Goes given x y None = (reduce p x ≡ To y) ⊎ IsStuck (reduce p x)
  Goes given x y (Some o) = IsEnd p x given o y.world.records

  -- one step; a run that has ended stays so
  abbrev pub StepsOn : Option Outcome → (given : ℕ) → (x y : Config R) → Option Outcome → Type 0
  StepsOn None given x y o = Goes given x y o
  StepsOn (Some e) given x y o = (o ≡ Some e) × (y.world.records ≡ x.world.records)

  abbrev pub Stepped : (before : Standing) → R → (after : Standing) → R → Option Outcome → Type 0
  Stepped s records s' records' o =
      StepsOn s.ended s.given (with_records s.at records) (with_records s'.at records') o
