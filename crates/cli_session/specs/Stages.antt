-- What a run has between two lines of its events, and a step of it.
use Rattle.std.specs.Prelude.{◌≡◌, ℕ, List, [], ◌∷◌, Option, Some, if◌then◌else◌}
use Rattle.std.specs.Str.{bytes_eq}
use Rattle.json_events.specs.Bound.{bound_as}
use Rattle.json_events.specs.declared.bindings.Bindings.{Bindings}
use Rattle.fabric_core.specs.declared.event.Event.{Event}
use Rattle.fabric_core.specs.declared.event.Reply.{Reply}
use Rattle.fabric_core.specs.declared.event.Reply.TheVariants as reply
use Rattle.ledger_model.specs.Chain.{Chain}
use Rattle.simulator.specs.Execution.{exec_of}
use Rattle.fabric_core.specs.System.{chain_of}
use Rattle.fabric_core.specs.Inside.{State, TakesStep, KeepsRules, rules_of}
use Rattle.cli_lines.specs.Told.{Told, Prints}

-- the system, and what the names of the run stand for
pub record Stage : Type 0 where
  pub system : State
  pub names : Bindings

abbrev pub stage_at : State → Bindings → Stage
stage_at system names = record { system = system; names = names }

-- the chain of the first peer
abbrev pub first_chain : State → Option Chain
first_chain s = chain_of (rules_of (exec_of s.book) s.rules s.seeds s.capacity) s.world 0

-- a step, and what the system replies to it
abbrev pub StepsTo : State → Event → Reply → State → Type 0
StepsTo old event r new = TakesStep old new event r × KeepsRules old new

-- each name stands for what it did
abbrev pub Stay : Reply → Bindings → Bindings → Type 0
Stay r old new = new ≡ old

-- what is endorsed gets the name, and each other name stands for what it did
abbrev pub Gets : List ℕ → Reply → Bindings → Bindings → Type 0
Gets name (reply.Endorsed payload endorsement) old new =
    (other : List ℕ) → bound_as new other ≡ (if bytes_eq other name then Some (record { payload = payload; endorsement = endorsement }) else bound_as old other)
Gets name r old new = new ≡ old

-- One step: its event, what it leaves of the names, and what is printed of the reply
pub record IsStepOf (event : Event) (said : Reply → List ℕ) (named : Reply → Bindings → Bindings → Type 0) (old : Stage) (told : List (Event × Reply))
    (text : List ℕ) (new : Stage) : Type 0 where
  pub answer : Reply
  pub step : StepsTo old.system event answer new.system
  pub names : named answer old.names new.names
  pub is : told ≡ (event, answer) ∷ []
  pub prints : text ≡ said answer

-- the steps with their replies, and the text of them that is printed
abbrev pub DoesPrint : (Stage → List (Event × Reply) → List ℕ → Stage → Type 0) → (old new : Stage) → (before after : Told) → Type 0
DoesPrint Does old new before after =
    (told : List (Event × Reply)) × (text : List ℕ) × Does old told text new × Prints before after text
