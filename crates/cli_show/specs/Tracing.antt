-- What `trace` prints of a call: its reduction (WebAssembly Core 1.0, chapter 4).
use Rattle.std.specs.Prelude.{◌≡◌, ◌<◌, ◌≤◌, ◌+◌, ◌++◌, ℕ, List, [], ◌∷◌, Option, Some, None, Result, Ok, Err, option_map, codes, take}
use Rattle.std.specs.FinMap.{empty}
use Rattle.std.specs.Fmt.{decimal, signed_decimal}
use Rattle.std.specs.Int.{w32, cast_signed}
use Rattle.std.specs.List.{filter_map}
use Rattle.fab_types.specs.declared.proposal.Call.{Call}
use Rattle.wasm_ast.specs.Traps.{trap_number}
use Rattle.wasm_ast.specs.declared.module.Module.{Module}
use Rattle.wasm_meaning.specs.Values.{Answering, Program}
use Rattle.wasm_meaning.specs.Program.{program_of}
use Rattle.interp.specs.declared.outcome.Outcome.{Outcome}
use Rattle.interp.specs.declared.outcome.Outcome.TheVariants.{Returned, Trapped, Spent}
use Rattle.wasm_trace.specs.Reduction.{Config, To, reduce}
use Rattle.wasm_trace.specs.Names.{Named}
use Rattle.wasm_trace.specs.Ending.{IsStart, IsEnd}
use Rattle.host_api.specs.Given.{Given}
use Rattle.host_api.specs.Recorded.{nothing_recorded}
use Rattle.host_api.specs.HostStep.{host_step}
use Rattle.chaincode_book.specs.Books.{chaincode_at}
use Rattle.chaincode_book.specs.declared.book.Chaincode.{Chaincode}
use Rattle.ledger_model.specs.Chain.{Bytes}
use Rattle.ledger_setting.specs.declared.genesis.Genesis.{Genesis}
use Rattle.simulator.specs.Execution.{given_by}
use Rattle.simulator.specs.declared.refusal.SimRefusal.TheVariants.{UnknownChaincode}
use Rattle.cli_lines.specs.declared.failure.Failure.{Failure}
use Rattle.cli_lines.specs.declared.failure.Failure.TheVariants.{Simulation}

-- one reduction: the configuration that it leads to, and the name of what it executed, where that cost fuel
pub record Reduction (R : Type 0) : Type 0 where
  pub to : Config R
  pub name : Option Bytes

-- of a name, with the fuel that is left
abbrev pub named_text : Option Bytes → (left : ℕ) → Option Bytes
named_text name left = option_map (λ n. n ++ (codes " fuel=" ++ decimal left)) name

module _ {R : Type 0} where
  abbrev pub step_text : Reduction R → Option Bytes
  step_text s = named_text s.name s.to.fuel

  -- the texts of those that cost fuel, in order
  abbrev pub step_texts : List (Reduction R) → List Bytes
  step_texts steps = filter_map step_text steps

  -- these reductions lead from one configuration to another, each with the name of what it executed exactly where it cost fuel
  abbrev pub Reduces : Program R → Config R → List (Reduction R) → Config R → Type 0
  Reduces p x [] y = y ≡ x
  Reduces p x (s ∷ steps) y = (reduce p x ≡ To s.to) × Named x.seq x.fuel s.to.fuel s.name × Reduces p s.to steps y

abbrev pub step_line : (number : ℕ) → Bytes → Bytes
step_line number text = decimal number ++ (codes " " ++ (text ++ codes "\n"))

-- a line for each of these texts, numbered from this number on
abbrev pub numbered : ℕ → List Bytes → Bytes
numbered number [] = []
numbered number (text ∷ texts) = step_line number text ++ numbered (number + 1) texts

-- the first so many of these texts
abbrev pub steps_text : (most : ℕ) → List Bytes → Bytes
steps_text most texts = numbered 1 (take most texts)

-- a word is written as a signed number (two's complement)
abbrev pub outcome_text : Outcome → Bytes
outcome_text (Returned status used) =
    codes "returned " ++ (signed_decimal (cast_signed w32 status) ++ (codes " used " ++ (decimal used ++ codes "\n")))
outcome_text (Trapped kind used) = codes "trapped " ++ (decimal (trap_number kind) ++ (codes " used " ++ (decimal used ++ codes "\n")))
outcome_text Spent = codes "spent\n"

-- The reductions of an invocation with this fuel, from its start to its end: of those that cost fuel the first are printed, then how the run ends
pub record IsTrace {R : Type 0} (m : Module) (host : Answering R) (records : R) (fuel most : ℕ) (text : Bytes) : Type 0 where
  pub start : Config R
  pub starts : IsStart m records fuel start
  pub steps : List (Reduction R)
  pub end : Config R
  pub reduces : Reduces (program_of m host) start steps end
  pub outcome : Outcome
  pub after : R
  pub ends : IsEnd (program_of m host) end fuel outcome after
  pub is : text ≡ steps_text most (step_texts steps) ++ outcome_text outcome

-- of a chaincode whose call is given this, on the empty state
abbrev pub IsCallTrace : Chaincode → Given → (most : ℕ) → Bytes → Type 0
IsCallTrace c given most text = IsTrace c.«module» (host_step empty given) nothing_recorded c.fuel most text

-- `trace`: of the chaincode of the call's name, which is refused exactly where the book has none
abbrev pub Traces : Genesis → Call → (most : ℕ) → Result (Unit {0}) Failure → Bytes → Type 0
Traces g call most (Ok done) text =
    (c : Chaincode) × (chaincode_at g.book.value.chaincodes call.chaincode ≡ Some c) × IsCallTrace c (given_by g.book.value.edition call) most text
Traces g call most (Err f) text =
    (f ≡ Simulation UnknownChaincode) × (chaincode_at g.book.value.chaincodes call.chaincode ≡ None) × (text ≡ [])

-- the first reductions of such an invocation, of which so many are printed
pub record IsTraceBegun {R : Type 0} (m : Module) (host : Answering R) (records : R) (fuel most : ℕ) (text : Bytes) : Type 0 where
  pub start : Config R
  pub starts : IsStart m records fuel start
  pub steps : List (Reduction R)
  pub last : Config R
  pub reduces : Reduces (program_of m host) start steps last
  pub is : text ≡ steps_text most (step_texts steps)

-- what `trace` begins
abbrev pub TraceBegins : Genesis → Call → (most : ℕ) → Bytes → Type 0
TraceBegins g call most text =
    (c : Chaincode) × (chaincode_at g.book.value.chaincodes call.chaincode ≡ Some c)
    × IsTraceBegun c.«module» (host_step empty (given_by g.book.value.edition call)) nothing_recorded c.fuel most text

-- what is printed of the step that was made last, behind so many lines, and how many there are then
abbrev pub NextStep : Option Bytes → (most printed count : ℕ) → Bytes → Type 0
NextStep None most printed count text = (count ≡ printed) × (text ≡ [])
NextStep (Some t) most printed count text = (printed < most → (count ≡ printed + 1) × (text ≡ step_line count t))
    × (most ≤ printed → (count ≡ printed) × (text ≡ []))
