-- Calls, by the parts of the stepper.
use Rattle.std.specs.Prelude.{◌≡◌, ℕ, List, Option, Some, None}
use Rattle.wasm_ast.specs.declared.types.FuncType.{FuncType}
use Rattle.wasm_ast.specs.declared.module.Func.{Func}
use Rattle.wasm_ast.specs.declared.host_call.HostCall.{HostCall}
use Rattle.wasm_meaning.specs.Values.{Val, World, Answering, Function}
use Rattle.wasm_meaning.specs.Meaning.{host_cost}
use Rattle.wasm_trace.specs.Reduction.{Seq, Step, Stuck, paid, with_words, after_host}

-- a function of this type
abbrev pub own : FuncType → Func → Function
own t f = record { type = t; locals = f.locals; body = f.body }

-- what values are as words of 32 bits
abbrev pub AreWords : (R : Type 0) → List Val → Option (List ℕ) → Type 0
AreWords R vs (Some ns) = (go : List ℕ → Step R) → with_words vs go ≡ go ns
AreWords R vs None = (go : List ℕ → Step R) → with_words vs go ≡ Stuck

-- a call of the host with these arguments, on the values below them
abbrev pub ask_step : {R : Type 0} → Answering R → HostCall → List ℕ → ℕ → List Val → World R → List Val → Seq → Step R
ask_step answers which ns f l w s i =
    paid (host_cost which ns) f (λ f. after_host (answers which ns w.memory w.records) w.globals f l s i)
