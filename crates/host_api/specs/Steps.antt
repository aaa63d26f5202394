-- A call of the host, by its named arguments and from one recording to the next.
use Rattle.std.specs.Prelude.{◌≡◌, ℕ, List, [], ◌∷◌}
use Rattle.wasm_ast.specs.declared.host_call.HostCall.{HostCall}
use Rattle.wasm_ast.specs.declared.host_call.HostAnswer.{HostAnswer}
use Rattle.ledger_model.specs.Views.{Versioned, values_of}
use Rattle.host_api.specs.HostStep.{host_step}
use Rattle.host_api.specs.Recording.{Recording}
use Rattle.host_api.specs.declared.memory.Span.{Span}

-- the two words that a call has for a span
abbrev pub words_of : Span → List ℕ
words_of span = span.pointer ∷ span.len ∷ []

-- The host's step on the view that a recording was opened with: it leads from old to new, leaves this memory and answers so.
abbrev pub Steps : {V : Type 0} → (V → Versioned) → (old new : Recording V) → HostCall → (args : List ℕ) → (before after : List ℕ) → HostAnswer → Type 0
Steps state old new which args before after answer =
    host_step (values_of (state old.opened.view)) old.opened.given which args before old.records ≡
    record { answer = answer; memory = after; records = new.records }
