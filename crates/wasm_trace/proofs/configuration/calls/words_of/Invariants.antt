use Rattle.std.proofs.Common.{◌≡◌, ◌++◌, ℕ, List, length, drop}
use Rattle.wasm_trace.specs.Reduction.{Step, with_words}
use Rattle.wasm_trace.specs.View.{vals}
use Rattle.wasm_trace.proofs.configuration.calls.words_of.Given as goal

abbrev pub invariant-loop-value : goal.invariant-loop-value
invariant-loop-value g l =
    ((go : List ℕ → Step g.H.Host.Records) → with_words (vals l.values) go ≡ with_words (vals (drop l.value-index l.values)) (λ ns. go (l.words.items ++ ns))) ×
    (length l.words.items ≡ l.value-index)
