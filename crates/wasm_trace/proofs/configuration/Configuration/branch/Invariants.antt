use Rattle.std.proofs.Common.{◌≡◌, ℕ, ◌-◌, List}
use Rattle.wasm_meaning.specs.Values.{Val, World}
use Rattle.wasm_trace.specs.Reduction.{Breaks}
use Rattle.wasm_trace.specs.View.{layers, out_of}
use Rattle.wasm_trace.proofs.configuration.Configuration.branch.Given as goal

abbrev pub invariant-loop-i : goal.invariant-loop-i
invariant-loop-i g l =
    (l.self ≡ record l.initial.self { levels = l.self.levels })
    × ((f : ℕ) (s loc : List Val) (w : World g.H.Host.Records) →
    out_of (layers l.initial.self.levels.items) f loc w (Breaks l.k f s) ≡ out_of (layers l.self.levels.items) f loc w (Breaks (l.k - l._i) f s))
