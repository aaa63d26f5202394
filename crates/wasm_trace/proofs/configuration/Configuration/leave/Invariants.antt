use Rattle.std.proofs.Common.{◌≡◌, ℕ, List, vec_len}
use Rattle.wasm_meaning.specs.Values.{Val, World}
use Rattle.wasm_trace.specs.Reduction.{Leaves}
use Rattle.wasm_trace.specs.View.{layers, out_of}
use Rattle.wasm_trace.proofs.configuration.Configuration.leave.Given as goal

abbrev pub invariant-loop-level : goal.invariant-loop-level
invariant-loop-level g l =
    (l.self ≡ record l.initial.self { levels = l.self.levels })
    × ((f : ℕ) (s loc : List Val) (w : World g.H.Host.Records) →
    out_of (layers l.initial.self.levels.items) f loc w (Leaves f s) ≡ out_of (layers l.self.levels.items) f loc w (Leaves f s))

abbrev pub decreases-loop-level : goal.decreases-loop-level
decreases-loop-level g l = vec_len l.self.levels
