use Rattle.std.proofs.Common.{ℕ, List, ◌+◌, ◌++◌, replicate, ap, ◌∙◌}
use Rattle.std.specs.declared.vec.Vec.{Vec}
use Rattle.std.specs.declared.alloc.Global.{Global}
use Rattle.wasm_instance.specs.Front.{padded}
use Rattle.wasm_instance.proofs.Front.{padded_grown}
use Rattle.wasm_instance.proofs.memory.Memory.grow.Goals as goal

pub returns-clause-grown : goal.returns-clause-grown
returns-clause-grown c =
    let size = c.self.inside.size in
    let same = c.with_room-front.ensures.items ∙ ap (λ (front : Vec ℕ Global). front.items) c.replace-old.ensures.value in
    ap (padded (size + c.args.count)) same ∙ padded_grown size c.args.count c.self.inside.front.items c.self.invariant.0 ∙
    ap (λ (bytes : List ℕ). bytes ++ replicate c.args.count 0) c.self.view_is
