use Rattle.std.proofs.Common.{◌≡◌, ◌-◌, min, take, ap, ◌∙◌}
use Rattle.wasm_instance.specs.Accesses.{load_at}
use Rattle.wasm_instance.proofs.Reach.{load_copied}
use Rattle.wasm_instance.proofs.memory.load_behind.Goals as goal

pub returns : goal.returns
returns c =
    let count : c.min-count.result ≡ min (c.args.size - c.args.place) 8 = c.min-count.ensures ∙ ap (λ n. min n 8) c.saturating_sub.ensures in
    c.load_word.ensures
    ∙ ap (λ n. load_at c.args.op (take n c.eight_from-bytes.result) 0) count
    ∙ ap (λ bs. load_at c.args.op (take (min (c.args.size - c.args.place) 8) bs) 0) c.eight_from-bytes.ensures
    ∙ load_copied c.args.op c.args.size c.args.place c.args.front.now c.requires.0 c.requires.1
