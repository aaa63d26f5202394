use Rattle.std.proofs.Common.{◌≡◌, drop}
use Rattle.wasm_typing.specs.Algorithm.{each_label}
use Rattle.wasm_typing.proofs.labels.Labels.all_carry.Given as goal

abbrev pub invariant-loop-label : goal.invariant-loop-label
invariant-loop-label l =
    each_label l.self (drop l.label-index l.labels) l.carried ≡ each_label l.self l.labels l.carried
