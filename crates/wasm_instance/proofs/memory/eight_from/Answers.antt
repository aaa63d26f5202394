use Rattle.std.proofs.Common.{◌≡◌, drop, ap, ◌∙◌, arith, length-drop}
use Rattle.std.proofs.lemmas.List.{take_all}
use Rattle.wasm_instance.specs.Front.{padded}
use Rattle.wasm_instance.proofs.Front.{copied}
use Rattle.wasm_instance.proofs.memory.eight_from.Goals as goal

pub returns-in-Some : goal.returns-in-Some
returns-in-Some c =
    let found = c.in-Some.ensures.lookup.0 in
    let rest : c.in-Some.laid.now ≡ drop c.args.place c.args.front.now =
    found.2 ∙ take_all _ (drop c.args.place c.args.front.now) (omega (arith, length-drop c.args.place c.args.front.now)) in
    c.write.ensures ∙ copied c.in-Some.laid.now (omega (arith, found.3, c.requires)) ∙ ap (λ bs. padded 8 bs) rest
