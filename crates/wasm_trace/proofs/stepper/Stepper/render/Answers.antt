use Rattle.std.proofs.Common.{◌++◌, Some, sym, ap, ◌∙◌}
use Rattle.std.specs.Prelude.{option_map, codes}
use Rattle.std.specs.Fmt.{decimal}
use Rattle.wasm_trace.proofs.stepper.Stepper.render.Goals as goal

pub returns-in_ok-format-in-Some : goal.returns-in_ok-format-in-Some
returns-in_ok-format-in-Some c =
    ap Some c.in_ok-format-in-Some.ensures.ok
    ∙ sym (ap (λ o. option_map (λ name. name ++ (codes " fuel=" ++ decimal c.args.self.now.configuration.fuel))
    (option_map (λ m. m.prefix.now ++ m.rest.now) o)) c.in-Some.is)
