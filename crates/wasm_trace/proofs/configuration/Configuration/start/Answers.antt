use Rattle.std.proofs.Common.{◌-◌, ap, ◌∙◌, length, map}
use Rattle.std.specs.Prelude.{slice_get}
use Rattle.wasm_meaning.specs.Program.{function_of}
use Rattle.wasm_trace.proofs.Calling.{invoke_there}
use Rattle.wasm_trace.proofs.configuration.Configuration.start.Goals as goal

pub unreachable-requires : goal.unreachable-requires
unreachable-requires c =
    let m = c.args.valid.now in
    invoke_there m c.invoke.result c.module-module.ensures.valid c.invoke.ensures
    (c.in-None.ensures ∙ ap (slice_get (map (function_of m.types) m.functions))
    (c.saturating_sub-at.ensures ∙ ap (λ ks. c.invoke.result - length ks) c.host_calls.ensures))
