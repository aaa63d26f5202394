use Rattle.std.proofs.Common.{true, false, Some, sym, ap, ◌∙◌}
use Rattle.std.specs.Prelude.{slice_get}
use Rattle.std.proofs.lemmas.Result.{IfOk-weaker}
use Rattle.wasm_instance.specs.Accesses.{function_at}
use Rattle.wasm_meaning.specs.Program.{fresh_table, program_of}
use Rattle.wasm_trace.specs.View.{vals, stack_of, world}
use Rattle.wasm_trace.proofs.CallSteps.{entry_refused, entry_typed, entry_untyped}
use Rattle.wasm_trace.proofs.configuration.Configuration.call_entry.Goals as goal

pub returns-in-Err-clause-becomes : goal.returns-in-Err-clause-becomes
returns-in-Err-clause-becomes g c = λ i.
    let m = c.args.self.now in
    let valid = c.args.valid.now in
    entry_refused (program_of valid (g.H.Host.answers c.args.host.now)) c.args.wanted.now m.fuel (vals m.locals.items)
    (world m (g.H.Host.records c.args.host.now)) (stack_of m.stack.items) i (slice_get (fresh_table valid) c.args.place) c.in-Err.why
    (c.in-Err.ensures ∙ ap (λ ts. function_at (slice_get ts c.args.place)) c.requires.0)

pub returns-in-None-clause-becomes : goal.returns-in-None-clause-becomes
returns-in-None-clause-becomes g c = λ i.
    let m = c.args.self.now in
    let valid = c.args.valid.now in
    entry_untyped (program_of valid (g.H.Host.answers c.args.host.now)) c.args.wanted.now m.fuel (vals m.locals.items)
    (world m (g.H.Host.records c.args.host.now)) (stack_of m.stack.items) i (slice_get (fresh_table valid) c.args.place) c.in-Ok.index
    (c.in-Ok.ensures ∙ ap (λ ts. function_at (slice_get ts c.args.place)) c.requires.0) c.in-None.ensures

pub returns-then-not-is_wanted-clause-becomes : goal.returns-then-not-is_wanted-clause-becomes
returns-then-not-is_wanted-clause-becomes g c = λ i.
    let m = c.args.self.now in
    let valid = c.args.valid.now in
    entry_typed (program_of valid (g.H.Host.answers c.args.host.now)) c.args.wanted.now m.fuel (vals m.locals.items)
    (world m (g.H.Host.records c.args.host.now)) (stack_of m.stack.items) i (slice_get (fresh_table valid) c.args.place) c.in-Ok.index
    (c.in-Ok.ensures ∙ ap (λ ts. function_at (slice_get ts c.args.place)) c.requires.0) false
    (ap Some (sym c.if-not-is_wanted.true) ∙ c.in-Some.ensures)

pub returns-else-not-is_wanted-clause-becomes : goal.returns-else-not-is_wanted-clause-becomes
returns-else-not-is_wanted-clause-becomes g c =
    let m = c.args.self.now in
    let valid = c.args.valid.now in
    IfOk-weaker c.call.result _ _
    (λ t k i. entry_typed (program_of valid (g.H.Host.answers c.args.host.now)) c.args.wanted.now m.fuel (vals m.locals.items)
    (world m (g.H.Host.records c.args.host.now)) (stack_of m.stack.items) i (slice_get (fresh_table valid) c.args.place) c.in-Ok.index
    (c.in-Ok.ensures ∙ ap (λ ts. function_at (slice_get ts c.args.place)) c.requires.0) true
    (ap Some (sym c.if-not-is_wanted.false) ∙ c.in-Some.ensures) ∙ k i) c.call.ensures.becomes
