use Rattle.std.proofs.Common.{sym, subst}
use Rattle.std.proofs.lemmas.Result.{IfOk-weaker}
use Rattle.wasm_ast.specs.Op as op
use Rattle.wasm_ast.specs.View.{code_of}
use Rattle.wasm_meaning.specs.Program.{program_of}
use Rattle.wasm_trace.specs.View.{vals, stack_of, plain_of, world, OnLocals, OnGlobals}
use Rattle.wasm_trace.proofs.Executing.{by}
use Rattle.wasm_trace.proofs.Plain.{is_on_values}
use Rattle.wasm_trace.proofs.configuration.Configuration.operate.Goals as goal

pub returns-in-Call-clause-does : goal.returns-in-Call-clause-does
returns-in-Call-clause-does g c =
    let m = c.args.self.now in
    let p = program_of c.args.valid.now (g.H.Host.answers c.args.host.now) in
    let r = g.H.Host.records c.args.host.now in
    let w = world m r in
    let l = vals m.locals.items in
    let i = plain_of m.code.now in
    IfOk-weaker c.call.result _ _ (λ t h. by p c.args.instr.now _ m.fuel l w (stack_of m.stack.items) (code_of m.code.now) _ c.in-Call.is (h i))
    c.call.ensures.becomes

pub returns-in-CallIndirect-clause-does : goal.returns-in-CallIndirect-clause-does
returns-in-CallIndirect-clause-does g c =
    let m = c.args.self.now in
    let p = program_of c.args.valid.now (g.H.Host.answers c.args.host.now) in
    let r = g.H.Host.records c.args.host.now in
    let w = world m r in
    let l = vals m.locals.items in
    let i = plain_of m.code.now in
    IfOk-weaker c.call_indirect.result _ _
    (λ t h. by p c.args.instr.now _ m.fuel l w (stack_of m.stack.items) (code_of m.code.now) _ c.in-CallIndirect.is (h i))
    c.call_indirect.ensures.becomes

pub returns-in-LocalGet-clause-does : goal.returns-in-LocalGet-clause-does
returns-in-LocalGet-clause-does g c =
    let m = c.args.self.now in
    let p = program_of c.args.valid.now (g.H.Host.answers c.args.host.now) in
    let r = g.H.Host.records c.args.host.now in
    let w = world m r in
    let l = vals m.locals.items in
    let i = plain_of m.code.now in
    IfOk-weaker c.get_local.result _ _
    (λ t h. by p c.args.instr.now _ m.fuel l w (stack_of m.stack.items) (code_of m.code.now) _ c.in-LocalGet.is
    (subst (λ ls. OnLocals g.H.Host.Records (op.LocalGet c.in-LocalGet.k) m.stack.items ls c.get_local.new.stack.items ls t) c.deref.ensures.value h
    p m.fuel w i)) c.get_local.ensures

pub returns-in-LocalSet-clause-does : goal.returns-in-LocalSet-clause-does
returns-in-LocalSet-clause-does g c =
    let m = c.args.self.now in
    let p = program_of c.args.valid.now (g.H.Host.answers c.args.host.now) in
    let r = g.H.Host.records c.args.host.now in
    let w = world m r in
    let l = vals m.locals.items in
    let i = plain_of m.code.now in
    by p c.args.instr.now _ m.fuel l w (stack_of m.stack.items) (code_of m.code.now) _ c.in-LocalSet.is (c.set_local.ensures p m.fuel w i)

pub returns-in-GlobalGet-clause-does : goal.returns-in-GlobalGet-clause-does
returns-in-GlobalGet-clause-does g c =
    let m = c.args.self.now in
    let p = program_of c.args.valid.now (g.H.Host.answers c.args.host.now) in
    let r = g.H.Host.records c.args.host.now in
    let w = world m r in
    let l = vals m.locals.items in
    let i = plain_of m.code.now in
    IfOk-weaker c.get_global.result _ _
    (λ t h. by p c.args.instr.now _ m.fuel l w (stack_of m.stack.items) (code_of m.code.now) _ c.in-GlobalGet.is
    (subst (λ gs. OnGlobals g.H.Host.Records (op.GlobalGet c.in-GlobalGet.k) m.stack.items gs c.get_global.new.stack.items gs t)
    c.deref-in-GlobalGet.ensures.value h p m.fuel l m.instance.memory r i)) c.get_global.ensures

pub returns-in-GlobalSet-clause-does : goal.returns-in-GlobalSet-clause-does
returns-in-GlobalSet-clause-does g c =
    let m = c.args.self.now in
    let p = program_of c.args.valid.now (g.H.Host.answers c.args.host.now) in
    let r = g.H.Host.records c.args.host.now in
    let w = world m r in
    let l = vals m.locals.items in
    let i = plain_of m.code.now in
    by p c.args.instr.now _ m.fuel l w (stack_of m.stack.items) (code_of m.code.now) _ c.in-GlobalSet.is
    (c.set_global.ensures p m.fuel l m.instance.memory r i)

pub returns-in-Load-clause-does : goal.returns-in-Load-clause-does
returns-in-Load-clause-does g c =
    let m = c.args.self.now in
    let p = program_of c.args.valid.now (g.H.Host.answers c.args.host.now) in
    let r = g.H.Host.records c.args.host.now in
    let w = world m r in
    let l = vals m.locals.items in
    let i = plain_of m.code.now in
    IfOk-weaker c.load.result _ _
    (λ t h. by p c.args.instr.now _ m.fuel l w (stack_of m.stack.items) (code_of m.code.now) _ c.in-Load.is (h p m.fuel l (vals m.globals.items) r i))
    c.load.ensures

pub returns-in-Store-clause-does : goal.returns-in-Store-clause-does
returns-in-Store-clause-does g c =
    let m = c.args.self.now in
    let p = program_of c.args.valid.now (g.H.Host.answers c.args.host.now) in
    let r = g.H.Host.records c.args.host.now in
    let w = world m r in
    let l = vals m.locals.items in
    let i = plain_of m.code.now in
    by p c.args.instr.now _ m.fuel l w (stack_of m.stack.items) (code_of m.code.now) _ c.in-Store.is
    (c.store.ensures.effect p m.fuel l (vals m.globals.items) r i)

pub returns-in-MemorySize-clause-does : goal.returns-in-MemorySize-clause-does
returns-in-MemorySize-clause-does g c =
    let m = c.args.self.now in
    let p = program_of c.args.valid.now (g.H.Host.answers c.args.host.now) in
    let r = g.H.Host.records c.args.host.now in
    let w = world m r in
    let l = vals m.locals.items in
    let i = plain_of m.code.now in
    IfOk-weaker c.memory_size.result _ _
    (λ t h. by p c.args.instr.now _ m.fuel l w (stack_of m.stack.items) (code_of m.code.now) _ c.in-MemorySize.is (h p m.fuel l (vals m.globals.items) r i))
    c.memory_size.ensures

pub returns-in-MemoryGrow-clause-does : goal.returns-in-MemoryGrow-clause-does
returns-in-MemoryGrow-clause-does g c =
    let m = c.args.self.now in
    let p = program_of c.args.valid.now (g.H.Host.answers c.args.host.now) in
    let r = g.H.Host.records c.args.host.now in
    let w = world m r in
    let l = vals m.locals.items in
    let i = plain_of m.code.now in
    IfOk-weaker c.memory_grow.result _ _
    (λ t h. by p c.args.instr.now _ m.fuel l w (stack_of m.stack.items) (code_of m.code.now) _ c.in-MemoryGrow.is
    (h p (sym c.requires.linked.1) l (vals m.globals.items) r i)) c.memory_grow.ensures.effect

pub returns-in_default-clause-does : goal.returns-in_default-clause-does
returns-in_default-clause-does g c =
    let m = c.args.self.now in
    let p = program_of c.args.valid.now (g.H.Host.answers c.args.host.now) in
    let w = world m (g.H.Host.records c.args.host.now) in
    IfOk-weaker c.on_values.result _ _ (λ t h. h p m.fuel (vals m.locals.items) w (code_of m.code.now)) c.on_values.ensures

pub on_values-requires : goal.on_values-requires
on_values-requires g c =
    is_on_values c.args.instr.now c.requires.becomes c.in_default.not-Call c.in_default.not-CallIndirect c.in_default.not-LocalGet c.in_default.not-LocalSet
    c.in_default.not-GlobalGet c.in_default.not-GlobalSet c.in_default.not-Load c.in_default.not-Store c.in_default.not-MemorySize c.in_default.not-MemoryGrow
