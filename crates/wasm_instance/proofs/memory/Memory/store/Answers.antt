use Rattle.std.proofs.Common.{sym, ap, ◌∙◌}
use Rattle.wasm_ast.specs.Access.{store_width}
use Rattle.wasm_instance.specs.Accesses.{in_bounds}
use Rattle.wasm_instance.proofs.Reach.{within_from_ok, past_from_err, store_laid, store_reached}
use Rattle.wasm_instance.proofs.Lent.{refused_in_place, stored_in_place}
use Rattle.wasm_instance.proofs.memory.Memory.store.Goals as goal

pub returns-in-Ok-clause-stored : goal.returns-in-Ok-clause-stored
returns-in-Ok-clause-stored c =
    let fits = within_from_ok {A = Unit {0}} c.self.inside.front.items c.args.place (store_width c.args.op) tt c.in-Ok.field-0
    (ap (λ m. in_bounds {A = Unit {0}} m c.args.place (store_width c.args.op) tt) (sym c.deref_mut.ensures.value) ∙ sym c.in-Ok.ensures.answer) in
    stored_in_place c.args.op c.self.inside.size c.args.place c.args.word c.self.inside.front.len c.self.inside.front.items c.deref_mut.result.now
    c.store_word.new.memory c.args.self.now
    (store_laid c.args.op c.self.inside.size c.args.place c.args.word c.self.inside.front.items c.self.invariant.0 fits) c.self.inside.front.ok.0
    c.deref_mut.ensures.value c.store_word.ensures.stored c.self.view_is

pub returns-in-Err-clause-stored : goal.returns-in-Err-clause-stored
returns-in-Err-clause-stored c =
    let past = past_from_err {A = Unit {0}} c.self.inside.front.items c.args.place (store_width c.args.op) tt c.in-Err.field-0
    (ap (λ m. in_bounds {A = Unit {0}} m c.args.place (store_width c.args.op) tt) (sym c.deref_mut.ensures.value) ∙ sym c.in-Err.ensures.answer) in
    let as_before = refused_in_place c.args.op c.self.inside.size c.args.place c.args.word c.self.inside.front.len c.self.inside.front.items
    c.deref_mut.result.now c.store_word.new.memory c.args.self.now past c.self.inside.front.ok.0 c.deref_mut.ensures.value c.store_word.ensures.stored
    c.self.view_is in
    let stores = store_reached c.args.op c.self.inside.size c.args.place c.args.word c.lay_out.new.front.items c.lay_out.ensures.in_bounds
    c.lay_out.ensures.reaches in
    stored_in_place c.args.op c.self.inside.size c.args.place c.args.word c.lay_out.new.front.len c.lay_out.new.front.items c.deref_mut-in-Err.result.now
    c.store_word-in-Err.new.memory c.args.self.now stores c.lay_out.new.front.ok.0 c.deref_mut-in-Err.ensures.value c.store_word-in-Err.ensures.stored
    (c.lay_out.ensures.memory ∙ as_before)
