use Rattle.std.proofs.Common.{map, refl, sym, ap, ◌∙◌}
use Rattle.std.specs.Prelude.{slice_get}
use Rattle.std.proofs.lemmas.Option.{slice_get_read}
use Rattle.wasm_meaning.specs.Program.{fresh_global}
use Rattle.wasm_trace.proofs.Pushing.{pushed_next}
use Rattle.wasm_trace.proofs.configuration.start.fresh_globals.Goals as goal

pub fresh_global-requires : goal.fresh_global-requires
fresh_global-requires c =
    let e = slice_get_read c.as_slice-globals.result.now _ c.loop-global.global-index c.global-item.result refl c.loop-global-test.true c.global-item.is in
    c.requires.globals c.loop-global.global-index c.global-item.result (ap (λ gs. slice_get gs c.loop-global.global-index) (sym c.as_slice-globals.ensures) ∙ e)

pub loop-global-preserved : goal.loop-global-preserved
loop-global-preserved c =
    let item = c.global-item.result in
    pushed_next fresh_global (map fresh_global) (λ _ _. refl) c.as_slice-globals.result.now c.loop-global.global-index item c.loop-global.values.items
    c.push.new.self.items c.fresh_global.result _ c.loop-global-test.true c.in_ok-push.ensures.items (c.fresh_global.ensures ∙ ap fresh_global c.global-item.is)
    c.loop-global.invariant
