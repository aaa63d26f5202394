use Rattle.std.proofs.Common.{◌≡◌, ◌<◌, ◌+◌, ℕ, List, [], ◌∷◌, ◌++◌, length, map, drop, slice_index_or, append_assoc, refl, sym, ap, ◌∙◌, subst}
use Rattle.std.proofs.lemmas.List.{drop_more}
use Rattle.std.proofs.lemmas.Option.{slice_get_read}
use Rattle.wasm_ast.specs.declared.module.Global.{Global}
use Rattle.wasm_meaning.specs.Program.{fresh_global, initial}
use Rattle.wasm_instance.specs.State.{words_of}
use Rattle.wasm_instance.specs.Segments.{AreConstants}
use Rattle.wasm_instance.proofs.Starting.{globals_constant}
use Rattle.wasm_instance.proofs.fresh.fresh_globals.Goals as goal

abbrev words : List Global → List ℕ
words gs = words_of (map fresh_global gs)

-- one word more
words_next : (gs : List Global) (i : ℕ) (d : Global) (ws ws' : List ℕ) (w : ℕ) → i < length gs → ws' ≡ ws ++ w ∷ [] →
    w ≡ initial (slice_index_or gs i d).initializer → ws ++ words (drop i gs) ≡ words gs → ws' ++ words (drop (i + 1) gs) ≡ words gs
words_next gs i d ws ws' w lt more is before =
    let left = drop (i + 1) gs in
    ap (λ z. z ++ words left) more ∙ append_assoc ws (w ∷ []) (words left) ∙ ap (λ x. ws ++ (x ∷ words left)) is ∙
    ap (λ z. ws ++ words z) (sym (drop_more gs i d lt)) ∙ before

pub constant-requires : goal.constant-requires
constant-requires c =
    let e = slice_get_read c.as_slice-globals.result.now _ c.loop-global.global-index c.global-item.result refl c.loop-global-test.true c.global-item.is in
    subst AreConstants (sym c.as_slice-globals.ensures) (globals_constant c.args.module.now c.requires) c.loop-global.global-index c.global-item.result e

pub loop-global-preserved : goal.loop-global-preserved
loop-global-preserved c =
    words_next c.as_slice-globals.result.now c.loop-global.global-index c.global-item.result c.loop-global.words.items c.push.new.self.items
    c.constant.result c.loop-global-test.true c.in_ok-push.ensures.items (c.constant.ensures ∙ ap (λ (g : Global). initial g.initializer) c.global-item.is)
    c.loop-global.invariant
