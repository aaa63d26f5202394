use Rattle.std.proofs.Common.{ℕ, List, [], ◌∷◌, ◌++◌, length, sym, ap, ◌∙◌, arith, length-append}
use Rattle.wasm_trace.specs.declared.parts.Value.TheVariants as val
use Rattle.wasm_trace.specs.Reduction.{with_words}
use Rattle.wasm_trace.specs.View.{vals}
use Rattle.wasm_trace.proofs.CallSteps.{words_next, words_none, words_all}
use Rattle.wasm_trace.proofs.configuration.calls.words_of.Goals as goal

pub loop-value-init : goal.loop-value-init
loop-value-init g c = (
  λ go. ap (λ ws. with_words (vals c.args.values.now) (λ ns. go (ws ++ ns))) (sym c.new-words.ensures.items),
  ap (λ (ws : List ℕ). length ws) c.new-words.ensures.items,
)

pub loop-value-preserved : goal.loop-value-preserved
loop-value-preserved g c =
    let words = c.loop-value.words.items in
    let more = c.in_ok-push-in-I32.ensures.items in (
      λ go. c.loop-value.invariant.0 go ∙ words_next go c.args.values.now words c.loop-value.value-index c.push.new.self.items (val.I32 0) c.in-I32.word
          c.loop-value-test.true c.in-I32.is more,
      omega (arith, ap (λ (ws : List ℕ). length ws) more, length-append words (c.in-I32.word ∷ []), c.loop-value.invariant.1),
    )

pub returns-in-I64-clause-words : goal.returns-in-I64-clause-words
returns-in-I64-clause-words g c = λ go.
    c.loop-value.invariant.0 go ∙ words_none go c.args.values.now c.loop-value.words.items c.loop-value.value-index (val.I32 0) c.in-I64.field-0
    c.loop-value-test.true c.in-I64.is

pub returns-clause-words : goal.returns-clause-words
returns-clause-words g c = λ go.
    c.loop-value.invariant.0 go ∙ words_all go c.args.values.now c.loop-value.words.items c.loop-value.value-index c.loop-value-test.false
