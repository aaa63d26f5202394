use Rattle.std.proofs.Common.{◌≡◌, ap, ◌∙◌, refl, arith, length}
use Rattle.std.proofs.lemmas.Grind.{common_steps}
use Rattle.std.proofs.lemmas.Option.{slice_get_read}
use Rattle.wasm_ast.specs.declared.types.ValueType.TheVariants.{I32}
use Rattle.wasm_meaning.specs.Program.{initial}
use Rattle.wasm_instance.proofs.Front.{length-written}
use Rattle.wasm_instance.proofs.fresh.write_segments.Goals as goal

pub constant-requires : goal.constant-requires
constant-requires c =
    let e = slice_get_read c.args.segments.now _ c.loop-segment.segment-index c.segment-item.result refl c.loop-segment-test.true c.segment-item.is in
    let d = c.requires c.loop-segment.segment-index c.segment-item.result e in
    record { type = I32; word = d.offset; is = d.constant }

pub write-requires : goal.write-requires
write-requires c =
    let e = slice_get_read c.args.segments.now _ c.loop-segment.segment-index c.segment-item.result refl c.loop-segment-test.true c.segment-item.is in
    let d = c.requires c.loop-segment.segment-index c.segment-item.result e in
    let place : c.constant.result ≡ d.offset = c.constant.ensures ∙ ap initial d.constant in
    omega (arith, d.within, place, ap length c.as_slice.ensures, c.loop-segment.invariant.size)

pub loop-segment-preserved : goal.loop-segment-preserved
loop-segment-preserved c = record {
  rest = grind (arith, common_steps);
  size = ap length c.write.ensures ∙ length-written c.loop-segment.memory c.as_slice.result.now c.constant.result ∙ c.loop-segment.invariant.size;
}
