use Rattle.std.proofs.Common.{◌≡◌, ℕ, ◌+◌, List, ◌++◌, take, drop, refl, sym, ap, ◌∙◌, append_assoc, append-nil, arith, subst}
use Rattle.std.proofs.KnownBytes.{Appends-kept, Appends-nil, Appends-trans}
use Rattle.std.proofs.Math.Seq.{take-add}
use Rattle.std.proofs.lemmas.List.{length-drop, take_all}
use Rattle.std.specs.Io.KnownBytes.{Appends}
use Rattle.block_store.proofs.Slices.{slice_to_end}
use Rattle.block_store.proofs.appending.write_whole.Goals as goal

pub loop-at-init : goal.loop-at-init
loop-at-init g c = record {
  within = omega arith;
  known = Appends-nil (g.W.CountedWrite.contents c.args.writer.now);
  written = sym (append-nil (g.W.CountedWrite.written c.args.writer.now));
  failures = refl;
}

pub loop-at-preserved : goal.loop-at-preserved
loop-at-preserved g c =
    let e = c.in-Ok.ensures.once in
    let at = c.loop-at.at in
    let n = c.in-Ok.count in
    let bytes = c.args.bytes.now in
    let before = g.W.CountedWrite.written c.args.writer.now in
    let contents = g.W.CountedWrite.contents in
    let some = e.1 in
    let within = c.loop-at.invariant.within in
    let joined : take at bytes ++ take n (drop at bytes) ≡ take (at + n) bytes = sym (take-add at n bytes) in
    record {
      within = omega (arith, some, within, length-drop at bytes);
      known = subst (Appends (contents c.args.writer.now) (contents c.write.new.self)) joined
          (Appends-trans (contents c.args.writer.now) (contents c.loop-at.writer) (contents c.write.new.self) (take at bytes) (take n (drop at bytes))
          c.loop-at.invariant.known
          (subst (λ (t : List ℕ). Appends (contents c.loop-at.writer) (contents c.write.new.self) (take n t)) (slice_to_end at bytes) c.in-Ok.ensures.known));
      written = e.2 ∙ ap (λ (t : List ℕ). g.W.CountedWrite.written c.loop-at.writer ++ take n t) (slice_to_end at bytes) ∙
          ap (λ (w : List ℕ). w ++ take n (drop at bytes)) c.loop-at.invariant.written ∙ append_assoc before (take at bytes) (take n (drop at bytes)) ∙
          ap (λ (t : List ℕ). before ++ t) joined;
      failures = e.3 ∙ c.loop-at.invariant.failures;
    }

pub returns-in-Err-clause-known : goal.returns-in-Err-clause-known
returns-in-Err-clause-known g c =
    let contents = g.W.CountedWrite.contents in
    Appends-kept (contents c.args.writer.now) (contents c.loop-at.writer) (contents c.write.new.self) (take c.loop-at.at c.args.bytes.now)
    c.loop-at.invariant.known c.in-Err.ensures.known

pub returns-clause-known : goal.returns-clause-known
returns-clause-known g c =
    let contents = g.W.CountedWrite.contents in
    subst (Appends (contents c.args.writer.now) (contents c.loop-at.writer)) (take_all c.loop-at.at c.args.bytes.now c.loop-at-test.false)
    c.loop-at.invariant.known
