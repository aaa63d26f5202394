use Rattle.std.proofs.Common.{◌≡◌, List, length, ap, ◌∙◌, subst, arith}
use Rattle.std.proofs.lemmas.List.{length-append}
use Rattle.std.proofs.lemmas.Result.{on_ok_weaker}
use Rattle.std.specs.Int.{w32, to_be_bytes}
use Rattle.ledger_model.specs.Chain.{Bytes}
use Rattle.checkpoint.specs.Checkpoint.{sizes_of}
use Rattle.checkpoint.specs.Hashing.{IsSoFar}
use Rattle.checkpoint.proofs.Spans.{counted_sized, length-sizes}
use Rattle.checkpoint.proofs.Texts.{last_four}
use Rattle.checkpoint.proofs.writing.put_hashes.Goals as goal

pub returns-clause-text : goal.returns-clause-text
returns-clause-text g c =
    let front = c.as_slices.result.0.now in
    let back = c.as_slices.result.1.now in
    let len = c.as_slices.ensures.len in
    let long = ap (λ (l : List Bytes). length l) c.as_slices.ensures.items in
    let sum = length-append front back in
    let every : c.len.result ≡ length c.args.hashes.now.items = omega (arith, c.len.ensures, len, long, sum) in
    let counted = last_four c.count_of-count.result c.len.result c.count_of-count.ensures in
    on_ok_weaker c.put_sized-2.result (λ put chain are count small old text so.
    let size = length-sizes chain in
    subst (IsSoFar old (g.W.Write.contents c.put_sized-2.new.out) c.put_sized-2.new.hashing)
    (counted_sized front back c.args.hashes.now.items (sizes_of chain) _ text c.as_slices.ensures.items (omega (arith, count, size))
    (counted ∙ ap (to_be_bytes w32) every))
    (put chain are (omega (arith, count, c.len.ensures, every, len)) small old _
    (c.in_ok-put_sized.ensures.text chain are (omega (arith, count, c.len.ensures, every, len)) small old _
    (c.in_ok-put.ensures old _ text so)))) c.put_sized-2.ensures.text
