use Rattle.std.proofs.Common.{◌≡◌, ◌<◌, ◌+◌, ℕ, List, take, length, get_or, ap, arith}
use Rattle.std.specs.List.{sum_by}
use Rattle.std.proofs.lemmas.List.Sums.{sum_by_more}
use Rattle.fab_types.proofs.size.total_size.Goals as goal

-- the sum up to an item and that item
more : {X : Type 0} (size : X → ℕ) (items : List X) (i n r : ℕ) (x : X) → i < length items → x ≡ get_or items i x → n ≡ sum_by size (take i items) →
    r ≡ size x → n + r ≡ sum_by size (take (i + 1) items)
more size items i n r x lt is sum one =
    let next = sum_by_more size items i x lt in
    let same = ap size is in
    cc

pub loop-item-preserved : goal.loop-item-preserved
loop-item-preserved g c =
    let l = c.loop-item in
    record {
      value = more g.T.ByteSize.size_of c.args.items.now l.item-index l.total c.byte_size-total.result c.item-item.result c.loop-item-test.true c.item-item.is
          l.invariant.value c.byte_size-total.ensures.value;
      bound = omega (arith, l.invariant.bound, c.byte_size-total.ensures.bound);
    }
