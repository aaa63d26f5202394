use Rattle.std.proofs.Common.{ap, arith, length}
use Rattle.host_api.proofs.Replies.{bytes_of, length_next, drop_end}
use Rattle.host_api.proofs.ranges.reply_len.Goals as goal

pub overflow_add-len-in-loop-key-2 : goal.overflow_add-len-in-loop-key-2
overflow_add-len-in-loop-key-2 c =
    omega (
      arith,
      c.requires,
      c.loop-key.invariant.bound,
      c.loop-key-test.true,
      c.as_slice.ensures.limits.1,
      ap length c.as_slice.ensures.value,
      c.as_slice-in-loop-key.ensures.limits,
      ap length c.as_slice-in-loop-key.ensures.value,
    )

pub loop-key-preserved : goal.loop-key-preserved
loop-key-preserved c =
    let next = length_next c.args.entries.now c.loop-key.key-index c.loop-key-item.result c.loop-key-test.true c.loop-key-item.is in
    record {
      total = omega (arith, next, c.loop-key.invariant.total, ap length c.as_slice.ensures.value, ap length c.as_slice-in-loop-key.ensures.value);
      bound = omega (
        arith,
        c.loop-key.invariant.bound,
        c.as_slice.ensures.limits.1,
        ap length c.as_slice.ensures.value,
        c.as_slice-in-loop-key.ensures.limits,
        ap length c.as_slice-in-loop-key.ensures.value,
      );
    }

pub returns : goal.returns
returns c =
    let all = drop_end c.args.entries.now c.loop-key.key-index c.loop-key-test.false c.loop-key.auto.key-index-end in
    omega (arith, c.loop-key.invariant.total, ap (λ es. length (bytes_of es)) all)
