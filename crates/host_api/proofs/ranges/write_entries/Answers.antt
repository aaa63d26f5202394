use Rattle.std.proofs.Common.{◌+◌, length, drop, ap, ◌∙◌, arith}
use Rattle.wasm_meaning.specs.Memory.{with_bytes}
use Rattle.host_api.specs.HostStep.{reply_entry_bytes}
use Rattle.host_api.proofs.Replies.{bytes_of, written_entry, length_next, length-entry}
use Rattle.host_api.proofs.ranges.write_entries.Goals as goal

pub loop-key-preserved : goal.loop-key-preserved
loop-key-preserved c =
    let es = c.args.entries.now in
    let e = c.loop-key-item.result in
    let rest = bytes_of (drop (c.loop-key.key-index + 1) es) in
    let lt = c.loop-key-test.true in
    record {
      all = (λ i. with_bytes (c.write_entry-next.ensures.written i) (c.write_entry-next.ensures.next i) rest)
          ∙ (λ i. with_bytes (with_bytes c.loop-key.memory c.loop-key.next
          (reply_entry_bytes (c.as_slice.ensures.value i, c.as_slice-in-loop-key.ensures.value i)))
          (c.loop-key.next + length (reply_entry_bytes (c.as_slice.ensures.value i, c.as_slice-in-loop-key.ensures.value i))) rest)
          ∙ written_entry es c.loop-key.key-index e lt c.loop-key-item.is c.loop-key.memory c.loop-key.next ∙ c.loop-key.invariant.all;
      room = omega (
        arith,
        c.write_entry-next.ensures.next,
        length_next es c.loop-key.key-index e lt c.loop-key-item.is,
        length-entry c.as_slice.result.now c.as_slice-in-loop-key.result.now,
        ap length c.as_slice.ensures.value,
        ap length c.as_slice-in-loop-key.ensures.value,
        c.loop-key.invariant.room,
        c.write_entry-next.auto.memory,
      );
    }
