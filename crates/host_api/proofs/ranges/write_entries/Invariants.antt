use Rattle.std.proofs.Common.{◌≡◌, ◌≤◌, ◌+◌, drop, length}
use Rattle.wasm_meaning.specs.Memory.{with_bytes}
use Rattle.host_api.specs.HostStep.{reply_range_bytes}
use Rattle.host_api.proofs.Replies.{bytes_of, shown}
use Rattle.host_api.proofs.ranges.write_entries.Given as goal

abbrev pub invariant-loop-key : goal.invariant-loop-key
invariant-loop-key l = record {
  all : with_bytes l.memory l.next (bytes_of (drop l.key-index l.entries)) ≡ with_bytes l.fn.memory l.fn.at (reply_range_bytes (shown l.entries));
  room : l.next + length (bytes_of (drop l.key-index l.entries)) ≤ length l.memory;
}
