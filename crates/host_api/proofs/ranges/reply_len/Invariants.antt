use Rattle.std.proofs.Common.{◌≡◌, ◌≤◌, ◌+◌, ◌*◌, drop, length}
use Rattle.host_api.proofs.Replies.{bytes_of}
use Rattle.host_api.proofs.ranges.reply_len.Given as goal

abbrev pub invariant-loop-key : goal.invariant-loop-key
invariant-loop-key l = record {
  total : l.len + length (bytes_of (drop l.key-index l.entries)) ≡ 1 + length (bytes_of l.entries);
  bound : l.len ≤ 1 + 4163 * l.key-index;
}
