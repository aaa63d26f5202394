use Rattle.std.proofs.Common.{◌≡◌, ◌≤◌, None, length, take}
use Rattle.persist_map.specs.Pages.{shared}
use Rattle.kept_state.proofs.Before.{last_before}
use Rattle.kept_state.proofs.state.State.membership_before.Given as goal

abbrev pub invariant-loop-count : goal.invariant-loop-count
invariant-loop-count l = record {
  inside : l.count ≤ length l.self-inside.amended.items;
  told : last_before l.number None (shared (take l.count l.self-inside.amended.items)) ≡ last_before l.number None (shared l.self-inside.amended.items);
}

abbrev pub decreases-loop-count : goal.decreases-loop-count
decreases-loop-count l = l.count
