use Rattle.std.proofs.Common.{◌≡◌, ℕ, suc, ◌+◌, ◌*◌, ◌-◌, ◌≤◌, ◌<◌, List, length}
use Rattle.policy_language.specs.Leniency.{Leniency}
use Rattle.policy_language.specs.Parsing.{IsAt}
use Rattle.policy_language.specs.Wrong.{Start}
use Rattle.policy_language.specs.Reading.{children_at, policy_by}
use Rattle.policy_language.proofs.Children.{with_front}
use Rattle.policy_language.proofs.reading.+policy.Given as goal

abbrev pub decreases-children : goal.decreases-children
decreases-children l = 2 * l.levels + 1

abbrev pub decreases-policy : goal.decreases-policy
decreases-policy l = 2 * l.levels

abbrev pub invariant-children-loop : goal.invariant-children-loop
invariant-children-loop l = record {
  read : (m : Leniency) → with_front l.children.items (children_at (policy_by l.orgs m l.levels) (1024 - l.counter) l.reader.rest) ≡
      children_at (policy_by l.orgs m l.levels) 1024 l.fn.reader.rest;
  place : (text : List ℕ) (n : ℕ) → length l.fn.reader.rest < 1024 → IsAt text (Start (suc n)) l.fn.reader → IsAt text (Start (suc n)) l.reader;
  few : length l.reader.rest + l.counter ≤ length l.fn.reader.rest;
}
