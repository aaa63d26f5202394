use Rattle.std.proofs.Common.{◌≡◌, option_map, drop}
use Rattle.json_chain.specs.Standing.{amended_by}
use Rattle.json_chain.proofs.amending.amended_by.Given as goal

abbrev pub invariant-loop-place : goal.invariant-loop-place
invariant-loop-place l =
    amended_by (option_map (λ s. s.now) l.membership) (drop l.place l.envelopes) (drop l.place l.flags) ≡
    amended_by (option_map (λ s. s.now) l.was) l.envelopes l.flags
