use Rattle.std.proofs.Common.{◌≡◌, take}
use Rattle.hmac_tag.proofs.check.Given as goal

-- no difference so far says that the bytes so far are the same, and equal tags have none
abbrev pub invariant-loop-place : goal.invariant-loop-place
invariant-loop-place l =
    (l.difference ≡ 0 → take l.place l.right ≡ take l.place l.claimed) × (l.right ≡ l.claimed → l.difference ≡ 0)
