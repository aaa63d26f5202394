use Rattle.std.proofs.Common.{◌≡◌, ◌++◌, take, drop}
use Rattle.hmac_tag.specs.Tag.{mask}
use Rattle.hmac_tag.proofs.mask.Given as goal

abbrev pub invariant-loop-place : goal.invariant-loop-place
invariant-loop-place l = l.block ≡ mask l.fn.pad (take l.place l.fn.key) ++ drop l.place l.fn.key
