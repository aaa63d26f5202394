use Rattle.std.proofs.Common.{◌≡◌, ◌≤◌, length, take}
use Rattle.std.specs.Vec.{vec_capacity, vec_len}
use Rattle.log_orderer.specs.Cutting.{AreAt}
use Rattle.log_orderer.proofs.batch.ids_at.Given as goal

abbrev pub invariant-loop-place : goal.invariant-loop-place
invariant-loop-place l =
    AreAt l.members (take l.place-index l.aborted) l.ids.items × (vec_len l.ids ≡ l.place-index) × (length l.aborted ≤ vec_capacity l.ids)
