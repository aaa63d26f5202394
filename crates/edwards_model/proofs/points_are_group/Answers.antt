use Rattle.edwards_model.proofs.Group as group
use Rattle.edwards_model.proofs.points_are_group.Goals as goal

pub returns : goal.returns
returns c = record {
  closed = group.sum_is_point;
  associative = group.associative;
  commutative = group.commutative;
  neutral_is_point = group.neutral_is;
  with_neutral = group.with_neutral;
  opposite_is_point = group.opposite_is_point;
  with_opposite = group.with_opposite;
}
