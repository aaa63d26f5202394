-- The fields of an `Extended` as the model's coordinates.
use Rattle.edwards_model.specs.Extended.{Extended}
use Rattle.edwards25519.specs.declared.extended.Extended as declared

abbrev pub coordinates : declared.Extended → Extended
coordinates q = record { x = q.x; y = q.y; z = q.z; t = q.t }
