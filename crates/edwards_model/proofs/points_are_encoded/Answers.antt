use Rattle.edwards_model.proofs.Decoding as decoding
use Rattle.edwards_model.proofs.Rooting as rooting
use Rattle.edwards_model.proofs.points_are_encoded.Goals as goal

pub returns : goal.returns
returns c = record { back = decoding.decoded-encoded; only = rooting.decoded_is_point }
