use Rattle.std.proofs.Common.{refl}
use Rattle.json_chain.proofs.Floats.{text_of}
use Rattle.json_chain.proofs.line.ending_line.Goals as goal

pub returns : goal.returns
returns c = text_of c.line_of.result _ _ c.in_ok-ending_of.ensures refl c.line_of.ensures.text c.line_of.ensures.read
