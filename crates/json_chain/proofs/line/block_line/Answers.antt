use Rattle.std.proofs.Common.{arith}
use Rattle.json_chain.proofs.Depths.{block_low}
use Rattle.json_chain.proofs.Floats.{block_plain, text_of}
use Rattle.json_chain.proofs.line.block_line.Goals as goal

pub line_of-requires : goal.line_of-requires
line_of-requires c = rw c.in_ok-block_of.ensures (omega (arith, block_low c.args.organisations.now c.args.committed.now))

pub returns : goal.returns
returns c =
    text_of c.line_of.result _ _ c.in_ok-block_of.ensures (block_plain c.args.organisations.now c.args.committed.now) c.line_of.ensures.text
    c.line_of.ensures.read
