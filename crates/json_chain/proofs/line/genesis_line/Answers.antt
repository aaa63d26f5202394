use Rattle.std.proofs.Common.{arith}
use Rattle.json_chain.proofs.Depths.{genesis_low}
use Rattle.json_chain.proofs.Floats.{genesis_plain, text_of}
use Rattle.json_chain.proofs.line.genesis_line.Goals as goal

pub line_of-requires : goal.line_of-requires
line_of-requires c = rw c.in_ok-genesis_of.ensures (omega (arith, genesis_low c.args.genesis.now))

pub returns : goal.returns
returns c =
    text_of c.line_of.result _ _ c.in_ok-genesis_of.ensures (genesis_plain c.args.genesis.now) c.line_of.ensures.text c.line_of.ensures.read
