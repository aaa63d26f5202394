use Rattle.std.proofs.Common.{◌≡◌, length, map}
use Rattle.serde_json.specs.View.{view}
use Rattle.ledger_model.specs.Chain.{Chain, placed_from}
use Rattle.json_chain.specs.Writes.{writes_json}
use Rattle.json_questions.specs.Answers.{AreGiven}
use Rattle.json_questions.proofs.writes.writes_in.Given as goal

abbrev pub invariant-loop-index : goal.invariant-loop-index
invariant-loop-index g l =
    (cs : Chain) × AreGiven g.B.Blocks.keeps (g.B.Blocks.chain l.blocks) l.first cs × (length cs ≡ l.index)
    × (map view l.values.items ≡ writes_json l.key (placed_from l.first cs))
