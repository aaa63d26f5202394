use Rattle.std.proofs.Common.{◌⊎◌, inl, inr}
use Rattle.std.proofs.lemmas.Result.{IfOk-weaker}
use Rattle.store_devices.specs.Placed.{IsOfMemory}
use Rattle.store_devices.specs.declared.placed.BlockFault.{BlockFault}
use Rattle.peer_answers.specs.Answering.{IsReply}
use Rattle.peer_answers.specs.Spoken.{answer_text}
use Rattle.peer_answers.proofs.answering.reply_to.Goals as goal

other : (f : BlockFault) (X : Type 0) → ¬ IsOfMemory f → IsOfMemory f ⊎ X → X
other f X never (inl memory) = absurd (never memory)
other f X never (inr x) = x

pub returns-in-Err : goal.returns-in-Err
returns-in-Err g c =
    let chain = g.B.Blocks.chain c.args.blocks.now in
    IfOk-weaker c.lost_answer.result _ (λ a. IsReply g.B.Blocks.keeps c.args.genesis.now c.args.question.now chain (answer_text a))
    (λ a h. let asks = other c.in-Err.fault _ h.0 c.in-Err.ensures.lost in inr (asks.0, asks.1, h.1)) c.lost_answer.ensures
