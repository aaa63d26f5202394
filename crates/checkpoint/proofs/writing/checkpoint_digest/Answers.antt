use Rattle.std.proofs.lemmas.Result.{IfOk-weaker}
use Rattle.checkpoint.proofs.writing.checkpoint_digest.Goals as goal

pub returns : goal.returns
returns c = λ kept places.
    IfOk-weaker c.write_checkpoint.result _ _ (λ digest done. (done.0, done.1, done.2)) (c.write_checkpoint.ensures.written kept places)
