use Rattle.std.proofs.Common.{◌++◌, ◌∙◌, ap, subst}
use Rattle.std.proofs.lemmas.Result.{on_ok_weaker}
use Rattle.std.specs.Int.{w32, to_be_bytes}
use Rattle.ledger_model.specs.Chain.{Bytes}
use Rattle.checkpoint.specs.Checkpoint.{form_bytes}
use Rattle.checkpoint.specs.Hashing.{IsSoFar}
use Rattle.checkpoint.proofs.Texts.{four_parts}
use Rattle.checkpoint.proofs.writing.put_head.Goals as goal

pub returns-clause-text : goal.returns-clause-text
returns-clause-text c =
    let state = c.args.state.now in
    let genesis = c.args.genesis.now in
    let height = c.to_be_bytes.ensures ∙ ap (to_be_bytes w32) c.height.ensures.value in
    let spelled = λ (text : Bytes).
    four_parts text form_bytes genesis c.to_be_bytes.result c.link.result
    ∙ (λ i. text ++ (form_bytes ++ genesis ++ height i ++ c.link.ensures i)) in
    on_ok_weaker c.put-4.result (λ put old now text so.
    subst (IsSoFar old now c.put-4.new.self) (spelled text)
    (put old now _ (c.in_ok-put-3.ensures old now _ (c.in_ok-put-2.ensures old now _ (c.in_ok-put.ensures old now text so))))) c.put-4.ensures
