use Rattle.std.proofs.Common.{◌≡◌, ◌∙◌, ap, sym, ◌+◌, ◌++◌, ◌∷◌, [], length, subst, OnOk}
use Rattle.ledger_model.specs.Chain.{Committed}
use Rattle.world_state.specs.Ids.{ids_of}
use Rattle.world_state.proofs.snapshot.Snapshot.extend.Goals as goal

pub put-requires-clause-next : goal.put-requires-clause-next
put-requires-clause-next c =
    subst (λ (b : Committed). b.block.header.number ≡ length c.args.self.now + 1) (sym (c.in_ok-committed.ensures.ok ∙ c.new.ensures)) c.requires.next

pub put-requires-clause-ids : goal.put-requires-clause-ids
put-requires-clause-ids c =
    c.deref.ensures.value
    ∙ c.requires.judged.ids
    ∙ ap (λ (b : Committed). ids_of b.block.envelopes) (sym (c.in_ok-committed.ensures.ok ∙ c.new.ensures))

pub returns-clause-extended : goal.returns-clause-extended
returns-clause-extended c =
    subst (λ (b : Committed). OnOk c.put.result (c.put.new.self ≡ c.args.self.now ++ b ∷ [])) (c.in_ok-committed.ensures.ok ∙ c.new.ensures)
    c.put.ensures.extended
