use Rattle.std.proofs.Common.{Some, None, ◌∙◌, ap, sym}
use Rattle.std.specs.FinMap.{insert}
use Rattle.ledger_model.specs.Views.{key_cmp, values_of}
use Rattle.ledger_model.proofs.Keys.{keys_total}
use Rattle.persist_map.specs.Entries.{get}
use Rattle.persist_map.proofs.Lookups.{get-put, get-without}
use Rattle.ledger_model.specs.Serial.{write}
use Rattle.world_state.specs.Writing.{as_state}
use Rattle.world_state.proofs.Entries.{inserted, removed}
use Rattle.host_api.specs.Plain.{plain_of}
use Rattle.host_api.proofs.Plain.{plain_write}
use Rattle.host_api.proofs.plain_map.PlainMap.write.Goals as goal

pub returns-in_ok-put-in-Some-clause-written : goal.returns-in_ok-put-in-Some-clause-written
returns-in_ok-put-in-Some-clause-written c =
    ap values_of (inserted c.self.inside.map.entries c.put.new.self.entries _ _
    (λ q. ap (λ es. get key_cmp es q) c.in_ok-put-in-Some.ensures.ok ∙ get-put key_cmp keys_total _ c.self.inside.map.entries _ q))
    ∙ (λ i. values_of (insert (as_state (c.self.view_is i)) (c.in_ok-clone-in-Some-2.ensures.cases i)
    (c.in_ok-clone-in-Some.ensures.cases i, c.first_version.result)))
    ∙ plain_write (as_state c.args.self.now) c.args.item.now.key (Some c.in-Some.value) c.first_version.result
    ∙ ap (write (plain_of c.args.self.now) c.args.item.now.key) (sym c.in-Some.is)

pub returns-in_ok-delete-in-None-clause-written : goal.returns-in_ok-delete-in-None-clause-written
returns-in_ok-delete-in-None-clause-written c =
    ap values_of (removed c.self.inside.map.entries c.delete.new.self.entries c.args.item.now.key
    (λ q. ap (λ es. get key_cmp es q) c.in_ok-delete-in-None.ensures.ok ∙
    get-without key_cmp keys_total c.args.item.now.key c.self.inside.map.entries q c.in_ok-delete-in-None.ensures.ordered))
    ∙ plain_write (as_state c.self.inside.map.entries) c.args.item.now.key None (record { block = 1; place = 0 })
    ∙ (λ i. write (plain_of (c.self.view_is i)) c.args.item.now.key (sym c.in-None.is i))
