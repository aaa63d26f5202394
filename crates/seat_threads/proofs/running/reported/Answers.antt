use Rattle.std.proofs.Common.{◌≡◌, ◌∙◌, [], sym, subst}
use Rattle.std.specs.Arc.{arc_value}
use Rattle.ledger_model.specs.Chain.{Chain, history}
use Rattle.ledger_model.specs.Judged.{AreFlagsBy}
use Rattle.ledger_model.specs.Serial.{AllHandedOut}
use Rattle.ledger_model.proofs.Judged.{flags_judged}
use Rattle.simulator.specs.Execution.{exec_of}
use Rattle.ledger_setting.specs.Rule.{table_of}
use Rattle.ledger_setting.specs.declared.verdict.Audit.TheVariants.{Agrees}
use Rattle.fabric_core.specs.Audit.{valid_count}
use Rattle.seat_threads.proofs.Chaining.{whole_chain}
use Rattle.seat_threads.proofs.running.reported.Goals as goal

pub returns-clause-honest : goal.returns-clause-honest
returns-clause-honest c = λ chain is rules handed.
    let desk = c.args.desk.now in
    let rule = table_of (arc_value c.args.genesis.now.rules) in
    let published = whole_chain (arc_value c.args.genesis.now.rules) desk rules c.requires c.if-desk.false in
    let shown : c.newest.result.now ≡ chain = c.newest.ensures ∙ (published ∙ sym is) in
    let flags = subst (λ (k : Chain). AreFlagsBy rule [] k) (sym is) (flags_judged rule desk.orderer.chain) in
    let honest = subst
    (λ (k : Chain). AreFlagsBy rule [] k → AllHandedOut (exec_of (arc_value c.args.genesis.now.book)) k (history k) →
    c.in_ok-audit.audit ≡ Agrees (valid_count (history k))) shown c.in_ok-audit.ensures.honest in
    honest flags handed
