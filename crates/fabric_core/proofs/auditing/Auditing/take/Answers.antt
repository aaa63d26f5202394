use Rattle.std.proofs.Common.{rules, arith, ◌≡◌, ◌≢◌, None, ap, ◌∙◌}
use Rattle.host_api.specs.Plain.{plain_of}
use Rattle.simulator.specs.Execution.{exec_of}
use Rattle.fabric_core.proofs.Audits.{block_audited, found_before}
use Rattle.fabric_core.proofs.auditing.Auditing.take.Goals as goal

pub audit_block-requires-clause-count : goal.audit_block-requires-clause-count
audit_block-requires-clause-count c =
    let number = c.get-number.ensures.value ∙ ap (λ b. b.header.number) c.block.ensures in
    omega (arith, c.requires.1.few, c.requires.2, number)

pub returns-in_ok-found : goal.returns-in_ok-found
returns-in_ok-found c = λ chain was next.
    let exec = exec_of c.args.book.now in
    let old = c.args.self.now in
    let new = c.audit_block.new.run in
    let none : old.found ≡ None = search rules in
    let number = c.get-number.ensures.value ∙ ap (λ b. b.header.number) c.block.ensures in
    block_audited exec (plain_of old.run.state) (plain_of new.state) old.run.reruns new.reruns c.get-number.result old.found c.in_ok-found.found chain
    c.args.committed.now none was (number ∙ next) c.in_ok-found.ensures.found c.in_ok-found.ensures.count

pub returns-else-is_none : goal.returns-else-is_none
returns-else-is_none c = λ chain was next.
    let old = c.args.self.now in
    let some : old.found ≢ None = search rules in
    found_before (exec_of c.args.book.now) (plain_of old.run.state) old.run.reruns old.found chain c.args.committed.now some was
