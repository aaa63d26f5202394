use Rattle.std.proofs.Common.{◌≡◌, ◌+◌, List, length, ap, ◌∙◌, arith, string_bytes}
use Rattle.fab_types.specs.declared.block.Block.{Block}
use Rattle.ledger_model.specs.Chain.{Flag}
use Rattle.world_state.specs.Writing.{as_state, put_block}
use Rattle.cli_show.proofs.Behind.{on_ok}
use Rattle.cli_show.proofs.SoughtParts.{sought_next, sought_past, sought_writes}
use Rattle.cli_show.proofs.sought.SoughtBlockSink.take.Goals as goal

pub returns-then-self-number-clause-took : goal.returns-then-self-number-clause-took
returns-then-self-number-clause-took c = λ before was next.
    let self = c.args.self.now in
    let b = c.args.committed in
    let number = c.get-number.ensures.value ∙ ap (λ (x : Block). x.header.number) c.block.ensures in
    sought_past self.asked.part self.asked.at c.get-number.result self.state.entries (string_bytes self.writes) before b (number ∙ next) c.if-self-number.true was

pub returns-in-Writes-clause-took : goal.returns-in-Writes-clause-took
returns-in-Writes-clause-took c = λ before was next.
    let self = c.args.self.now in
    let b = c.args.committed in
    let n = c.get-number.result in
    let key = c.in-Writes.key.now in
    let text = string_bytes self.writes in
    let now = string_bytes c.push_writes.new.text in
    let number : n ≡ length before + 1 = c.get-number.ensures.value ∙ ap (λ (x : Block). x.header.number) c.block.ensures ∙ next in
    let w = rw c.in-Writes.is at was in
    rw c.in-Writes.is
    (on_ok c.push_writes.result _ _ (λ put. sought_writes self.asked.at n key text now before b number c.if-self-number.false w put) c.push_writes.ensures)

pub returns-clause-took : goal.returns-clause-took
returns-clause-took c = λ before was next.
    let self = c.args.self.now in
    let es = self.state.entries in
    let b = c.args.committed in
    let number : c.get-number.result ≡ b.block.header.number = c.get-number.ensures.value ∙ ap (λ (x : Block). x.header.number) c.block.ensures in
    on_ok c.apply_block.result _ _
    (λ put. sought_next self.asked.part self.asked.at b.block.header.number es c.apply_block.new.map.entries (string_bytes self.writes) before b
    c.in-Entries.is next (omega (arith, number, c.if-self-number.false)) was
    (put ∙ ap (λ (x : Block). put_block (as_state es) x.header.number 0 x.envelopes c.flags.result.now) c.block-in-Entries.ensures
    ∙ ap (λ (fs : List Flag). put_block (as_state es) b.block.header.number 0 b.block.envelopes fs) c.flags.ensures.value)) c.apply_block.ensures.map
