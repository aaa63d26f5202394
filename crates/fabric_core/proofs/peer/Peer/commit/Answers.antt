use Rattle.std.proofs.Common.{◌∙◌}
use Rattle.ledger_setting.specs.Rule.{table_of}
use Rattle.fabric_core.proofs.Steps.{put_on, put_reply}
use Rattle.fabric_core.proofs.peer.Peer.commit.Goals as goal

pub returns-clause-reply : goal.returns-clause-reply
returns-clause-reply g c =
    put_reply (table_of c.args.rules.now) c.args.self.now.snapshot.value c.deref-newest.result.now c.in_ok-snapshot.snapshot c.args.block
    c.in-Ok.judged c.height-height.result c.new-flags.result c.deref-newest.ensures c.in-Ok.ensures.judged c.in_ok-snapshot.ensures
    c.height-height.ensures.value (c.new-flags.ensures ∙ c.in-Ok.ensures.flags)

pub returns-clause-chain : goal.returns-clause-chain
returns-clause-chain g c =
    c.in_ok-self.ensures.ok
    ∙ put_on (table_of c.args.rules.now) c.args.self.now.snapshot.value c.deref-newest.result.now c.in_ok-snapshot.snapshot c.args.block
    c.in-Ok.judged c.deref-newest.ensures c.in-Ok.ensures.judged c.in_ok-snapshot.ensures
