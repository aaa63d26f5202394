use Rattle.std.proofs.Common.{◌∙◌}
use Rattle.log_peer.proofs.Opened.{ends_all, ends_next, ends_none}
use Rattle.log_peer.proofs.opening.push_sizes.Goals as goal

pub records-init : goal.records-init
records-init c = λ before were are. ends_none before c.args.records.now were are

pub records-preserved : goal.records-preserved
records-preserved c =
    λ before were are.
    ends_next c.records.places c.push_size.new.places before c.args.records.now c.records.committed-index c.committed-item.result
    c.records-test.true c.committed-item.is are (c.records.invariant before were are) c.in_ok-push_size.ensures

pub returns : goal.returns
returns c =
    λ before were are. c.records.invariant before were are ∙ ends_all before c.args.records.now c.records.committed-index c.records-test.false
