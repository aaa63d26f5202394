use Rattle.std.proofs.Common.{rules, ◌≡◌, true, false, arith}
use Rattle.std.specs.Option.{is_some}
use Rattle.store_devices.specs.Places.{span_at}
use Rattle.log_peer.proofs.Opened.{are_few, are_many, ends_more, no_room}
use Rattle.log_peer.proofs.opening.push_size.Goals as goal

pub returns-then-is_some : goal.returns-then-is_some
returns-then-is_some c =
    let ends = c.args.places.now in
    let some : is_some (span_at ends 4000000000) ≡ true = search rules in
    λ before were is. absurd (no_room ends before c.args.committed.now (are_many ends 4000000000 some) were is)

pub push-requires-clause-few : goal.push-requires-clause-few
push-requires-clause-few c =
    let ends = c.args.places.now in
    let none : is_some (span_at ends 4000000000) ≡ false = search rules in
    are_few ends 4000000000 (omega arith) none

pub returns : goal.returns
returns c =
    λ before were is.
    ends_more before c.args.committed.now c.args.places.now c.push.new.self c.record_size.result were (c.record_size.ensures.value is.block.block)
    c.in_ok-push.ensures.pushed
