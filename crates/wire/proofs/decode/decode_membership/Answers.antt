use Rattle.fab_types.specs.Spelling.{membership_bytes}
use Rattle.fab_types.specs.Within.{IsMembership}
use Rattle.wire.specs.Reading.{membership_at}
use Rattle.wire.proofs.MembershipLaws.{membership}
use Rattle.wire.proofs.Whole.{is_spelled, is_only, is_said}
use Rattle.wire.proofs.decode.decode_membership.Goals as goal

pub returns-clause-spelled : goal.returns-clause-spelled
returns-clause-spelled c = is_spelled IsMembership membership_bytes membership_at membership c.args.bytes.now c.whole.result c.whole.ensures.made

pub returns-clause-only : goal.returns-clause-only
returns-clause-only c = is_only IsMembership membership_bytes membership_at membership c.args.bytes.now c.whole.result c.whole.ensures.made

pub returns-clause-fault : goal.returns-clause-fault
returns-clause-fault c = is_said IsMembership membership_bytes membership_at membership c.args.bytes.now c.whole.result c.whole.ensures.told

pub returns-clause-read : goal.returns-clause-read
returns-clause-read c = c.whole.ensures.made
