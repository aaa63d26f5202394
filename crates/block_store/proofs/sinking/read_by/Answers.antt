use Rattle.std.proofs.Common.{◌<◌, ◌++◌, ◌∙◌, length, take, refl, rules, arith}
use Rattle.std.proofs.lemmas.List.{length-take}
use Rattle.block_store.proofs.Reading.{left_falls, more_read, no_more_read, all_read, device_failed, holds_at_end, failed_holds, damage_holds_nothing}
use Rattle.block_store.specs.declared.end.End.TheVariants.{DeviceFailed}
use Rattle.block_store.proofs.Left.{store_of, took_more, took_no_more}
use Rattle.block_store.proofs.sinking.read_by.Goals as goal

pub returns-in-Err-clause-took : goal.returns-in-Err-clause-took
returns-in-Err-clause-took g c =
    let taken = g.R.CountedRead.taken in
    let left = g.R.CountedRead.remaining in
    let inv = c.pieces.invariant in
    let loaded = device_failed (taken c.args.reader.now) (taken c.pieces.reader) (taken c.read.new.self) inv.cs c.pieces.records inv.taken inv.goes_on
    c.in-Err.ensures.once.0 in
    let held = failed_holds (taken c.args.reader.now) (taken c.pieces.reader) (taken c.read.new.self) inv.cs c.pieces.records _ inv.taken inv.goes_on
    c.in-Err.ensures.once.0 (search rules) in
    let took = took_no_more (taken c.args.reader.now) (taken c.pieces.reader) (taken c.read.new.self) (left c.args.reader.now) (left c.pieces.reader)
    (left c.read.new.self) inv.took c.in-Err.ensures.once.0 c.in-Err.ensures.known in (
      inv.cs,
      inv.took_in,
      loaded,
      held,
      store_of (taken c.args.reader.now) (taken c.read.new.self) (left c.args.reader.now) (left c.read.new.self) inv.cs DeviceFailed took loaded tt,
    )

pub returns-in-Ok-eq0-clause-took : goal.returns-in-Ok-eq0-clause-took
returns-in-Ok-eq0-clause-took g c =
    let taken = g.R.CountedRead.taken in
    let left = g.R.CountedRead.remaining in
    let inv = c.pieces.invariant in
    let h = no_more_read (taken c.args.reader.now) (taken c.pieces.reader) (taken c.read.new.self) c.read.new.buffer inv.cs c.pieces.records
    inv.taken c.in-Ok-eq0.field-0 (omega (arith, c.in-Ok-eq0.field-0-test)) c.in-Ok-eq0.ensures.once.1 in
    let loaded = all_read (taken c.args.reader.now) (taken c.read.new.self) inv.cs c.pieces.records c.finish-end.result h c.finish-end.ensures in
    let held = holds_at_end (taken c.args.reader.now) (taken c.read.new.self) inv.cs c.pieces.records c.finish-end.result _ h
    inv.goes_on c.finish-end.ensures (search rules) in
    let took = took_more (taken c.args.reader.now) (taken c.pieces.reader) (taken c.read.new.self) (take c.in-Ok-eq0.field-0 c.read.new.buffer)
    (left c.args.reader.now) (left c.pieces.reader) (left c.read.new.self) inv.took c.in-Ok-eq0.ensures.once.1 c.in-Ok-eq0.ensures.known.0 in (
      inv.cs,
      inv.took_in,
      loaded,
      held,
      store_of (taken c.args.reader.now) (taken c.read.new.self) (left c.args.reader.now) (left c.read.new.self) inv.cs c.finish-end.result took loaded
          (search rules),
    )

pub returns-then-is_damaged-clause-took : goal.returns-then-is_damaged-clause-took
returns-then-is_damaged-clause-took g c =
    let taken = g.R.CountedRead.taken in
    let left = g.R.CountedRead.remaining in
    let inv = c.pieces.invariant in
    let piece = take c.in-Ok.count c.read.new.buffer in
    let fed = c.in_ok-more-in-Ok.ensures.fed in
    let more = c.in_ok-more-in-Ok.more.items in
    let all = inv.cs ++ more in
    let h = more_read (taken c.args.reader.now) (taken c.pieces.reader) (taken c.read.new.self) piece inv.cs more all c.pieces.records c.feed.new.self
    inv.taken inv.goes_on c.in-Ok.ensures.once.1 fed refl in
    let end = c.finish-end-then-is_damaged.result in
    let loaded = all_read (taken c.args.reader.now) (taken c.read.new.self) all c.feed.new.self end h c.finish-end-then-is_damaged.ensures in
    let took = took_more (taken c.args.reader.now) (taken c.pieces.reader) (taken c.read.new.self) piece (left c.args.reader.now) (left c.pieces.reader)
    (left c.read.new.self) inv.took c.in-Ok.ensures.once.1 c.in-Ok.ensures.known.0 in (
      all,
      c.in_ok-take-in-Ok.ensures.took inv.cs inv.took_in,
      loaded,
      damage_holds_nothing (taken c.args.reader.now) (taken c.read.new.self) all c.feed.new.self end _ h (search rules)
          c.finish-end-then-is_damaged.ensures (search rules),
      store_of (taken c.args.reader.now) (taken c.read.new.self) (left c.args.reader.now) (left c.read.new.self) all end took loaded (search rules),
    )

pub take-requires : goal.take-requires
take-requires g c = (c.pieces.invariant.cs, c.pieces.invariant.took_in)

pub pieces-smaller : goal.pieces-smaller
pieces-smaller g c =
    let piece = take c.in-Ok.count c.read.new.buffer in
    let fed = c.in_ok-more-in-Ok.ensures.fed in
    let limits = c.in_ok-more-in-Ok.ensures in
    let within = c.in-Ok.ensures.once.0 in
    let some : 0 < length piece = omega (arith, within, c.in-Ok.count-test, length-take c.in-Ok.count c.read.new.buffer) in
    left_falls c.pieces.records piece c.in_ok-more-in-Ok.more.items c.feed.new.self c.pieces.invariant.goes_on (search rules) fed c.pieces.invariant.next
    c.pieces.invariant.held limits.next limits.held some

pub pieces-preserved : goal.pieces-preserved
pieces-preserved g c =
    let taken = g.R.CountedRead.taken in
    let left = g.R.CountedRead.remaining in
    let inv = c.pieces.invariant in
    let piece = take c.in-Ok.count c.read.new.buffer in
    let fed = c.in_ok-more-in-Ok.ensures.fed in
    let more = c.in_ok-more-in-Ok.more.items in
    record {
      cs = inv.cs ++ more;
      took_in = c.in_ok-take-in-Ok.ensures.took inv.cs inv.took_in;
      context = c.in_ok-take-in-Ok.ensures.context ∙ inv.context;
      taken = more_read (taken c.args.reader.now) (taken c.pieces.reader) (taken c.read.new.self) piece inv.cs more
          (inv.cs ++ more) c.pieces.records c.feed.new.self inv.taken inv.goes_on c.in-Ok.ensures.once.1 fed refl;
      took = took_more (taken c.args.reader.now) (taken c.pieces.reader) (taken c.read.new.self) piece (left c.args.reader.now) (left c.pieces.reader)
          (left c.read.new.self) inv.took c.in-Ok.ensures.once.1 c.in-Ok.ensures.known.0;
      failures = search rules;
      goes_on = search rules;
      next = c.in_ok-more-in-Ok.ensures.next;
      held = c.in_ok-more-in-Ok.ensures.held;
    }
