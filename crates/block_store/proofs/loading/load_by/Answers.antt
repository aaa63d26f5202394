use Rattle.std.proofs.Common.{◌<◌, length, take, rules, arith}
use Rattle.std.proofs.lemmas.List.{length-take}
use Rattle.block_store.proofs.Reading.{left_falls, more_read, no_more_read, all_read, device_failed, holds_at_end, failed_holds, damage_holds_nothing}
use Rattle.block_store.specs.declared.end.End.TheVariants.{DeviceFailed}
use Rattle.block_store.proofs.Left.{store_of, took_more, took_no_more}
use Rattle.block_store.proofs.loading.load_by.Goals as goal

pub returns-in-Err-clause-loaded : goal.returns-in-Err-clause-loaded
returns-in-Err-clause-loaded g c =
    device_failed (g.R.CountedRead.taken c.args.reader.now) (g.R.CountedRead.taken c.pieces.reader) (g.R.CountedRead.taken c.read.new.self)
    c.pieces.blocks.items c.pieces.records c.pieces.invariant.taken c.pieces.invariant.goes_on c.in-Err.ensures.once.0

pub returns-in-Ok-eq0-clause-loaded : goal.returns-in-Ok-eq0-clause-loaded
returns-in-Ok-eq0-clause-loaded g c =
    let taken = g.R.CountedRead.taken in
    let h = no_more_read (taken c.args.reader.now) (taken c.pieces.reader) (taken c.read.new.self) c.read.new.buffer c.pieces.blocks.items c.pieces.records
    c.pieces.invariant.taken c.in-Ok-eq0.field-0 (omega (arith, c.in-Ok-eq0.field-0-test)) c.in-Ok-eq0.ensures.once.1 in
    all_read (taken c.args.reader.now) (taken c.read.new.self) c.pieces.blocks.items c.pieces.records c.finish-end.result h c.finish-end.ensures

pub returns-then-is_damaged-clause-loaded : goal.returns-then-is_damaged-clause-loaded
returns-then-is_damaged-clause-loaded g c =
    let taken = g.R.CountedRead.taken in
    let piece = take c.in-Ok.count c.read.new.buffer in
    let fed = c.in_ok-more-in-Ok.ensures.fed in
    let h = more_read (taken c.args.reader.now) (taken c.pieces.reader) (taken c.read.new.self) piece c.pieces.blocks.items c.in_ok-more-in-Ok.more.items
    c.append.new.self.items c.pieces.records c.feed.new.self c.pieces.invariant.taken c.pieces.invariant.goes_on c.in-Ok.ensures.once.1 fed
    c.in_ok-append-in-Ok.ensures.items in
    all_read (taken c.args.reader.now) (taken c.read.new.self) c.append.new.self.items c.feed.new.self c.finish-end-then-is_damaged.result h
    c.finish-end-then-is_damaged.ensures

pub returns-in-Err-clause-held : goal.returns-in-Err-clause-held
returns-in-Err-clause-held g c =
    failed_holds (g.R.CountedRead.taken c.args.reader.now) (g.R.CountedRead.taken c.pieces.reader) (g.R.CountedRead.taken c.read.new.self)
    c.pieces.blocks.items c.pieces.records _ c.pieces.invariant.taken c.pieces.invariant.goes_on c.in-Err.ensures.once.0 (search rules)

pub returns-in-Ok-eq0-clause-held : goal.returns-in-Ok-eq0-clause-held
returns-in-Ok-eq0-clause-held g c =
    let taken = g.R.CountedRead.taken in
    let h = no_more_read (taken c.args.reader.now) (taken c.pieces.reader) (taken c.read.new.self) c.read.new.buffer c.pieces.blocks.items c.pieces.records
    c.pieces.invariant.taken c.in-Ok-eq0.field-0 (omega (arith, c.in-Ok-eq0.field-0-test)) c.in-Ok-eq0.ensures.once.1 in
    holds_at_end (taken c.args.reader.now) (taken c.read.new.self) c.pieces.blocks.items c.pieces.records c.finish-end.result _ h
    c.pieces.invariant.goes_on c.finish-end.ensures (search rules)

pub returns-then-is_damaged-clause-held : goal.returns-then-is_damaged-clause-held
returns-then-is_damaged-clause-held g c =
    let taken = g.R.CountedRead.taken in
    let piece = take c.in-Ok.count c.read.new.buffer in
    let fed = c.in_ok-more-in-Ok.ensures.fed in
    let h = more_read (taken c.args.reader.now) (taken c.pieces.reader) (taken c.read.new.self) piece c.pieces.blocks.items c.in_ok-more-in-Ok.more.items
    c.append.new.self.items c.pieces.records c.feed.new.self c.pieces.invariant.taken c.pieces.invariant.goes_on c.in-Ok.ensures.once.1 fed
    c.in_ok-append-in-Ok.ensures.items in
    damage_holds_nothing (taken c.args.reader.now) (taken c.read.new.self) c.append.new.self.items c.feed.new.self c.finish-end-then-is_damaged.result _ h
    (search rules) c.finish-end-then-is_damaged.ensures (search rules)

pub returns-in-Err-clause-store : goal.returns-in-Err-clause-store
returns-in-Err-clause-store g c =
    let taken = g.R.CountedRead.taken in
    let left = g.R.CountedRead.remaining in
    let took = took_no_more (taken c.args.reader.now) (taken c.pieces.reader) (taken c.read.new.self) (left c.args.reader.now) (left c.pieces.reader)
    (left c.read.new.self) c.pieces.invariant.took c.in-Err.ensures.once.0 c.in-Err.ensures.known in
    store_of (taken c.args.reader.now) (taken c.read.new.self) (left c.args.reader.now) (left c.read.new.self) c.pieces.blocks.items DeviceFailed took
    (returns-in-Err-clause-loaded g c) tt

pub returns-in-Ok-eq0-clause-store : goal.returns-in-Ok-eq0-clause-store
returns-in-Ok-eq0-clause-store g c =
    let taken = g.R.CountedRead.taken in
    let left = g.R.CountedRead.remaining in
    let took = took_more (taken c.args.reader.now) (taken c.pieces.reader) (taken c.read.new.self) (take c.in-Ok-eq0.field-0 c.read.new.buffer)
    (left c.args.reader.now) (left c.pieces.reader) (left c.read.new.self) c.pieces.invariant.took c.in-Ok-eq0.ensures.once.1 c.in-Ok-eq0.ensures.known.0 in
    store_of (taken c.args.reader.now) (taken c.read.new.self) (left c.args.reader.now) (left c.read.new.self) c.pieces.blocks.items c.finish-end.result took
    (returns-in-Ok-eq0-clause-loaded g c) (search rules)

pub returns-then-is_damaged-clause-store : goal.returns-then-is_damaged-clause-store
returns-then-is_damaged-clause-store g c =
    let taken = g.R.CountedRead.taken in
    let left = g.R.CountedRead.remaining in
    let took = took_more (taken c.args.reader.now) (taken c.pieces.reader) (taken c.read.new.self) (take c.in-Ok.count c.read.new.buffer)
    (left c.args.reader.now) (left c.pieces.reader) (left c.read.new.self) c.pieces.invariant.took c.in-Ok.ensures.once.1 c.in-Ok.ensures.known.0 in
    store_of (taken c.args.reader.now) (taken c.read.new.self) (left c.args.reader.now) (left c.read.new.self) c.append.new.self.items
    c.finish-end-then-is_damaged.result took (returns-then-is_damaged-clause-loaded g c) (search rules)

pub pieces-smaller : goal.pieces-smaller
pieces-smaller g c =
    let piece = take c.in-Ok.count c.read.new.buffer in
    let fed = c.in_ok-more-in-Ok.ensures.fed in
    let limits = c.in_ok-more-in-Ok.ensures in
    let within = c.in-Ok.ensures.once.0 in
    let some : 0 < length piece = omega (arith, within, c.in-Ok.count-test, length-take c.in-Ok.count c.read.new.buffer) in
    left_falls c.pieces.records piece c.in_ok-more-in-Ok.more.items c.feed.new.self c.pieces.invariant.goes_on (search rules) fed c.pieces.invariant.next
    c.pieces.invariant.held limits.next limits.held some

pub pieces-preserved : goal.pieces-preserved
pieces-preserved g c =
    let taken = g.R.CountedRead.taken in
    let left = g.R.CountedRead.remaining in
    let piece = take c.in-Ok.count c.read.new.buffer in
    let fed = c.in_ok-more-in-Ok.ensures.fed in
    record {
      taken = more_read (taken c.args.reader.now) (taken c.pieces.reader) (taken c.read.new.self) piece c.pieces.blocks.items c.in_ok-more-in-Ok.more.items
          c.append.new.self.items c.pieces.records c.feed.new.self c.pieces.invariant.taken c.pieces.invariant.goes_on c.in-Ok.ensures.once.1 fed
          c.in_ok-append-in-Ok.ensures.items;
      took = took_more (taken c.args.reader.now) (taken c.pieces.reader) (taken c.read.new.self) piece (left c.args.reader.now) (left c.pieces.reader)
          (left c.read.new.self) c.pieces.invariant.took c.in-Ok.ensures.once.1 c.in-Ok.ensures.known.0;
      failures = search rules;
      goes_on = search rules;
      next = c.in_ok-more-in-Ok.ensures.next;
      held = c.in_ok-more-in-Ok.ensures.held;
    }
