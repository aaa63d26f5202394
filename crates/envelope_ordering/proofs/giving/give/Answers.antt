use Rattle.std.proofs.Common.{◌≢◌, ◌∙◌, true≢false, refl, sym}
use Rattle.batch_cutter.specs.Division.{message}
use Rattle.orderer.specs.declared.report.OrderCause.TheVariants.{Memory}
use Rattle.envelope_ordering.proofs.Ordered.{one_taken, one_refused, longer, as_long}
use Rattle.envelope_ordering.proofs.giving.give.Goals.{in-Memory, in_default}
use Rattle.envelope_ordering.proofs.giving.give.Goals as goal

pub returns-in-Ok-clause-ordered : goal.returns-in-Ok-clause-ordered
returns-in-Ok-clause-ordered c = λ given h.
    let old = c.args.orderer.now in
    let new = c.accept.new.self in
    let mark = message c.args.envelope in
    let missing = c.args.missing.now in
    let takes = c.in-Ok.ensures.taken in
    one_taken given c.args.envelope old new missing missing
    (λ marks was. c.ordering_laws.ensures.step marks old new mark c.in-Ok.reports.items was takes) takes.edition takes.limits takes.reorder refl
    c.in-Ok.ensures.size h

pub returns-in-Ok-clause-longer : goal.returns-in-Ok-clause-longer
returns-in-Ok-clause-longer c =
    longer c.args.orderer.now (message c.args.envelope) c.in-Ok.reports.items c.accept.new.self c.in-Ok.ensures.taken

pub returns-then-matches-clause-longer : goal.returns-then-matches-clause-longer
returns-then-matches-clause-longer c = as_long c.args.orderer.now c.accept.new.self c.in-Err.ensures.unchanged

pub returns-else-matches-clause-ordered : goal.returns-else-matches-clause-ordered
returns-else-matches-clause-ordered c = λ given h.
    let other : c.in-Err.refusal.cause ≢ Memory =
    elim c.match-matches.branch [ in-Memory w ↦ absurd (true≢false (sym w.matches-is ∙ c.if-matches.false)) | in_default w ↦ w.in_default.not-Memory ]
    in
    one_refused given c.args.envelope c.args.orderer.now c.accept.new.self c.args.missing.now c.saturating_add-count.result c.in-Err.refusal.cause
    c.in-Err.ensures.unchanged c.saturating_add-count.ensures c.in-Err.ensures.refused other h

pub returns-else-matches-clause-longer : goal.returns-else-matches-clause-longer
returns-else-matches-clause-longer c = as_long c.args.orderer.now c.accept.new.self c.in-Err.ensures.unchanged
