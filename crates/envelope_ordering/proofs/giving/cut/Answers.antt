use Rattle.std.proofs.Common.{◌≢◌, ◌∙◌, true≢false, refl, sym}
use Rattle.std.specs.Option.{option_to_list}
use Rattle.batch_cutter.specs.Division.{timeout}
use Rattle.orderer.specs.declared.report.OrderCause.TheVariants.{Memory}
use Rattle.envelope_ordering.proofs.Ordered.{one_timeout, no_timeout, longer, as_long}
use Rattle.envelope_ordering.proofs.giving.cut.Goals.{in-Memory, in_default}
use Rattle.envelope_ordering.proofs.giving.cut.Goals as goal

pub returns-in-Ok-clause-cut : goal.returns-in-Ok-clause-cut
returns-in-Ok-clause-cut c = λ given missing h.
    let old = c.args.orderer.now in
    let new = c.tick.new.self in
    let takes = c.in-Ok.ensures.taken in
    one_timeout given old new missing missing
    (λ marks was. c.ordering_laws.ensures.step marks old new timeout (option_to_list c.in-Ok.report) was takes) takes.edition takes.limits takes.reorder refl h

pub returns-in-Ok-clause-longer : goal.returns-in-Ok-clause-longer
returns-in-Ok-clause-longer c = longer c.args.orderer.now timeout (option_to_list c.in-Ok.report) c.tick.new.self c.in-Ok.ensures.taken

pub returns-then-matches-clause-longer : goal.returns-then-matches-clause-longer
returns-then-matches-clause-longer c = as_long c.args.orderer.now c.tick.new.self c.in-Err.ensures.unchanged

pub returns-else-matches-clause-cut : goal.returns-else-matches-clause-cut
returns-else-matches-clause-cut c = λ given missing h.
    let other : c.in-Err.refusal.cause ≢ Memory =
    elim c.match-matches.branch [ in-Memory w ↦ absurd (true≢false (sym w.matches-is ∙ c.if-matches.false)) | in_default w ↦ w.in_default.not-Memory ]
    in
    no_timeout given c.args.orderer.now c.tick.new.self missing missing c.in-Err.refusal.cause c.in-Err.ensures.unchanged refl c.in-Err.ensures.refused other h

pub returns-else-matches-clause-longer : goal.returns-else-matches-clause-longer
returns-else-matches-clause-longer c = as_long c.args.orderer.now c.tick.new.self c.in-Err.ensures.unchanged
