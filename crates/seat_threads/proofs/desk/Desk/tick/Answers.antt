use Rattle.std.proofs.Common.{ℕ, ◌∙◌, sym, subst}
use Rattle.std.specs.Arc.{arc_value}
use Rattle.orderer.specs.Ordering.{Ordering}
use Rattle.envelope_ordering.specs.Given.{WasCut}
use Rattle.peer_node.specs.Writers.{published_chain, rules_of}
use Rattle.seat_threads.proofs.Chaining.{grows}
use Rattle.seat_threads.proofs.desk.Desk.tick.Goals as goal

pub commit_new-requires-after_bounds : goal.commit_new-requires-after_bounds
commit_new-requires-after_bounds g c κs within =
    let desk = c.args.self.now in
    grows (arc_value (rules_of desk.writer)) desk.orderer.chain c.cut.new.orderer.chain (published_chain desk.writer) c.requires.0 c.cut.ensures.longer

pub returns-in-Ok-clause-same : goal.returns-in-Ok-clause-same
returns-in-Ok-clause-same g c =
    let same = c.commit_new.ensures.same in
    (same.0, same.1, same.2 ∙ c.cut.ensures.same.1, same.3 ∙ c.cut.ensures.same.2, same.4, same.5 ∙ c.cut.ensures.same.0)

pub returns-in-Ok-clause-cut : goal.returns-in-Ok-clause-cut
returns-in-Ok-clause-cut g c = λ given h fed.
    let desk = c.args.self.now in
    let now = c.commit_new.new.self in
    let kept = c.commit_new.ensures.kept in
    let cut = c.in-Ok.ensures.cut given desk.missing (h (c.commit_new.ensures.starved fed)) in
    subst (λ (o : Ordering). WasCut given o now.missing) (sym kept.1)
    (subst (λ (n : ℕ). WasCut given c.cut.new.orderer n) (sym kept.2) cut)
