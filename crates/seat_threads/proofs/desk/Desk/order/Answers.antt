use Rattle.std.proofs.Common.{ℕ, [], ◌∷◌, ◌++◌, ◌∙◌, sym, subst}
use Rattle.std.specs.Arc.{arc_value}
use Rattle.orderer.specs.Ordering.{Ordering}
use Rattle.envelope_ordering.specs.Given.{WasGiven}
use Rattle.peer_node.specs.Writers.{published_chain, rules_of}
use Rattle.seat_threads.proofs.Chaining.{grows}
use Rattle.seat_threads.proofs.desk.Desk.order.Goals as goal

pub commit_new-requires-after_bounds : goal.commit_new-requires-after_bounds
commit_new-requires-after_bounds g c κs within =
    let desk = c.args.self.now in
    grows (arc_value (rules_of desk.writer)) desk.orderer.chain c.give.new.orderer.chain (published_chain desk.writer) c.requires.0 c.give.ensures.longer

pub returns-in-Ok-clause-same : goal.returns-in-Ok-clause-same
returns-in-Ok-clause-same g c =
    let same = c.commit_new.ensures.same in
    (same.0, same.1, same.2 ∙ c.give.ensures.same.1, same.3 ∙ c.give.ensures.same.2, same.4, same.5 ∙ c.give.ensures.same.0)

pub returns-in-Ok-clause-ordered : goal.returns-in-Ok-clause-ordered
returns-in-Ok-clause-ordered g c = λ given h fed.
    let now = c.commit_new.new.self in
    let kept = c.commit_new.ensures.kept in
    let more = given ++ c.args.envelope ∷ [] in
    let ordered = c.in-Ok.ensures.ordered given (h (c.commit_new.ensures.starved fed)) in
    subst (λ (o : Ordering). WasGiven more o now.missing) (sym kept.1)
    (subst (λ (n : ℕ). WasGiven more c.give.new.orderer n) (sym kept.2) ordered)
