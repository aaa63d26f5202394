use Rattle.std.proofs.Common.{rules, ◌≡◌, ◌∷◌}
use Rattle.store_replay.specs.Tags.{orgs_at}
use Rattle.store_replay.proofs.RightTags.{of_rest}
use Rattle.store_replay.proofs.pending.Pending.next.Goals as goal

pub returns-clause-known : goal.returns-clause-known
returns-clause-known g c =
    let right = c.pop_front-2.new.self in
    let steps : c.look_ahead.new.self.records.items ≡ c.in_ok-stored.stored ∷ c.pop_front.new.self.items = search rules in
    of_rest (orgs_at c.args.rules.now c.look_ahead.new.self.value) c.look_ahead.new.self.right.items right.items c.in_ok-stored.stored
    c.look_ahead.new.self.records.items c.pop_front.new.self.items c.look_ahead.ensures.known steps right.len _ _ c.pop_front-2.result
    c.pop_front-2.ensures.items right.ok.0 c.pop_front-2.ensures.cases
