use Rattle.std.proofs.Common.{◌≡◌, [], sym, length, ◌≤◌, take, drop, ◌-◌, rules, subst}
use Rattle.orderer.specs.Blocks.{from_number}
use Rattle.orderer.proofs.Linking.{linked_numbered}
use Rattle.orderer.proofs.Numbering.{none_from, rest_from}
use Rattle.orderer.proofs.orderer.Orderer.blocks_from.Goals as goal

pub returns-then-start-blocks : goal.returns-then-start-blocks
returns-then-start-blocks c =
    let start = c.saturating_sub-start.result in
    let blocks = c.self.inside.blocks.items in
    let past : length blocks ≤ start = search rules in
    rw (← c.self.view_is, ← c.self.invariant.0) (none_from c.args.number start blocks (linked_numbered [] blocks c.self.invariant.2) c.saturating_sub-start.ensures past)

pub returns : goal.returns
returns c =
    let start = c.saturating_sub-start.result in
    let blocks = c.self.inside.blocks.items in
    let same : c.as_slice-blocks.result.now ≡ blocks = search rules in
    rw (← c.self.view_is, ← c.self.invariant.0)
    (subst (λ bs. take (length bs - start) (drop start bs) ≡ from_number c.args.number blocks) (sym same)
    (rest_from c.args.number start blocks (linked_numbered [] blocks c.self.invariant.2) c.saturating_sub-start.ensures))
