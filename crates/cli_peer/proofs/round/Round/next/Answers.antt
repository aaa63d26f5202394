use Rattle.std.proofs.Common.{◌≡◌, ◌∙◌, ◌∷◌, Bool, sym, subst}
use Rattle.cli_peer.specs.Input.{IsNext}
use Rattle.cli_peer.specs.Rounds.{IsFilled, input_of}
use Rattle.peer_answers.specs.Setting.{peer_of}
use Rattle.cli_peer.proofs.Rounds.{known_on, next_on, rest_on}
use Rattle.cli_peer.proofs.round.Round.next.Goals as goal

pub look_ahead-requires-clause-known : goal.look_ahead-requires-clause-known
look_ahead-requires-clause-known g c κs within =
    let old = c.args.self.now in
    let filled = subst (λ (b : Bool). IsFilled b old.lines.items c.args.lines.now.left c.fill.new.self.lines.items c.fill.new.lines.left) c.if-there.true
    c.in_ok-there.ensures.filled in
    known_on (peer_of g.B.Blocks.keeps c.args.answering.now) (g.B.Blocks.chain c.args.blocks.now) old.answers.items c.fill.new.self.answers.items old.lines.items c.fill.new.self.lines.items
    c.args.lines.now.left c.fill.new.lines.left c.requires.round.1 c.fill.ensures.answers filled.1

pub returns-then-there-clause-round : goal.returns-then-there-clause-round
returns-then-there-clause-round g c =
    let p = peer_of g.B.Blocks.keeps c.args.answering.now in
    let chain = g.B.Blocks.chain c.args.blocks.now in
    let old = c.args.self.now.lines.items in
    let mid = c.fill.new.self.lines.items in
    let before = c.args.lines.now.left in
    let after = c.fill.new.lines.left in
    let filled = subst (λ (b : Bool). IsFilled b old before mid after) c.if-there.true c.in_ok-there.ensures.filled in
    let l = c.step.new.self.line in
    let rest = c.step.new.self.lines.items in
    let steps : mid ≡ l ∷ rest = sym c.look_ahead.ensures.lines ∙ c.step.ensures.lines in
    (rest_on old mid rest before after l steps filled.1 c.requires.round.0, (c.step.ensures.known p chain c.look_ahead.ensures.known).1)

pub returns-then-there-clause-next : goal.returns-then-there-clause-next
returns-then-there-clause-next g c =
    let old = c.args.self.now.lines.items in
    let mid = c.fill.new.self.lines.items in
    let before = c.args.lines.now.left in
    let after = c.fill.new.lines.left in
    let filled = subst (λ (b : Bool). IsFilled b old before mid after) c.if-there.true c.in_ok-there.ensures.filled in
    let l = c.step.new.self.line in
    let rest = c.step.new.self.lines.items in
    let steps : mid ≡ l ∷ rest = sym c.look_ahead.ensures.lines ∙ c.step.ensures.lines in
    subst (λ (b : Bool). IsNext b (input_of c.args.self.now c.args.lines.now) (input_of c.step.new.self c.fill.new.lines)) (sym c.if-there.true)
    (next_on old mid rest before after l steps filled.1 c.requires.round.0)
