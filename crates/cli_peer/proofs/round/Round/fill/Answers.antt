use Rattle.std.proofs.Common.{◌∙◌, Bool, subst, sym}
use Rattle.std.proofs.lemmas.Bool.{eqb-true}
use Rattle.cli_peer.specs.Input.{IsNext}
use Rattle.cli_peer.specs.Rounds.{IsFilled}
use Rattle.cli_peer.proofs.Rounds.{filled_behind, none_of, reads_none, some_of}
use Rattle.cli_peer.proofs.round.Round.fill.Goals as goal

pub returns-in_ok-read-clause-filled : goal.returns-in_ok-read-clause-filled
returns-in_ok-read-clause-filled g c =
    let old = c.args.self.now.lines.items in
    let new = c.read.new.self.lines.items in
    let before = c.args.lines.now in
    let mid = c.next_line.new.lines in
    let after = c.read.new.lines in
    let len = c.args.self.now.lines.len in
    let none = none_of old len c.args.self.now.lines.ok.0 (eqb-true len 0 (sym c.is_empty.ensures ∙ c.if-not-is_empty.false)) in
    let next = subst (λ (b : Bool). IsNext b before mid) c.if-there.true c.in_ok-there.ensures.next in
    subst (λ (b : Bool). IsFilled b old before.left new after.left) (sym c.if-there.true)
    (filled_behind old new before mid after none next c.in_ok-read.ensures.lines)

pub returns-then-not-is_empty-clause-filled : goal.returns-then-not-is_empty-clause-filled
returns-then-not-is_empty-clause-filled g c =
    let old = c.args.self.now.lines in
    (some_of old.items old.len old.ok.0 (sym c.is_empty.ensures ∙ c.if-not-is_empty.true), reads_none old.items c.args.lines.now.left)
