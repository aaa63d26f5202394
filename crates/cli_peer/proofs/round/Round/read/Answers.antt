use Rattle.std.proofs.Common.{◌≡◌, ◌∙◌, ℕ, List, [], ◌∷◌, ◌++◌, ap, refl, subst, sym}
use Rattle.std.specs.Global.{Vec}
use Rattle.cli_peer.specs.Input.{Input}
use Rattle.cli_peer.specs.Rounds.{ReadsBehind}
use Rattle.cli_peer.proofs.Rounds.{reads_first, reads_more, taken_none, taken_some}
use Rattle.cli_peer.proofs.round.Round.read.Goals as goal

pub loop-init : goal.loop-init
loop-init g c =
    let first = c.take_last.result in
    let is : c.push_back.new.self.items ≡ first ∷ [] =
    c.in_ok-push_back.ensures.items ∙ ap (λ (ls : List (Vec ℕ)). ls ++ first ∷ []) c.new.ensures.items in
    record {
      lines = (
        first,
        c.take_last.ensures.line,
        reads_first first c.push_back.new.self.items c.args.lines.now.left c.take_last.new.self.left is c.take_last.ensures.left,
      );
      answers = refl;
    }

pub returns-in_default-clause-lines : goal.returns-in_default-clause-lines
returns-in_default-clause-lines g c =
    let same = taken_none c.in_ok-line.field-0 c.loop.lines c.take_at_hand.new.self c.in_ok-line.ensures c.in_default.is in
    subst (λ (i : Input). ReadsBehind c.args.lines.now.last c.args.lines.now.left c.loop.self.lines.items i.left) (sym same) c.loop.invariant.lines

pub loop-preserved : goal.loop-preserved
loop-preserved g c =
    let so_far = c.loop.invariant.lines in
    let l = c.in-Some.line in
    let taken = taken_some c.in_ok-line.field-0 l c.loop.lines c.take_at_hand.new.self c.in_ok-line.ensures c.in-Some.is in
    record {
      lines = (
        so_far.0,
        so_far.1,
        reads_more (so_far.0 ∷ []) c.loop.self.lines.items c.push_back-in-loop.new.self.items c.args.lines.now.left c.loop.lines.left
            c.take_at_hand.new.self.left l so_far.2 taken.0 taken.1 c.in_ok-push_back-2.ensures.items,
      );
      answers = c.loop.invariant.answers;
    }
