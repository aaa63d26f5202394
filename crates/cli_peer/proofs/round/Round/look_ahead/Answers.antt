use Rattle.std.proofs.Common.{List, Option, refl, subst, sym}
use Rattle.cli_peer.specs.Rounds.{AreKnown}
use Rattle.peer_answers.specs.Setting.{peer_of}
use Rattle.peer_answers.specs.declared.answer.Answer.{Answer}
use Rattle.cli_peer.proofs.Rounds.{known_run}
use Rattle.cli_peer.proofs.round.Round.look_ahead.Goals as goal

pub returns-in-Ok-clause-known : goal.returns-in-Ok-clause-known
returns-in-Ok-clause-known g c =
    let p = peer_of g.B.Blocks.keeps c.args.answering.now in
    let chain = g.B.Blocks.chain c.args.blocks.now in
    let all = c.args.self.now.lines.items in
    subst (λ (ks : List (Option Answer)). AreKnown p chain ks all) (sym c.from_vec.ensures.items)
    (known_run p chain _ c.as_slices.result.0.now c.as_slices.result.1.now all c.in-Ok.answers.items c.run_length.result refl c.as_slices.ensures.items
    c.in-Ok.ensures)
