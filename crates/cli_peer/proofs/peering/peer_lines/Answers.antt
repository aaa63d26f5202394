use Rattle.std.proofs.Common.{◌∙◌, List, OnOk, Option, ap, subst}
use Rattle.std.specs.Global.{Vec}
use Rattle.std.specs.Prelude.{ℕ}
use Rattle.ledger_model.specs.Chain.{Bytes}
use Rattle.cli_lines.specs.Told.{Answers}
use Rattle.cli_peer.specs.Filters.{BeginsSo}
use Rattle.cli_peer.specs.Keeping.{LeadTo, TellsLines}
use Rattle.cli_peer.specs.Peering.{PeersLines}
use Rattle.cli_peer.specs.Rounds.{left_behind}
use Rattle.cli_peer.specs.Running.{reached}
use Rattle.peer_answers.specs.Setting.{peer_of}
use Rattle.cli_peer.proofs.Rounds.{left_none}
use Rattle.cli_peer.proofs.peering.peer_lines.Goals as goal

pub returns-clause-answers : goal.returns-clause-answers
returns-clause-answers g c =
    let p = peer_of g.D.StoreFile.is_known c.args.setting.now.answering in
    let input = c.args.lines.now.left in
    let left = ap (λ (ls : List (Vec ℕ)). left_behind ls input) c.new-round.ensures.lines ∙ left_none input in
    subst (λ (i : Option Bytes). Answers (PeersLines p (reached c.args.reader.now) i) c.args.out.now c.do_lines.new.out c.do_lines.result) left
    c.do_lines.ensures.answers

pub returns-clause-told : goal.returns-clause-told
returns-clause-told g c =
    let p = peer_of g.D.StoreFile.is_known c.args.setting.now.answering in
    let input = c.args.lines.now.left in
    let left = ap (λ (ls : List (Vec ℕ)). left_behind ls input) c.new-round.ensures.lines ∙ left_none input in
    subst (λ (i : Option Bytes). BeginsSo (TellsLines g.D.Write.contents p c.args.reader.now c.do_lines.new.reader i) c.args.out.now c.do_lines.new.out) left
    c.do_lines.ensures.told

pub returns-clause-leads : goal.returns-clause-leads
returns-clause-leads g c =
    let p = peer_of g.D.StoreFile.is_known c.args.setting.now.answering in
    let input = c.args.lines.now.left in
    let left = ap (λ (ls : List (Vec ℕ)). left_behind ls input) c.new-round.ensures.lines ∙ left_none input in
    subst (λ (i : Option Bytes). OnOk c.do_lines.result (LeadTo p (reached c.args.reader.now) i (reached c.do_lines.new.reader))) left
    c.do_lines.ensures.leads

pub returns-clause-stores : goal.returns-clause-stores
returns-clause-stores g c = c.do_lines.ensures.stores
