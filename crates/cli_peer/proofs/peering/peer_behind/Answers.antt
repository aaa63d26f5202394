use Rattle.std.proofs.Common.{length, refl, ◌∙◌}
use Rattle.cli_lines.proofs.Answering.{answers_behind}
use Rattle.log_peer.specs.Peering.{held_by}
use Rattle.cli_peer.specs.Opening.{ComesBehind, opened_text}
use Rattle.cli_peer.specs.Keeping.{TellsLines}
use Rattle.cli_peer.specs.Peering.{DoesLine, EndsLine, PeersLines}
use Rattle.cli_peer.specs.Running.{reached}
use Rattle.peer_answers.specs.Setting.{peer_of}
use Rattle.cli_peer.proofs.Filters.{none_begun, start_behind, start_front, tells_behind}
use Rattle.cli_peer.proofs.Keeping.{starts_old, starts_same, stores_none}
use Rattle.cli_peer.proofs.peering.peer_behind.Goals as goal

pub returns-clause-answers : goal.returns-clause-answers
returns-clause-answers g c =
    let p = peer_of g.D.StoreFile.is_known c.args.setting.now.answering in
    let old = reached c.args.reader.now in
    let chain = (held_by c.args.reader.now.peer).chain in
    let input = c.args.lines.now.left in
    let front = opened_text c.args.cut (length chain) in
    answers_behind (PeersLines p old input) (λ answer. ComesBehind chain c.args.cut (PeersLines p old input answer)) c.args.out.now c.print_opened.new.out
    c.peer_lines.new.out c.peer_lines.result front (rw c.height_of-height.ensures at c.in_ok-print_opened.ensures.prints) (λ text lines. (text, lines, refl))
    c.peer_lines.ensures.answers

pub returns-in_err-print_opened-clause-told : goal.returns-in_err-print_opened-clause-told
returns-in_err-print_opened-clause-told g c =
    let contents = g.D.Write.contents in
    let p = peer_of g.D.StoreFile.is_known c.args.setting.now.answering in
    let reader = c.args.reader.now in
    let chain = (held_by reader.peer).chain in
    let input = c.args.lines.now.left in
    start_front (opened_text c.args.cut (length chain)) (TellsLines contents p reader reader input) c.args.out.now c.print_opened.new.out
    (rw c.height_of-height.ensures at c.in_err-print_opened.ensures.part)
    (reached reader, none_begun (DoesLine p) (EndsLine p) (reached reader) input, starts_same contents reader.peer reader.peer (λ holds. holds))

pub returns-clause-told : goal.returns-clause-told
returns-clause-told g c =
    let contents = g.D.Write.contents in
    let p = peer_of g.D.StoreFile.is_known c.args.setting.now.answering in
    let old = c.args.reader.now in
    let new = c.peer_lines.new.reader in
    let chain = (held_by old.peer).chain in
    let input = c.args.lines.now.left in
    start_behind (opened_text c.args.cut (length chain)) (TellsLines contents p old new input) c.args.out.now c.print_opened.new.out c.peer_lines.new.out
    (rw c.height_of-height.ensures at c.in_ok-print_opened.ensures.prints)
    (reached old, none_begun (DoesLine p) (EndsLine p) (reached old) input, starts_old contents old.peer new.peer c.peer_lines.result c.peer_lines.ensures.stores)
    c.peer_lines.ensures.told

pub returns-clause-tells : goal.returns-clause-tells
returns-clause-tells g c =
    tells_behind c.args.out.now c.print_opened.new.out c.peer_lines.new.out c.peer_lines.result c.in_ok-print_opened.ensures.tells
    c.peer_lines.ensures.tells

pub returns-in_err-print_opened-clause-kept : goal.returns-in_err-print_opened-clause-kept
returns-in_err-print_opened-clause-kept g c = c.explain_cut.ensures.kept

pub returns-clause-kept : goal.returns-clause-kept
returns-clause-kept g c = c.peer_lines.ensures.kept ∙ c.remark_place.ensures.kept ∙ c.explain_cut.ensures.kept

pub returns-in_err-print_opened-clause-stores : goal.returns-in_err-print_opened-clause-stores
returns-in_err-print_opened-clause-stores g c = stores_none g.D.Write.contents c.args.reader.now.peer c.from_residual.result

pub returns-clause-stores : goal.returns-clause-stores
returns-clause-stores g c = c.peer_lines.ensures.stores

pub returns-clause-leads : goal.returns-clause-leads
returns-clause-leads g c = c.peer_lines.ensures.leads
