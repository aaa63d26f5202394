use Rattle.std.proofs.Common.{◌≡◌, ◌∙◌, Option, Some, None, ap, inl, refl, subst}
use Rattle.std.specs.Str.Lossy.{utf8_lossy}
use Rattle.cli_lines.specs.Told.{Answers}
use Rattle.cli_lines.proofs.Printing.{nothing_same, printed_on_ok, prints_none}
use Rattle.log_peer.specs.Peering.{held_by}
use Rattle.cli_peer.specs.Filters.{ComesTo, DoesOrEnds}
use Rattle.cli_peer.specs.Keeping.{HoldsChain, TellsLine}
use Rattle.peer_answers.specs.Lines.{Asks, Logs, Said, said_in}
use Rattle.cli_peer.specs.Peering.{DoesAsked, DoesSaid, EndsSaid, bad_text}
use Rattle.cli_peer.specs.Running.{reached}
use Rattle.peer_answers.specs.Setting.{peer_of}
use Rattle.cli_peer.proofs.Filters.{done_by, done_so, so_behind, start_so, start_text}
use Rattle.cli_peer.proofs.Keeping.{stores_none}
use Rattle.cli_peer.proofs.Rounds.{round_forgotten}
use Rattle.cli_peer.proofs.peering.take_line.Goals as goal

pub returns-in-Some-Log-clause-does : goal.returns-in-Some-Log-clause-does
returns-in-Some-Log-clause-does g c =
    let p = peer_of g.D.StoreFile.is_known c.args.setting.now.answering in
    let l = c.args.round.now.line.items in
    let n = c.args.number in
    let old = reached c.args.reader.now in
    let new = reached c.take_entry.new.reader in
    let entry = c.in-Some-Log.entry in
    let says : Some (Logs entry.index.now entry.text.now) ≡ said_in (utf8_lossy l) =
    rw c.in-Some-Log.field-0-is at c.in-Some-Log.ensures ∙ ap said_in (c.deref.ensures ∙ c.in_ok-decoded.ensures.lossy ∙ ap utf8_lossy c.line.ensures) in
    subst (λ (s : Option Said). Answers (DoesOrEnds (λ text. DoesSaid p n old l s text new) (EndsSaid p old s)) c.args.out.now c.take_entry.new.out
    c.take_entry.result) says (rw c.in-Some-Log.field-0-is at c.take_entry.ensures.does)

pub returns-in-Some-Log-clause-told : goal.returns-in-Some-Log-clause-told
returns-in-Some-Log-clause-told g c =
    let p = peer_of g.D.StoreFile.is_known c.args.setting.now.answering in
    let l = c.args.round.now.line.items in
    let n = c.args.number in
    let old = reached c.args.reader.now in
    let new = reached c.take_entry.new.reader in
    let entry = c.in-Some-Log.entry in
    let says : Some (Logs entry.index.now entry.text.now) ≡ said_in (utf8_lossy l) =
    rw c.in-Some-Log.field-0-is at c.in-Some-Log.ensures ∙ ap said_in (c.deref.ensures ∙ c.in_ok-decoded.ensures.lossy ∙ ap utf8_lossy c.line.ensures) in
    subst (λ (s : Option Said). TellsLine g.D.Write.contents c.args.reader.now.peer c.take_entry.new.reader.peer (λ text. DoesSaid p n old l s text new)
    (EndsSaid p old s) c.args.out.now c.take_entry.new.out) says (rw c.in-Some-Log.field-0-is at c.take_entry.ensures.told)

pub returns-in-Some-Ask-clause-does : goal.returns-in-Some-Ask-clause-does
returns-in-Some-Ask-clause-does g c =
    let p = peer_of g.D.StoreFile.is_known c.args.setting.now.answering in
    let l = c.args.round.now.line.items in
    let n = c.args.number in
    let old = reached c.args.reader.now in
    let asked = c.in-Some-Ask.asked in
    let chain = old.held.chain in
    let t = c.args.out.now in
    let u = c.answer_line.new.out in
    let r = c.answer_line.result in
    let said : Option Said = Some (Asks asked.request asked.tag.now asked.words.now) in
    let says : said ≡ said_in (utf8_lossy l) =
    rw c.in-Some-Ask.field-0-is at c.in-Some-Ask.ensures ∙ ap said_in (c.deref.ensures ∙ c.in_ok-decoded.ensures.lossy ∙ ap utf8_lossy c.line.ensures) in
    subst (λ (s : Option Said). Answers (DoesOrEnds (λ text. DoesSaid p n old l s text old) (EndsSaid p old s)) t u r) says
    (done_so (λ text. DoesSaid p n old l said text old) (EndsSaid p old said) t u r
    (so_behind (DoesAsked p n chain l asked.request asked.tag.now asked.words.now) (λ text. DoesSaid p n old l said text old) t t u r (prints_none t)
    (λ text is. (is, refl)) (rw c.in-Some-Ask.field-0-is at c.answer_line.ensures.prints)) c.answer_line.ensures.lost)

pub returns-in-Some-Ask-clause-told : goal.returns-in-Some-Ask-clause-told
returns-in-Some-Ask-clause-told g c =
    let p = peer_of g.D.StoreFile.is_known c.args.setting.now.answering in
    let l = c.args.round.now.line.items in
    let n = c.args.number in
    let contents = g.D.Write.contents in
    let peer = c.args.reader.now.peer in
    let old = reached c.args.reader.now in
    let asked = c.in-Some-Ask.asked in
    let t = c.args.out.now in
    let u = c.answer_line.new.out in
    let said : Option Said = Some (Asks asked.request asked.tag.now asked.words.now) in
    let says : said ≡ said_in (utf8_lossy l) =
    rw c.in-Some-Ask.field-0-is at c.in-Some-Ask.ensures ∙ ap said_in (c.deref.ensures ∙ c.in_ok-decoded.ensures.lossy ∙ ap utf8_lossy c.line.ensures) in
    subst (λ (s : Option Said). TellsLine contents peer peer (λ text. DoesSaid p n old l s text old) (EndsSaid p old s) t u) says
    (start_so (DoesAsked p n old.held.chain l asked.request asked.tag.now asked.words.now)
    (ComesTo (λ text. DoesSaid p n old l said text old × (HoldsChain contents peer → HoldsChain contents peer)) (EndsSaid p old said)) t u
    c.answer_line.result (λ text is. inl ((is, refl), λ holds. holds)) (rw c.in-Some-Ask.field-0-is at c.answer_line.ensures.prints)
    c.answer_line.ensures.nothing)

pub returns-in-Some-Ask-clause-reader : goal.returns-in-Some-Ask-clause-reader
returns-in-Some-Ask-clause-reader g c = printed_on_ok c.answer_line.result _ _ (λ so. c.requires.reader) c.answer_line.ensures.prints

pub returns-in-Some-Log-clause-round : goal.returns-in-Some-Log-clause-round
returns-in-Some-Log-clause-round g c =
    printed_on_ok c.take_entry.result _ _
    (λ waits. round_forgotten (peer_of g.D.StoreFile.is_known c.args.setting.now.answering) (held_by c.args.reader.now.peer).chain (held_by c.take_entry.new.reader.peer).chain
    c.args.round.now c.forget.new.self c.requires.round c.forget.ensures.answers c.forget.ensures.lines) c.take_entry.ensures.handed_on

pub returns-in-Some-Log-clause-kept : goal.returns-in-Some-Log-clause-kept
returns-in-Some-Log-clause-kept g c = c.take_entry.ensures.kept

pub returns-in-Some-Ask-clause-kept : goal.returns-in-Some-Ask-clause-kept
returns-in-Some-Ask-clause-kept g c = c.answer_line.ensures.kept

pub returns-clause-does : goal.returns-clause-does
returns-clause-does g c =
    let p = peer_of g.D.StoreFile.is_known c.args.setting.now.answering in
    let l = c.args.round.now.line.items in
    let n = c.args.number in
    let old = reached c.args.reader.now in
    let t = c.args.out.now in
    let w = c.print_bad_line in
    let says : None ≡ said_in (utf8_lossy l) = c.in-None.ensures ∙ ap said_in (c.deref.ensures ∙ c.in_ok-decoded.ensures.lossy ∙ ap utf8_lossy c.line.ensures) in
    subst (λ (s : Option Said). Answers (DoesOrEnds (λ text. DoesSaid p n old l s text old) (EndsSaid p old s)) t w.new.out w.result) says
    (done_by (λ text. DoesSaid p n old l None text old) (EndsSaid p old None) t w.new.out w.result (bad_text n) w.ensures.prints w.ensures.lost (refl, refl))

pub returns-clause-told : goal.returns-clause-told
returns-clause-told g c =
    let p = peer_of g.D.StoreFile.is_known c.args.setting.now.answering in
    let l = c.args.round.now.line.items in
    let n = c.args.number in
    let contents = g.D.Write.contents in
    let peer = c.args.reader.now.peer in
    let old = reached c.args.reader.now in
    let t = c.args.out.now in
    let w = c.print_bad_line in
    let says : None ≡ said_in (utf8_lossy l) = c.in-None.ensures ∙ ap said_in (c.deref.ensures ∙ c.in_ok-decoded.ensures.lossy ∙ ap utf8_lossy c.line.ensures) in
    subst (λ (s : Option Said). TellsLine contents peer peer (λ text. DoesSaid p n old l s text old) (EndsSaid p old s) t w.new.out) says
    (start_text (ComesTo (λ text. DoesSaid p n old l None text old × (HoldsChain contents peer → HoldsChain contents peer)) (EndsSaid p old None)) t w.new.out
    w.result (bad_text n) w.ensures.prints w.ensures.nothing (inl ((refl, refl), λ holds. holds)))

pub returns-in_err-decoded-clause-told : goal.returns-in_err-decoded-clause-told
returns-in_err-decoded-clause-told g c = inl (nothing_same c.args.out.now)

-- ---- what its file holds

pub returns-in_err-decoded-clause-stores : goal.returns-in_err-decoded-clause-stores
returns-in_err-decoded-clause-stores g c = stores_none g.D.Write.contents c.args.reader.now.peer c.from_residual.result

pub returns-in-Some-Log-clause-stores : goal.returns-in-Some-Log-clause-stores
returns-in-Some-Log-clause-stores g c = c.take_entry.ensures.stores

pub returns-in-Some-Ask-clause-stores : goal.returns-in-Some-Ask-clause-stores
returns-in-Some-Ask-clause-stores g c = stores_none g.D.Write.contents c.args.reader.now.peer c.answer_line.result

pub returns-clause-stores : goal.returns-clause-stores
returns-clause-stores g c = stores_none g.D.Write.contents c.args.reader.now.peer c.print_bad_line.result
