use Rattle.std.proofs.Common.{◌∙◌, Err, inl, inr, refl, true}
use Rattle.std.proofs.lemmas.Bool.{iff_false}
use Rattle.std.specs.Prelude.{codes}
use Rattle.ledger_model.specs.Chain.{Bytes}
use Rattle.log_peer.specs.Peering.{held_by, rules_of}
use Rattle.log_peer.specs.Refusals.{store_text}
use Rattle.cli_peer.specs.Filters.{ComesTo}
use Rattle.cli_lines.proofs.Printing.{nothing_same, printed_on_ok}
use Rattle.cli_peer.specs.Logged.{EndsEntry, IsLogged, Reached, TellsEntry}
use Rattle.cli_peer.specs.Running.{reached}
use Rattle.cli_peer.specs.Keeping.{HoldsChain}
use Rattle.cli_peer.proofs.Filters.{done_so, ended_by, handed_so, start_by, start_ended, start_handed, tells_behind}
use Rattle.cli_peer.proofs.Entries.{all_handed, line_logged}
use Rattle.cli_peer.proofs.Keeping.{stores_none, stores_read}
use Rattle.cli_peer.proofs.peering.take_entry.Goals as goal

-- ---- the first line names another genesis

pub returns-then-other-clause-does : goal.returns-then-other-clause-does
returns-then-other-clause-does g c =
    let log = c.args.setting.now.answering.log.now in
    let entry = c.args.entry.now in
    let old = reached c.args.reader.now in
    let names = c.in_ok-other.ensures.0 c.if-other.true in
    ended_by (Unit {0}) (λ text. IsLogged log old entry.index.now entry.text.now text old) (EndsEntry log old entry.text.now) c.args.out.now
    c.end_by_genesis.new.out c.end_by_genesis.result (codes "refused 807") c.end_by_genesis.ensures.ends (inl (names.0, names.1, refl))

pub returns-then-other-clause-told : goal.returns-then-other-clause-told
returns-then-other-clause-told g c =
    let log = c.args.setting.now.answering.log.now in
    let entry = c.args.entry.now in
    let old = reached c.args.reader.now in
    let own = HoldsChain g.D.Write.contents c.args.reader.now.peer in
    let names = c.in_ok-other.ensures.0 c.if-other.true in
    start_ended (ComesTo (λ text. IsLogged log old entry.index.now entry.text.now text old × (own → own)) (EndsEntry log old entry.text.now)) c.args.out.now
    c.end_by_genesis.new.out c.end_by_genesis.result (codes "refused 807") c.end_by_genesis.ensures.ends (inr (inl (names.0, names.1, refl)))

pub returns-then-other-clause-tells : goal.returns-then-other-clause-tells
returns-then-other-clause-tells g c = (c.end_by_genesis.ensures.more, c.end_by_genesis.ensures.says)

pub returns-then-other-clause-kept : goal.returns-then-other-clause-kept
returns-then-other-clause-kept g c = c.end_by_genesis.ensures.kept

-- ---- it is not read

pub returns-in-Err-clause-does : goal.returns-in-Err-clause-does
returns-in-Err-clause-does g c =
    let log = c.args.setting.now.answering.log.now in
    let entry = c.args.entry.now in
    let old = reached c.args.reader.now in
    let cause = c.in-Err.refusal in
    let new : Reached = record { held = held_by c.read.new.self; begun = c.args.reader.now.begun } in
    ended_by (Unit {0}) (λ text. IsLogged log old entry.index.now entry.text.now text new) (EndsEntry log old entry.text.now) c.args.out.now c.end.new.out c.end.result (store_text cause) c.end.ensures.ends
    (inr (cause, c.in-Err.ensures.refused, refl))

pub returns-in-Err-clause-told : goal.returns-in-Err-clause-told
returns-in-Err-clause-told g c =
    let log = c.args.setting.now.answering.log.now in
    let entry = c.args.entry.now in
    let contents = g.D.Write.contents in
    let old = reached c.args.reader.now in
    let cause = c.in-Err.refusal in
    let new : Reached = record { held = held_by c.read.new.self; begun = c.args.reader.now.begun } in
    let Does = λ (text : Bytes). IsLogged log old entry.index.now entry.text.now text new
    × (HoldsChain contents c.args.reader.now.peer → HoldsChain contents c.read.new.self) in
    start_ended (ComesTo Does (EndsEntry log old entry.text.now)) c.args.out.now c.end.new.out c.end.result (store_text cause) c.end.ensures.ends
    (inr (inr (cause, c.in-Err.ensures.refused, refl)))

pub returns-in-Err-clause-kept : goal.returns-in-Err-clause-kept
returns-in-Err-clause-kept g c = c.explain_unread.ensures.kept

-- ---- it is read

pub returns-in_err-print_entry-in-Ok-clause-told : goal.returns-in_err-print_entry-in-Ok-clause-told
returns-in_err-print_entry-in-Ok-clause-told g c =
    let log = c.args.setting.now.answering.log.now in
    let entry = c.args.entry.now in
    let contents = g.D.Write.contents in
    let old = reached c.args.reader.now in
    let new : Reached = record { held = held_by c.read.new.self; begun = true } in
    let told = c.in-Ok.report in
    let Told = TellsEntry log new.held entry.index.now entry.text.now told in
    let Does = λ (text : Bytes). IsLogged log old entry.index.now entry.text.now text new
    × (HoldsChain contents c.args.reader.now.peer → HoldsChain contents c.read.new.self) in
    let Ends = EndsEntry log old entry.text.now in
    let logged = line_logged log (rules_of c.args.reader.now.peer) old new entry.index.now entry.text.now told c.requires.reader.1 c.in-Ok.ensures.read
    (iff_false c.in_ok-other.ensures c.if-other.false) refl in
    start_by Told (ComesTo Does Ends) c.args.out.now c.print_entry.new.out (λ text tells. inl (logged text tells, c.in-Ok.ensures.holds))
    (c.in_err-print_entry-in-Ok.ensures.begins c.in_err-print_entry-in-Ok.ensures.lost)

pub returns-in_err-print_entry-in-Ok-clause-kept : goal.returns-in_err-print_entry-in-Ok-clause-kept
returns-in_err-print_entry-in-Ok-clause-kept g c = c.print_entry.ensures.kept ∙ c.explain_open.ensures.kept

pub returns-in_ok-print_entry-in-Ok-clause-does : goal.returns-in_ok-print_entry-in-Ok-clause-does
returns-in_ok-print_entry-in-Ok-clause-does g c =
    let log = c.args.setting.now.answering.log.now in
    let entry = c.args.entry.now in
    let old = reached c.args.reader.now in
    let new : Reached = record { held = held_by c.read.new.self; begun = true } in
    let told = c.in-Ok.report in
    let Told = TellsEntry log new.held entry.index.now entry.text.now told in
    let Does = λ (text : Bytes). IsLogged log old entry.index.now entry.text.now text new in
    let Ends = EndsEntry log old entry.text.now in
    let logged = line_logged log (rules_of c.args.reader.now.peer) old new entry.index.now entry.text.now told c.requires.reader.1 c.in-Ok.ensures.read
    (iff_false c.in_ok-other.ensures c.if-other.false) refl in
    let t = c.args.out.now in
    let u = c.print_entry.new.out in
    let v = c.flush.new.self in
    let r = c.flush.result in
    done_so Does Ends t v r
    (handed_so Told Does t u v r logged c.in_ok-print_entry-in-Ok.ensures.prints c.flush.ensures.tells c.flush.ensures.bytes) c.flush.ensures.lost

pub returns-in_ok-print_entry-in-Ok-clause-told : goal.returns-in_ok-print_entry-in-Ok-clause-told
returns-in_ok-print_entry-in-Ok-clause-told g c =
    let log = c.args.setting.now.answering.log.now in
    let entry = c.args.entry.now in
    let contents = g.D.Write.contents in
    let old = reached c.args.reader.now in
    let new : Reached = record { held = held_by c.read.new.self; begun = true } in
    let told = c.in-Ok.report in
    let Told = TellsEntry log new.held entry.index.now entry.text.now told in
    let Does = λ (text : Bytes). IsLogged log old entry.index.now entry.text.now text new
    × (HoldsChain contents c.args.reader.now.peer → HoldsChain contents c.read.new.self) in
    let Ends = EndsEntry log old entry.text.now in
    let logged = line_logged log (rules_of c.args.reader.now.peer) old new entry.index.now entry.text.now told c.requires.reader.1 c.in-Ok.ensures.read
    (iff_false c.in_ok-other.ensures c.if-other.false) refl in
    let r = c.flush.result in
    start_handed Told (ComesTo Does Ends) c.args.out.now c.print_entry.new.out c.flush.new.self r
    (λ text tells. inl (logged text tells, c.in-Ok.ensures.holds)) c.in_ok-print_entry-in-Ok.ensures.prints c.flush.ensures.tells c.flush.ensures.bytes
    c.flush.ensures.nothing

pub returns-in_ok-print_entry-in-Ok-clause-tells : goal.returns-in_ok-print_entry-in-Ok-clause-tells
returns-in_ok-print_entry-in-Ok-clause-tells g c =
    tells_behind c.args.out.now c.print_entry.new.out c.flush.new.self c.flush.result c.in_ok-print_entry-in-Ok.ensures.tells c.flush.ensures.tells

pub returns-in_ok-print_entry-in-Ok-clause-reader : goal.returns-in_ok-print_entry-in-Ok-clause-reader
returns-in_ok-print_entry-in-Ok-clause-reader g c =
    printed_on_ok c.flush.result _ _
    (λ handed. ((c.in-Ok.ensures.stored, λ is. c.in-Ok.ensures.holds (c.requires.reader.0.1 is)), c.read.ensures.rules ∙ c.requires.reader.1))
    c.flush.ensures.handed_on

pub returns-in_ok-print_entry-in-Ok-clause-kept : goal.returns-in_ok-print_entry-in-Ok-clause-kept
returns-in_ok-print_entry-in-Ok-clause-kept g c = c.print_entry.ensures.kept ∙ c.explain_open.ensures.kept

pub returns-in_err-other-clause-told : goal.returns-in_err-other-clause-told
returns-in_err-other-clause-told g c = inl (nothing_same c.args.out.now)

-- ---- what its file holds

pub returns-in_err-other-clause-stores : goal.returns-in_err-other-clause-stores
returns-in_err-other-clause-stores g c = stores_none g.D.Write.contents c.args.reader.now.peer c.from_residual.result

pub returns-then-other-clause-stores : goal.returns-then-other-clause-stores
returns-then-other-clause-stores g c = stores_none g.D.Write.contents {A = Unit {0}} c.args.reader.now.peer (Err c.end_by_genesis.result)

pub returns-in-Err-clause-stores : goal.returns-in-Err-clause-stores
returns-in-Err-clause-stores g c = (c.read.ensures.grows, λ held. tt)

pub returns-in_err-print_entry-in-Ok-clause-stores : goal.returns-in_err-print_entry-in-Ok-clause-stores
returns-in_err-print_entry-in-Ok-clause-stores g c =
    stores_read g.D.Write.contents c.args.reader.now.peer c.read.new.self c.from_residual-in_err-print_entry-in-Ok.result c.read.ensures.grows
    c.in-Ok.ensures.holds

pub returns-in_ok-print_entry-in-Ok-clause-stores : goal.returns-in_ok-print_entry-in-Ok-clause-stores
returns-in_ok-print_entry-in-Ok-clause-stores g c =
    stores_read g.D.Write.contents c.args.reader.now.peer c.read.new.self c.flush.result c.read.ensures.grows c.in-Ok.ensures.holds

-- ---- what joined the chain is handed out

pub print_entry-requires-clause-joined : goal.print_entry-requires-clause-joined
print_entry-requires-clause-joined g c κs within =
    let read = c.in-Ok.ensures.read in
    all_handed (held_by c.read.new.self).chain read.0 c.in-Ok.report read.1 c.in-Ok.ensures.joined
