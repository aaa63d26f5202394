use Rattle.std.proofs.Common.{◌≡◌, ◌∙◌, [], ◌∷◌, Err, false, true, IfSome, IsSome, OnOk, ap, inl, inr, refl, subst, sym}
use Rattle.orderer.specs.Ordering.{Ordering}
use Rattle.log_peer.specs.Holding.{HoldsRecords, KeepsRecords}
use Rattle.log_peer.specs.Peering.{file_of, held_by}
use Rattle.log_peer.specs.Refusals.{store_text}
use Rattle.log_peer.proofs.Keeping.{keeps_on}
use Rattle.cli_lines.specs.Told.{Answers}
use Rattle.cli_lines.proofs.Changes.{changes_from}
use Rattle.cli_lines.proofs.Answering.{answers_by}
use Rattle.cli_peer.specs.Filters.{BeginsSo, DoesOrEnds}
use Rattle.cli_peer.specs.Keeping.{HoldsChain, StartsWith}
use Rattle.cli_peer.specs.Opening.{ComesBehind, TellsUnopened}
use Rattle.cli_peer.specs.Peering.{LinesTo, Peers, PeersBegin, PeersLines, opened}
use Rattle.cli_peer.specs.Logged.{Reached}
use Rattle.cli_peer.specs.Running.{reached}
use Rattle.peer_answers.specs.Setting.{peer_of}
use Rattle.cli_peer.specs.declared.peering.Reader.{Reader}
use Rattle.cli_peer.proofs.Filters.{ended_by, start_ended}
use Rattle.cli_peer.proofs.Keeping.{closed_holds, closed_keeps, closed_told, held_then, peer_begins, some_so, unopened_told}
use Rattle.cli_peer.proofs.peering.peer_to.Goals as goal

pub returns-in-Ok-clause-answers : goal.returns-in-Ok-clause-answers
returns-in-Ok-clause-answers g c =
    let p = peer_of g.F.Store.StoreFile.is_known c.args.setting.now.answering in
    let chain = (held_by c.in-Ok.peer).chain in
    let cut = c.in-Ok.cut in
    let input = c.args.lines.now.left in
    let t = c.args.out.now in
    let u = c.peer_behind-ended.new.out in
    let r = c.peer_behind-ended.result in
    answers_by (λ answer. ComesBehind chain cut (PeersLines p (opened p chain) input answer)) (Peers p (g.F.Store.Write.contents c.args.file) input) t u r
    (λ text behind. inl (chain, cut, c.in-Ok.ensures.opened, c.in-Ok.ensures.lawful, behind))
    (subst
    (λ (log : Ordering). Answers (λ answer. ComesBehind chain cut
    (PeersLines p (record { held = record { log = log; chain = chain }; begun = false }) input answer)) t u r) c.in-Ok.ensures.unread
    c.peer_behind-ended.ensures.answers)

pub returns-in-Err-clause-answers : goal.returns-in-Err-clause-answers
returns-in-Err-clause-answers g c =
    let p = peer_of g.F.Store.StoreFile.is_known c.args.setting.now.answering in
    let held = g.F.Store.Write.contents c.args.file in
    let cause = c.in-Err.unopened.refusal in
    let t = c.args.out.now in
    let u = c.end-failure.new.out in
    let Ends = TellsUnopened p.log.genesis.rules.value held in
    answers_by {A = Unit {0}} (DoesOrEnds (λ text. ⊥) Ends) (Peers p held c.args.lines.now.left) t u (Err c.end-failure.result) (λ text ends. inr ends)
    (ended_by (Unit {0}) (λ text. ⊥) Ends t u c.end-failure.result (store_text cause) c.end-failure.ensures.ends (cause, c.in-Err.ensures.refused, refl))

pub returns-in-Ok-clause-begins : goal.returns-in-Ok-clause-begins
returns-in-Ok-clause-begins g c =
    let contents = g.F.Store.Write.contents in
    let p = peer_of g.F.Store.StoreFile.is_known c.args.setting.now.answering in
    let held = held_by c.in-Ok.peer in
    let old : Reader g.row.F-Store.Denot = record { peer = c.in-Ok.peer; begun = false } in
    let opens = ap (λ (log : Ordering). let r : Reached = record { held = record { log = log; chain = held.chain }; begun = false } in r) c.in-Ok.ensures.unread in
    λ broken. peer_begins contents p c.args.lines.now.left (contents c.args.file) old c.peer_behind-ended.new.reader c.in-Ok.cut c.args.out.now
    c.peer_behind-ended.new.out c.in-Ok.ensures.opened c.in-Ok.ensures.lawful opens c.peer_behind-ended.ensures.told

pub returns-in-Err-clause-begins : goal.returns-in-Err-clause-begins
returns-in-Err-clause-begins g c =
    let p = peer_of g.F.Store.StoreFile.is_known c.args.setting.now.answering in
    let held = g.F.Store.Write.contents c.args.file in
    let cause = c.in-Err.unopened.refusal in
    λ broken. start_ended (PeersBegin p held c.args.lines.now.left) c.args.out.now c.end-failure.new.out c.end-failure.result (store_text cause)
    c.end-failure.ensures.ends (inr (cause, c.in-Err.ensures.refused, refl))

-- ---- what was told

pub returns-in-Ok-clause-told : goal.returns-in-Ok-clause-told
returns-in-Ok-clause-told g c =
    let bytes = g.F.Files.bytes in
    let contents = g.F.Store.Write.contents in
    let p = peer_of g.F.Store.StoreFile.is_known c.args.setting.now.answering in
    let name = c.args.setting.now.store.now in
    let input = c.args.lines.now.left in
    let old = c.in-Ok.peer in
    let new = c.peer_behind-ended.new.reader in
    let chain = (held_by old).chain in
    let t = c.args.out.now in
    let u = c.peer_behind-ended.new.out in
    let from : Reached = record { held = held_by old; begun = false } in
    let opens = ap (λ (log : Ordering). let r : Reached = record { held = record { log = log; chain = chain }; begun = false } in r) c.in-Ok.ensures.unread in
    closed_told g.F.Files.is_known name (bytes c.args.files.now) (bytes c.peer_behind-ended.new.files) (bytes c.close_store.new.self) (contents c.args.file)
    (contents c.into_file.result) c.requires.there c.requires.made c.peer_behind-ended.ensures.kept c.close_store.ensures.stored p input chain c.in-Ok.cut from
    (HoldsChain contents old) t u c.in-Ok.ensures.opened c.in-Ok.ensures.lawful opens c.in-Ok.ensures.holds
    (subst (λ (d : g.row.F-Store.Denot). BeginsSo (ComesBehind chain c.in-Ok.cut (λ rest. (last : Reached) × LinesTo p from input rest last
    × (HoldsChain contents old → StartsWith (contents d) last.held.chain))) t u) (sym c.into_file.ensures) c.peer_behind-ended.ensures.told)

pub returns-in-Err-clause-told : goal.returns-in-Err-clause-told
returns-in-Err-clause-told g c =
    let bytes = g.F.Files.bytes in
    let p = peer_of g.F.Store.StoreFile.is_known c.args.setting.now.answering in
    let contents = g.F.Store.Write.contents in
    let held = contents c.args.file in
    let cause = c.in-Err.unopened.refusal in
    let t = c.args.out.now in
    let u = c.end-failure.new.out in
    unopened_told g.F.Files.is_known c.args.setting.now.store.now (bytes c.args.files.now) (bytes c.explain_store.new.files)
    (bytes c.close_store-in-Err.new.self) held (contents c.in-Err.unopened.file) c.requires.there c.requires.made
    c.explain_store.ensures.kept c.close_store-in-Err.ensures.stored p c.args.lines.now.left t u
    (start_ended (TellsUnopened p.log.genesis.rules.value held) t u c.end-failure.result (store_text cause)
    c.end-failure.ensures.ends (cause, c.in-Err.ensures.refused, refl))

pub returns-in-Ok-clause-keeps : goal.returns-in-Ok-clause-keeps
returns-in-Ok-clause-keeps g c =
    let bytes = g.F.Files.bytes in
    let contents = g.F.Store.Write.contents in
    let name = c.args.setting.now.store.now in
    let old = c.in-Ok.peer in
    let new = c.peer_behind-ended.new.reader.peer in
    let kept = keeps_on (contents c.args.file) (contents (file_of old)) (contents (file_of new)) c.in-Ok.ensures.keeps c.peer_behind-ended.ensures.stores.0 in
    closed_keeps g.F.Files.is_known name (bytes c.args.files.now) (bytes c.peer_behind-ended.new.files) (bytes c.close_store.new.self) (contents c.args.file)
    (contents c.into_file.result) c.requires.there c.requires.made c.peer_behind-ended.ensures.kept c.close_store.ensures.stored
    (subst (λ (d : g.row.F-Store.Denot). KeepsRecords (contents c.args.file) (contents d)) (sym c.into_file.ensures) kept)

pub returns-in-Ok-clause-holds : goal.returns-in-Ok-clause-holds
returns-in-Ok-clause-holds g c =
    let bytes = g.F.Files.bytes in
    let contents = g.F.Store.Write.contents in
    let p = peer_of g.F.Store.StoreFile.is_known c.args.setting.now.answering in
    let name = c.args.setting.now.store.now in
    let old = c.in-Ok.peer in
    let new = c.peer_behind-ended.new.reader in
    let chain = (held_by old).chain in
    let last = (held_by new.peer).chain in
    let r = c.peer_behind-ended.result in
    let from : Reached = record { held = held_by old; begun = false } in
    let starts = ap (λ (log : Ordering). let r : Reached = record { held = record { log = log; chain = chain }; begun = false } in r) c.in-Ok.ensures.unread in
    let holds = held_then (contents c.args.file) (HoldsRecords (contents (file_of old)) chain) (OnOk r (HoldsRecords (contents (file_of new.peer)) last))
    c.in-Ok.ensures.holds c.peer_behind-ended.ensures.stores.1 in
    closed_holds g.F.Files.is_known name (bytes c.args.files.now) (bytes c.peer_behind-ended.new.files) (bytes c.close_store.new.self) (contents c.args.file)
    (contents c.into_file.result) c.requires.there c.requires.made c.peer_behind-ended.ensures.kept c.close_store.ensures.stored p c.args.lines.now.left chain
    c.in-Ok.cut from (reached new) r c.in-Ok.ensures.opened c.in-Ok.ensures.lawful starts c.peer_behind-ended.ensures.leads
    (subst (λ (d : g.row.F-Store.Denot). IfSome (contents c.args.file) (λ _. OnOk r (HoldsRecords (contents d) last))) (sym c.into_file.ensures) holds)

pub returns-in-Ok-clause-others : goal.returns-in-Ok-clause-others
returns-in-Ok-clause-others g c =
    let bytes = g.F.Files.bytes in
    changes_from g.F.Files.is_known (c.args.setting.now.store.now ∷ []) (bytes c.args.files.now) (bytes c.peer_behind-ended.new.files)
    (bytes c.close_store.new.self) c.peer_behind-ended.ensures.kept c.close_store.ensures.others

pub returns-in-Err-clause-keeps : goal.returns-in-Err-clause-keeps
returns-in-Err-clause-keeps g c =
    let bytes = g.F.Files.bytes in
    let contents = g.F.Store.Write.contents in
    closed_keeps g.F.Files.is_known c.args.setting.now.store.now (bytes c.args.files.now) (bytes c.explain_store.new.files)
    (bytes c.close_store-in-Err.new.self) (contents c.args.file) (contents c.in-Err.unopened.file) c.requires.there c.requires.made
    c.explain_store.ensures.kept c.close_store-in-Err.ensures.stored c.in-Err.ensures.keeps

pub returns-in-Err-clause-others : goal.returns-in-Err-clause-others
returns-in-Err-clause-others g c =
    let bytes = g.F.Files.bytes in
    changes_from g.F.Files.is_known (c.args.setting.now.store.now ∷ []) (bytes c.args.files.now) (bytes c.explain_store.new.files)
    (bytes c.close_store-in-Err.new.self) c.explain_store.ensures.kept c.close_store-in-Err.ensures.others

-- ---- what it reads by

pub peer_behind-ended-requires-clause-reader : goal.peer_behind-ended-requires-clause-reader
peer_behind-ended-requires-clause-reader g c κs within =
    let contents = g.F.Store.Write.contents in
    let peer = c.in-Ok.peer in
    let holds = λ (is : g.F.Store.StoreFile.is_known ≡ true). let writes = sym c.requires.known ∙ is in
    some_so (contents c.args.file) (HoldsChain contents peer) (subst IsSome (sym (c.requires.there writes)) (c.requires.made writes)) c.in-Ok.ensures.holds in
    ((c.in-Ok.ensures.stored, holds), c.in-Ok.ensures.rules)
