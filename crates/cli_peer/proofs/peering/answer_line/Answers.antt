use denote.Param.{param}
use denote.Param.Send.{IsSync}
use Rattle.std.proofs.Common.{inr, refl, subst}
use Rattle.std.proofs.lemmas.Bool.{iff_false}
use Rattle.std.specs.Str.{IsUtf8}
use Rattle.ledger_model.specs.Chain.{Bytes}
use Rattle.log_peer.specs.Peering.{held_by}
use Rattle.cli_peer.specs.Peering.{DoesAsked, bad_text}
use Rattle.peer_answers.specs.Setting.{peer_of}
use Rattle.cli_peer.proofs.Filters.{prints_so}
use Rattle.cli_peer.proofs.Sharing.{sync_stored}
use Rattle.cli_peer.proofs.peering.answer_line.Goals as goal

pub returns-then-not-is_text-clause-prints : goal.returns-then-not-is_text-clause-prints
returns-then-not-is_text-clause-prints g c =
    let p = peer_of g.D.StoreFile.is_known c.args.setting.now.answering in
    let chain = (held_by c.args.peer.now).chain in
    let asked = c.args.asked.now in
    prints_so (DoesAsked p c.args.number chain c.args.round.now.line.items asked.request asked.tag.now asked.words.now) c.args.out.now
    c.print_bad_line.new.out c.print_bad_line.result (bad_text c.args.number) c.print_bad_line.ensures.prints
    (inr (subst (λ (l : Bytes). ¬ IsUtf8 l) c.line.ensures (iff_false c.is_text.ensures c.if-not-is_text.true), refl))

pub answer-requires-in-None-sync-B : goal.answer-requires-in-None-sync-B
answer-requires-in-None-sync-B g c κs within =
    let sync_file : IsSync (param 2 g.row.D) = record { shared = c.type_bounds.sync-D.shared } in
    record { shared = (sync_stored (param 2 g.row.D) sync_file).shared }
