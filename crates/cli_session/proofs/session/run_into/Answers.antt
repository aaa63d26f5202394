use Rattle.std.proofs.Common.{arith, refl}
use Rattle.cli_lines.proofs.Answering.{begins_by}
use Rattle.cli_lines.proofs.Printing.{on_err}
use Rattle.cli_session.specs.Stages.{Stage, stage_at}
use Rattle.cli_session.specs.Whole.{BeginsFrom, LinesBegin}
use Rattle.cli_session.proofs.Staying.{placed_stay}
use Rattle.cli_session.proofs.Stored.{placed_kept}
use Rattle.cli_session.proofs.Whole.{comes_to, unread}
use Rattle.cli_session.proofs.session.run_into.Goals as goal

pub returns-in_err-system-clause-others : goal.returns-in_err-system-clause-others
returns-in_err-system-clause-others g c =
    placed_kept g.F.Files.is_known c.args.store (g.F.Files.bytes c.args.files.now) (g.F.Files.bytes c.args.files.now) refl

pub returns-clause-comes : goal.returns-clause-comes
returns-clause-comes g c =
    let genesis = c.args.genesis.now in
    let law = c.ordering_laws.ensures.step in
    let began = c.ordering_laws.ensures.opening (unread genesis) (omega (arith, genesis.count_in_range.0)) (refl, refl) in
    let start : Stage = record { system = c.in_ok-system.system; names = c.new-bindings.result } in
    let end = c.run_to_end.new.self in
    comes_to genesis law began (g.B.Read.remaining c.args.lines.now) _ c.run_to_end.result start (stage_at end.system end.bindings) c.args.out.now
    c.run_to_end.new.out (record { system = c.in_ok-system.ensures; names = c.new-bindings.ensures }) c.run_to_end.ensures.does
    c.run_to_end.ensures.stops c.run_to_end.ensures.stored

pub returns-clause-begins : goal.returns-clause-begins
returns-clause-begins g c =
    let genesis = c.args.genesis.now in
    let held = g.B.Read.remaining c.args.lines.now in
    let start : Stage = record { system = c.in_ok-system.system; names = c.new-bindings.result } in
    begins_by (BeginsFrom genesis.book.value held start) (LinesBegin genesis held) c.args.out.now c.run_to_end.new.out c.run_to_end.result
    (λ text from. (start, record { system = c.in_ok-system.ensures; names = c.new-bindings.ensures }, from)) c.run_to_end.ensures.begins

pub returns-in_err-system-clause-kept : goal.returns-in_err-system-clause-kept
returns-in_err-system-clause-kept g c = λ none. refl

pub returns-clause-kept : goal.returns-clause-kept
returns-clause-kept g c = c.run_to_end.ensures.kept

pub returns-clause-others : goal.returns-clause-others
returns-clause-others g c = c.run_to_end.ensures.others

pub returns-clause-tells : goal.returns-clause-tells
returns-clause-tells g c = c.run_to_end.ensures.tells

pub returns-clause-differs : goal.returns-clause-differs
returns-clause-differs g c = c.run_to_end.ensures.differs

pub returns-in_err-system-clause-stays : goal.returns-in_err-system-clause-stays
returns-in_err-system-clause-stays g c =
    let held = g.F.Files.bytes c.args.files.now in on_err c.from_residual.result _ (placed_stay g.F.Files.is_known c.args.store held held refl)

pub returns-clause-stays : goal.returns-clause-stays
returns-clause-stays g c = c.run_to_end.ensures.stays
