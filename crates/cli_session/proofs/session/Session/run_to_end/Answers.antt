use Rattle.std.proofs.Common.{◌∙◌, arith, inl, inr}
use Rattle.std.proofs.lemmas.Result.{err_from_is_err_and}
use Rattle.cli_lines.proofs.Printing.{on_err}
use Rattle.cli_lines.proofs.Silence.{tells_by, and_more}
use Rattle.cli_session.specs.Stages.{stage_at}
use Rattle.cli_session.proofs.Begun.{all_begun, end_begun, first_begun}
use Rattle.cli_session.proofs.Staying.{placed_stay, placed_stay_by}
use Rattle.cli_session.proofs.Stored.{placed_by, placed_kept, some_none}
use Rattle.cli_session.proofs.session.Session.run_to_end.Goals as goal

pub returns-in_err-write_store : goal.returns-in_err-write_store
returns-in_err-write_store g c =
    let p = err_from_is_err_and c.from_residual-in_err-write_store.result c.from_residual-in_err-write_store.ensures.1 in
    rw (p.1, p.2) (record {
      tells = tells_by c.args.out.now c.print_end.new.out _ (and_more _ _ _ c.in_ok-run_lines.ensures.tells.0 c.in_ok-is_good.ensures.tells.0)
          c.in_err-write_store.ensures.silent;
      differs = tt;
      does = tt;
      stops = inl c.in_err-write_store.ensures.lost;
      stored = tt;
      kept = some_none c.args.store c.in-Some-Some.target _ c.in-Some-Some.is-0;
      stays =
          placed_stay_by g.F.Files.is_known c.args.store c.in-Some-Some.target (g.F.Files.bytes c.args.files.now) (g.F.Files.bytes c.run_lines.new.files)
          (g.F.Files.bytes c.write_store.new.files) c.in-Some-Some.is-0 c.run_lines.ensures.kept c.in_err-write_store.ensures.stays;
      others =
          placed_by g.F.Files.is_known c.args.store c.in-Some-Some.target (g.F.Files.bytes c.args.files.now) (g.F.Files.bytes c.run_lines.new.files)
          (g.F.Files.bytes c.write_store.new.files) c.in-Some-Some.is-0 c.run_lines.ensures.kept c.write_store.ensures.others;
      begins =
          λ broken. inr (all_begun c.args.genesis.now.book.value (g.B.Read.remaining c.args.lines.now)
          (stage_at c.args.self.now.system c.args.self.now.bindings) (stage_at c.run_lines.new.self.system c.run_lines.new.self.bindings)
          c.in_ok-is_good.is_good c.args.out.now c.run_lines.new.out c.print_end.new.out c.in_ok-run_lines.ensures.does c.in_ok-is_good.ensures.ends);
    })

pub returns-in_ok-write_store-clause-others : goal.returns-in_ok-write_store-clause-others
returns-in_ok-write_store-clause-others g c =
    let bytes = g.F.Files.bytes in
    placed_by g.F.Files.is_known c.args.store c.in-Some-Some.target (bytes c.args.files.now) (bytes c.run_lines.new.files) (bytes c.write_store.new.files)
    c.in-Some-Some.is-0 c.run_lines.ensures.kept c.write_store.ensures.others

pub returns-in_ok-is_good-clause-others : goal.returns-in_ok-is_good-clause-others
returns-in_ok-is_good-clause-others g c =
    placed_kept g.F.Files.is_known c.args.store (g.F.Files.bytes c.args.files.now) (g.F.Files.bytes c.run_lines.new.files) c.run_lines.ensures.kept

pub returns-in_ok-is_good-2-clause-others : goal.returns-in_ok-is_good-2-clause-others
returns-in_ok-is_good-2-clause-others g c =
    placed_kept g.F.Files.is_known c.args.store (g.F.Files.bytes c.args.files.now) (g.F.Files.bytes c.run_lines.new.files) c.run_lines.ensures.kept

pub returns-in_err-run_lines-clause-others : goal.returns-in_err-run_lines-clause-others
returns-in_err-run_lines-clause-others g c =
    placed_kept g.F.Files.is_known c.args.store (g.F.Files.bytes c.args.files.now) (g.F.Files.bytes c.run_lines.new.files) c.run_lines.ensures.kept

pub returns-in_err-is_good-clause-others : goal.returns-in_err-is_good-clause-others
returns-in_err-is_good-clause-others g c =
    placed_kept g.F.Files.is_known c.args.store (g.F.Files.bytes c.args.files.now) (g.F.Files.bytes c.run_lines.new.files) c.run_lines.ensures.kept

pub returns-in_ok-write_store-clause-does : goal.returns-in_ok-write_store-clause-does
returns-in_ok-write_store-clause-does g c = (c.run_lines.new.out, c.in_ok-run_lines.ensures.does, c.in_ok-is_good.ensures.ends)

pub returns-in_ok-is_good-clause-does : goal.returns-in_ok-is_good-clause-does
returns-in_ok-is_good-clause-does g c = (c.run_lines.new.out, c.in_ok-run_lines.ensures.does, c.in_ok-is_good.ensures.ends)

pub returns-in_ok-is_good-2-clause-does : goal.returns-in_ok-is_good-2-clause-does
returns-in_ok-is_good-2-clause-does g c = (c.run_lines.new.out, c.in_ok-run_lines.ensures.does, c.in_ok-is_good.ensures.ends)

pub returns-in_err-run_lines-clause-stops : goal.returns-in_err-run_lines-clause-stops
returns-in_err-run_lines-clause-stops g c =
    let p = err_from_is_err_and c.from_residual.result c.from_residual.ensures.1 in
    rw (p.1, p.2) c.in_err-run_lines.ensures.stops

pub returns-in_err-run_lines-clause-begins : goal.returns-in_err-run_lines-clause-begins
returns-in_err-run_lines-clause-begins g c =
    λ broken. inr (first_begun c.args.genesis.now.book.value (g.B.Read.remaining c.args.lines.now)
    (stage_at c.args.self.now.system c.args.self.now.bindings) c.args.out.now c.run_lines.new.out c.in_err-run_lines.ensures.first)

pub returns-in_err-is_good-clause-begins : goal.returns-in_err-is_good-clause-begins
returns-in_err-is_good-clause-begins g c =
    λ broken. inr (end_begun c.args.genesis.now.book.value (g.B.Read.remaining c.args.lines.now)
    (stage_at c.args.self.now.system c.args.self.now.bindings) (stage_at c.run_lines.new.self.system c.run_lines.new.self.bindings)
    c.args.out.now c.run_lines.new.out c.print_end.new.out c.in_ok-run_lines.ensures.does
    (c.in_err-is_good.ensures.begins c.in_err-is_good.ensures.lost))

pub returns-in_err-run_lines-clause-kept : goal.returns-in_err-run_lines-clause-kept
returns-in_err-run_lines-clause-kept g c = λ none. c.run_lines.ensures.kept

pub returns-in_err-is_good-clause-kept : goal.returns-in_err-is_good-clause-kept
returns-in_err-is_good-clause-kept g c = λ none. c.run_lines.ensures.kept

pub returns-in_ok-is_good-clause-kept : goal.returns-in_ok-is_good-clause-kept
returns-in_ok-is_good-clause-kept g c = λ none. c.run_lines.ensures.kept

pub returns-in_ok-is_good-2-clause-kept : goal.returns-in_ok-is_good-2-clause-kept
returns-in_ok-is_good-2-clause-kept g c = λ none. c.run_lines.ensures.kept

pub returns-in_ok-write_store-clause-kept : goal.returns-in_ok-write_store-clause-kept
returns-in_ok-write_store-clause-kept g c = some_none c.args.store c.in-Some-Some.target _ c.in-Some-Some.is-0

pub returns-in_ok-write_store-clause-tells : goal.returns-in_ok-write_store-clause-tells
returns-in_ok-write_store-clause-tells g c =
    let lines = c.in_ok-run_lines.ensures.tells in
    let end = c.in_ok-is_good.ensures.tells in
    (and_more _ _ _ lines.0 end.0, end.1 ∙ lines.1)

pub returns-in_ok-write_store-clause-differs : goal.returns-in_ok-write_store-clause-differs
returns-in_ok-write_store-clause-differs g c = λ bad. omega (arith, c.in_ok-run_lines.ensures.tells.0.prints, c.in_ok-is_good.ensures.differs bad)

pub returns-in_ok-is_good-clause-tells : goal.returns-in_ok-is_good-clause-tells
returns-in_ok-is_good-clause-tells g c =
    let lines = c.in_ok-run_lines.ensures.tells in
    let end = c.in_ok-is_good.ensures.tells in
    (and_more _ _ _ lines.0 end.0, end.1 ∙ lines.1)

pub returns-in_ok-is_good-clause-differs : goal.returns-in_ok-is_good-clause-differs
returns-in_ok-is_good-clause-differs g c = λ bad. omega (arith, c.in_ok-run_lines.ensures.tells.0.prints, c.in_ok-is_good.ensures.differs bad)

pub returns-in_ok-is_good-2-clause-tells : goal.returns-in_ok-is_good-2-clause-tells
returns-in_ok-is_good-2-clause-tells g c =
    let lines = c.in_ok-run_lines.ensures.tells in
    let end = c.in_ok-is_good.ensures.tells in
    (and_more _ _ _ lines.0 end.0, end.1 ∙ lines.1)

pub returns-in_ok-is_good-2-clause-differs : goal.returns-in_ok-is_good-2-clause-differs
returns-in_ok-is_good-2-clause-differs g c = λ bad. omega (arith, c.in_ok-run_lines.ensures.tells.0.prints, c.in_ok-is_good.ensures.differs bad)

pub returns-in_err-is_good-clause-stops : goal.returns-in_err-is_good-clause-stops
returns-in_err-is_good-clause-stops g c =
    let p = err_from_is_err_and c.from_residual-in_err-is_good.result c.from_residual-in_err-is_good.ensures.1 in
    rw (p.1, p.2) (inl c.in_err-is_good.ensures.lost)

pub returns-in_err-run_lines-clause-stays : goal.returns-in_err-run_lines-clause-stays
returns-in_err-run_lines-clause-stays g c =
    on_err c.from_residual.result _
    (placed_stay g.F.Files.is_known c.args.store (g.F.Files.bytes c.args.files.now) (g.F.Files.bytes c.run_lines.new.files) c.run_lines.ensures.kept)

pub returns-in_err-is_good-clause-stays : goal.returns-in_err-is_good-clause-stays
returns-in_err-is_good-clause-stays g c =
    on_err c.from_residual-in_err-is_good.result _
    (placed_stay g.F.Files.is_known c.args.store (g.F.Files.bytes c.args.files.now) (g.F.Files.bytes c.run_lines.new.files) c.run_lines.ensures.kept)
