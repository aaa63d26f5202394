use Rattle.std.proofs.Common.{Some, None, IfSome, inl, option_map, sym, subst, refl}
use Rattle.std.proofs.lemmas.Result.{err_from_is_err_and}
use Rattle.cli_lines.proofs.Printing.{nothing_same, on_err, printed_on_err}
use Rattle.cli_lines.proofs.Silence.{no_less, tells_by}
use Rattle.cli_lines.specs.Places.{ChangesOnly, FilesHeld}
use Rattle.cli_lines.specs.Told.{Answers}
use Rattle.cli_lines.specs.Whole.{whole_names}
use Rattle.cli_session.specs.Stored.{HoldsAsked, HoldsPlaced}
use Rattle.cli_session.specs.Whole.{LinesComeTo}
use Rattle.cli_session.proofs.Staying.{asked_stay, asked_stay_by, asked_stay_none}
use Rattle.cli_session.proofs.Stored.{asked_all, asked_by, asked_kept, asked_none, asked_nowhere, asked_store, some_none}
use Rattle.cli_session.proofs.Whole.{asked_of_place, stored_by}
use Rattle.cli_session.proofs.session.run_read.Goals as goal

pub returns-in_err-place-in-Some : goal.returns-in_err-place-in-Some
returns-in_err-place-in-Some g c =
    let p = err_from_is_err_and c.from_residual.result c.from_residual.ensures.1 in
    rw (p.1, p.2) (record {
      tells = tells_by c.args.out.now c.args.out.now _ (no_less c.args.out.now) c.in_err-place-in-Some.ensures.silent;
      differs = tt;
      comes = inl c.in_err-place-in-Some.ensures.lost;
      begins = λ broken. inl (nothing_same c.args.out.now);
      kept = some_none c.args.names.now.store c.in-Some.store _ c.in-Some.is;
      others =
          asked_kept g.F.Files.is_known c.args.names.now.store (g.F.Files.bytes c.args.files.now) (g.F.Files.bytes c.place_of.new.files)
          c.in_err-place-in-Some.ensures.kept;
      stays =
          asked_stay g.F.Files.is_known c.args.names.now.store (g.F.Files.bytes c.args.files.now) (g.F.Files.bytes c.place_of.new.files)
          c.in_err-place-in-Some.ensures.kept;
      spares = asked_all g.F.Files.is_known c.args.names.now.store (g.F.Files.bytes c.args.files.now) _ c.in_err-place-in-Some.ensures.kept;
      refuses = asked_all g.F.Files.is_known c.args.names.now.store (g.F.Files.bytes c.args.files.now) _ (inl c.in_err-place-in-Some.ensures.lost);
    })

pub returns-in_ok-place-in-Some-clause-others : goal.returns-in_ok-place-in-Some-clause-others
returns-in_ok-place-in-Some-clause-others g c =
    let bytes = g.F.Files.bytes in
    let r = c.run_into-ran in
    let known = g.F.Files.is_known in
    let store = c.args.names.now.store in
    subst (λ (h : FilesHeld). IfSome store (λ s. ChangesOnly known (whole_names s.now) (bytes c.args.files.now) h)) (sym c.explain_replaced.ensures.kept)
    (asked_by known store c.in-Some.store c.in_ok-place-in-Some.place.target (bytes c.args.files.now) (bytes c.place_of.new.files) (bytes r.new.files)
    c.in-Some.is c.in_ok-place-in-Some.ensures.file c.in_ok-place-in-Some.ensures.kept r.ensures.others)

pub returns-in_ok-place-in-Some-clause-spares : goal.returns-in_ok-place-in-Some-clause-spares
returns-in_ok-place-in-Some-clause-spares g c =
    asked_store g.F.Files.is_known c.args.names.now.store c.in-Some.store (g.F.Files.bytes c.args.files.now) _ c.in-Some.is
    c.in_ok-place-in-Some.ensures.store

pub returns-in_ok-place-in-Some-clause-refuses : goal.returns-in_ok-place-in-Some-clause-refuses
returns-in_ok-place-in-Some-clause-refuses g c =
    asked_store g.F.Files.is_known c.args.names.now.store c.in-Some.store (g.F.Files.bytes c.args.files.now) _ c.in-Some.is
    c.in_ok-place-in-Some.ensures.store

pub returns-in-None-clause-spares : goal.returns-in-None-clause-spares
returns-in-None-clause-spares g c = asked_nowhere g.F.Files.is_known c.args.names.now.store (g.F.Files.bytes c.args.files.now) _ c.in-None.is

pub returns-in-None-clause-refuses : goal.returns-in-None-clause-refuses
returns-in-None-clause-refuses g c = asked_nowhere g.F.Files.is_known c.args.names.now.store (g.F.Files.bytes c.args.files.now) _ c.in-None.is

pub returns-in-None-clause-others : goal.returns-in-None-clause-others
returns-in-None-clause-others g c =
    asked_none g.F.Files.is_known c.args.names.now.store (g.F.Files.bytes c.args.files.now) (g.F.Files.bytes c.run_into.new.files) c.in-None.is

pub returns-in_ok-place-in-Some-clause-comes : goal.returns-in_ok-place-in-Some-clause-comes
returns-in_ok-place-in-Some-clause-comes g c =
    let genesis = c.args.genesis.now in
    let held = g.B.Read.remaining c.args.lines.now in
    let known = g.F.Files.is_known in
    let r = c.run_into-ran in
    let bytes = g.F.Files.bytes r.new.files in
    let name = c.in-Some.store.now in
    let target = c.in_ok-place-in-Some.place.target in
    let store = c.args.names.now.store in
    subst (λ (h : FilesHeld). Answers (LinesComeTo genesis held (HoldsAsked known h (option_map (λ s. s.now) store))) c.args.out.now r.new.out r.result)
    (sym c.explain_replaced.ensures.kept)
    (subst (λ o. Answers (LinesComeTo genesis held (HoldsAsked known bytes (option_map (λ s. s.now) o))) c.args.out.now r.new.out r.result)
    (sym c.in-Some.is)
    (stored_by genesis held (HoldsPlaced known bytes (Some target)) (HoldsAsked known bytes (Some name))
    (asked_of_place known bytes name target c.in_ok-place-in-Some.ensures.file) c.args.out.now r.new.out r.result r.ensures.comes))

pub returns-in-None-clause-comes : goal.returns-in-None-clause-comes
returns-in-None-clause-comes g c =
    let genesis = c.args.genesis.now in
    let held = g.B.Read.remaining c.args.lines.now in
    let known = g.F.Files.is_known in
    let r = c.run_into in
    let bytes = g.F.Files.bytes r.new.files in
    subst (λ o. Answers (LinesComeTo genesis held (HoldsAsked known bytes (option_map (λ s. s.now) o))) c.args.out.now r.new.out r.result)
    (sym c.in-None.is)
    (stored_by genesis held (HoldsPlaced known bytes None) (HoldsAsked known bytes None) (λ chain stored. tt) c.args.out.now r.new.out r.result
    r.ensures.comes)

pub returns-in_ok-place-in-Some-clause-kept : goal.returns-in_ok-place-in-Some-clause-kept
returns-in_ok-place-in-Some-clause-kept g c = some_none c.args.names.now.store c.in-Some.store _ c.in-Some.is

pub returns-in-None-clause-kept : goal.returns-in-None-clause-kept
returns-in-None-clause-kept g c = λ none. c.run_into.ensures.kept refl

pub returns-in_ok-place-in-Some-clause-tells : goal.returns-in_ok-place-in-Some-clause-tells
returns-in_ok-place-in-Some-clause-tells g c = c.run_into-ran.ensures.tells

pub returns-in_ok-place-in-Some-clause-differs : goal.returns-in_ok-place-in-Some-clause-differs
returns-in_ok-place-in-Some-clause-differs g c = c.run_into-ran.ensures.differs

pub returns-in_ok-place-in-Some-clause-begins : goal.returns-in_ok-place-in-Some-clause-begins
returns-in_ok-place-in-Some-clause-begins g c = c.run_into-ran.ensures.begins

pub returns-in-None-clause-tells : goal.returns-in-None-clause-tells
returns-in-None-clause-tells g c = c.run_into.ensures.tells

pub returns-in-None-clause-differs : goal.returns-in-None-clause-differs
returns-in-None-clause-differs g c = c.run_into.ensures.differs

pub returns-in-None-clause-begins : goal.returns-in-None-clause-begins
returns-in-None-clause-begins g c = c.run_into.ensures.begins

pub returns-in_ok-place-in-Some-clause-stays : goal.returns-in_ok-place-in-Some-clause-stays
returns-in_ok-place-in-Some-clause-stays g c =
    let bytes = g.F.Files.bytes in
    let r = c.run_into-ran in
    let place = c.in_ok-place-in-Some in
    printed_on_err r.result _ _
    (asked_stay_by g.F.Files.is_known c.args.names.now.store c.in-Some.store place.place.target (bytes c.args.files.now) (bytes c.place_of.new.files)
    (bytes r.new.files) (bytes c.explain_replaced.new.files) c.in-Some.is place.ensures.file place.ensures.free place.ensures.kept
    c.explain_replaced.ensures.kept)
    r.ensures.stays

pub returns-in-None-clause-stays : goal.returns-in-None-clause-stays
returns-in-None-clause-stays g c =
    on_err c.run_into.result _
    (asked_stay_none g.F.Files.is_known c.args.names.now.store (g.F.Files.bytes c.args.files.now) (g.F.Files.bytes c.run_into.new.files) c.in-None.is)
