use Rattle.std.proofs.Common.{◌≡◌, ◌∙◌, ℕ, true, false, List, [], Option, IfSome, Err, OnErr, inl, inr, option_map, ap, refl, subst}
use Rattle.std.specs.List.{list_any}
use Rattle.std.proofs.lemmas.Result.{err_from_is_err_and}
use Rattle.cli_lines.proofs.Answering.{begins_by}
use Rattle.cli_lines.proofs.Printing.{nothing_same, on_err, prints_none}
use Rattle.cli_lines.proofs.Silence.{no_less, tells_by}
use Rattle.cli_lines.specs.Places.{FilesHeld}
use Rattle.cli_lines.specs.Sealing.{lacks_seed}
use Rattle.cli_lines.specs.Told.{Answers, Begins}
use Rattle.cli_lines.specs.Whole.{Stays}
use Rattle.cli_session.specs.Stored.{HoldsAsked}
use Rattle.cli_session.specs.Whole.{LinesBegin, LinesComeTo, RunBegins}
use Rattle.cli_session.proofs.Pieces.{fresh_reader}
use Rattle.cli_session.proofs.Staying.{asked_stay}
use Rattle.cli_session.proofs.Stored.{asked_all, asked_behind, asked_kept, refuses_behind, spares_behind}
use Rattle.cli_session.proofs.Whole.{with_seeds}
use Rattle.cli_session.proofs.session.run.Goals as goal

pub returns-in_err-need_seeds : goal.returns-in_err-need_seeds
returns-in_err-need_seeds g c =
    let p = err_from_is_err_and c.from_residual.result c.from_residual.ensures.1 in
    let e = c.in_err-need_seeds.ensures in
    let lacks = lacks_seed c.args.genesis.now.rules.value c.args.genesis.now.signers.value in
    let lack = subst (λ (orgs : List (List ℕ)). list_any lacks orgs ≡ true) c.deref.ensures.value (e.refused (ap Err e.only)) in
    rw (p.1, p.2) (record {
      tells = tells_by c.args.out.now c.args.out.now _ (no_less c.args.out.now) e.silent;
      differs = tt;
      answers = inr ([], inr (lack, ap Err e.only, refl), prints_none c.args.out.now);
      begins = λ broken. inl (nothing_same c.args.out.now);
      kept = λ none. c.in_err-need_seeds.ensures.kept;
      others = asked_kept g.F.Files.is_known c.args.names.now.store (g.F.Files.bytes c.args.files.now) (g.F.Files.bytes c.need_seeds.new.files)
          c.in_err-need_seeds.ensures.kept;
      stays = asked_stay g.F.Files.is_known c.args.names.now.store (g.F.Files.bytes c.args.files.now) (g.F.Files.bytes c.need_seeds.new.files)
          c.in_err-need_seeds.ensures.kept;
      spares = asked_all g.F.Files.is_known c.args.names.now.store (g.F.Files.bytes c.args.files.now) _ c.in_err-need_seeds.ensures.kept;
      refuses = asked_all g.F.Files.is_known c.args.names.now.store (g.F.Files.bytes c.args.files.now) _ (inr e.only);
    })

pub returns-in_default-clause-others : goal.returns-in_default-clause-others
returns-in_default-clause-others g c =
    asked_kept g.F.Files.is_known c.args.names.now.store (g.F.Files.bytes c.args.files.now) (g.F.Files.bytes c.explain_trouble.new.files)
    (c.explain_trouble.ensures.kept ∙ c.open.ensures.kept ∙ c.need_seeds.ensures.kept)

pub returns-in_err-lines-clause-others : goal.returns-in_err-lines-clause-others
returns-in_err-lines-clause-others g c =
    asked_kept g.F.Files.is_known c.args.names.now.store (g.F.Files.bytes c.args.files.now) (g.F.Files.bytes c.open.new.self)
    (c.open.ensures.kept ∙ c.need_seeds.ensures.kept)

pub returns-clause-others : goal.returns-clause-others
returns-clause-others g c =
    let bytes = g.F.Files.bytes in
    asked_behind g.F.Files.is_known c.args.names.now.store (bytes c.args.files.now) (bytes c.open.new.self) (bytes c.run_read.new.files)
    (c.open.ensures.kept ∙ c.need_seeds.ensures.kept) c.run_read.ensures.others

pub returns-in_default-clause-spares : goal.returns-in_default-clause-spares
returns-in_default-clause-spares g c =
    asked_all g.F.Files.is_known c.args.names.now.store (g.F.Files.bytes c.args.files.now) _
    (c.explain_trouble.ensures.kept ∙ c.open.ensures.kept ∙ c.need_seeds.ensures.kept)

pub returns-in_default-clause-refuses : goal.returns-in_default-clause-refuses
returns-in_default-clause-refuses g c = asked_all g.F.Files.is_known c.args.names.now.store (g.F.Files.bytes c.args.files.now) _ (inl tt)

pub returns-in_err-lines-clause-spares : goal.returns-in_err-lines-clause-spares
returns-in_err-lines-clause-spares g c =
    asked_all g.F.Files.is_known c.args.names.now.store (g.F.Files.bytes c.args.files.now) _ (c.open.ensures.kept ∙ c.need_seeds.ensures.kept)

pub returns-in_err-lines-clause-refuses : goal.returns-in_err-lines-clause-refuses
returns-in_err-lines-clause-refuses g c =
    let p = err_from_is_err_and c.from_residual-in_err-lines.result c.from_residual-in_err-lines.ensures.1 in
    rw p.1 (asked_all g.F.Files.is_known c.args.names.now.store (g.F.Files.bytes c.args.files.now) _ (inl p.2.1))

pub returns-clause-spares : goal.returns-clause-spares
returns-clause-spares g c =
    let bytes = g.F.Files.bytes in
    spares_behind g.F.Files.is_known c.args.names.now.store (bytes c.args.files.now) (bytes c.open.new.self) (bytes c.run_read.new.files)
    (c.open.ensures.kept ∙ c.need_seeds.ensures.kept) c.run_read.ensures.spares

pub returns-clause-refuses : goal.returns-clause-refuses
returns-clause-refuses g c =
    let bytes = g.F.Files.bytes in
    refuses_behind g.F.Files.is_known c.args.names.now.store (bytes c.args.files.now) (bytes c.open.new.self) _
    (c.open.ensures.kept ∙ c.need_seeds.ensures.kept) c.run_read.ensures.refuses

pub returns-clause-answers : goal.returns-clause-answers
returns-clause-answers g c =
    let r = c.in_ok-lines.ensures in
    let genesis = c.args.genesis.now in
    let lacks = lacks_seed genesis.rules.value genesis.signers.value in
    let name = c.args.names.now.events.now in
    let held = g.F.Files.bytes c.args.files.now name in
    let stored = HoldsAsked g.F.Files.is_known (g.F.Files.bytes c.run_read.new.files) (option_map (λ s. s.now) c.args.names.now.store) in
    let same = ap (λ x. g.F.Reader.Read.remaining x) r.inner ∙ c.in-Some.ensures.read ∙ ap (λ f. g.F.Files.bytes f name) c.in_ok-need_seeds.ensures.unchanged in
    let none = subst (λ (orgs : List (List ℕ)). list_any lacks orgs ≡ false) c.deref.ensures.value (c.in_ok-need_seeds.ensures.ok refl) in
    with_seeds genesis held stored c.args.out.now c.run_read.new.out c.run_read.result none
    (subst (λ (o : Option (List ℕ)). Answers (LinesComeTo genesis o stored) c.args.out.now c.run_read.new.out c.run_read.result)
    (fresh_reader _ _ _ held r.capacity r.empty same) c.run_read.ensures.comes)

pub returns-clause-begins : goal.returns-clause-begins
returns-clause-begins g c =
    let r = c.in_ok-lines.ensures in
    let genesis = c.args.genesis.now in
    let lacks = lacks_seed genesis.rules.value genesis.signers.value in
    let name = c.args.names.now.events.now in
    let held = g.F.Files.bytes c.args.files.now name in
    let same = ap (λ x. g.F.Reader.Read.remaining x) r.inner ∙ c.in-Some.ensures.read ∙ ap (λ f. g.F.Files.bytes f name) c.in_ok-need_seeds.ensures.unchanged in
    let none = subst (λ (orgs : List (List ℕ)). list_any lacks orgs ≡ false) c.deref.ensures.value (c.in_ok-need_seeds.ensures.ok refl) in
    begins_by (LinesBegin genesis held) (RunBegins genesis held) c.args.out.now c.run_read.new.out c.run_read.result (λ text is. (none, is))
    (subst (λ (o : Option (List ℕ)). Begins (LinesBegin genesis o) c.args.out.now c.run_read.new.out c.run_read.result)
    (fresh_reader _ _ _ held r.capacity r.empty same) c.run_read.ensures.begins)

pub returns-in_default-clause-kept : goal.returns-in_default-clause-kept
returns-in_default-clause-kept g c = λ none. c.explain_trouble.ensures.kept ∙ c.open.ensures.kept ∙ c.need_seeds.ensures.kept

pub returns-in_err-lines-clause-kept : goal.returns-in_err-lines-clause-kept
returns-in_err-lines-clause-kept g c = λ none. c.open.ensures.kept ∙ c.need_seeds.ensures.kept

pub returns-clause-kept : goal.returns-clause-kept
returns-clause-kept g c = λ none. c.run_read.ensures.kept none ∙ c.open.ensures.kept ∙ c.need_seeds.ensures.kept

pub returns-clause-tells : goal.returns-clause-tells
returns-clause-tells g c = c.run_read.ensures.tells

pub returns-clause-differs : goal.returns-clause-differs
returns-clause-differs g c = c.run_read.ensures.differs

pub returns-in_default-clause-stays : goal.returns-in_default-clause-stays
returns-in_default-clause-stays g c =
    asked_stay g.F.Files.is_known c.args.names.now.store (g.F.Files.bytes c.args.files.now) (g.F.Files.bytes c.explain_trouble.new.files)
    (c.explain_trouble.ensures.kept ∙ c.open.ensures.kept ∙ c.need_seeds.ensures.kept)

pub returns-in_err-lines-clause-stays : goal.returns-in_err-lines-clause-stays
returns-in_err-lines-clause-stays g c =
    on_err c.from_residual-in_err-lines.result _
    (asked_stay g.F.Files.is_known c.args.names.now.store (g.F.Files.bytes c.args.files.now) (g.F.Files.bytes c.open.new.self)
    (c.open.ensures.kept ∙ c.need_seeds.ensures.kept))

pub returns-clause-stays : goal.returns-clause-stays
returns-clause-stays g c =
    let r = c.run_read in
    let new = g.F.Files.bytes r.new.files in
    subst (λ (h : FilesHeld). OnErr r.result (IfSome c.args.names.now.store (λ s. Stays g.F.Files.is_known s.now h new)))
    (c.open.ensures.kept ∙ c.need_seeds.ensures.kept) r.ensures.stays
