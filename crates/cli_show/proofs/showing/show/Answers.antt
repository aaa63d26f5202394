use Rattle.std.proofs.Common.{ap, inl, string_bytes, subst, ◌∙◌}
use Rattle.std.proofs.lemmas.Result.{err_from_is_err_and}
use Rattle.chaincode_book.specs.Books.{Book}
use Rattle.endorsement_policy.specs.Endorsed.{Listed}
use Rattle.cli_lines.specs.Told.{Answers, Begins}
use Rattle.cli_lines.proofs.Answering.{answers_by, begins_by}
use Rattle.cli_lines.proofs.Printing.{nothing_same}
use Rattle.cli_lines.proofs.Silence.{no_less, tells_by}
use Rattle.cli_show.specs.Findings.{ShowBegins, Shows, ShowsReplay}
use Rattle.kept_state.specs.Keeping.{chain_of}
use Rattle.cli_show.specs.Lines.{AreFirstLines, IsShown, chain_json}
use Rattle.cli_show.specs.declared.span.Span.{Span}
use Rattle.cli_show.proofs.Seen.{at_book}
use Rattle.cli_show.proofs.showing.show.Goals as goal

abbrev Context : Type 0
Context = Listed × (Span × Book)

pub returns-in_err-replayed : goal.returns-in_err-replayed
returns-in_err-replayed g c =
    let p = err_from_is_err_and c.from_residual.result c.from_residual.ensures.1 in
    rw (p.1, p.2) (record {
      tells = tells_by c.args.out.now c.args.out.now _ (no_less c.args.out.now) c.in_err-replayed.ensures.silent;
      answers = inl c.in_err-replayed.ensures.lost;
      begins = λ broken. inl (nothing_same c.args.out.now);
      kept = c.in_err-replayed.ensures.kept;
    })

pub returns-clause-answers : goal.returns-clause-answers
returns-clause-answers g c =
    let genesis = c.args.genesis.now in
    let shown = c.args.shown.now in
    let r = c.in_ok-replayed.replayed in
    let last = c.print_shown in
    let same = ap (λ (k : Context). k.1.0) c.in_ok-replayed.ensures.context ∙ c.new-chain.ensures.span in
    answers_by (ShowsReplay genesis shown.span.from shown.span.to r)
    (Shows genesis shown.span.from shown.span.to (g.F.Files.bytes c.args.files.now shown.store.now)) c.args.out.now last.new.out last.result
    (λ text h. (r, c.in_ok-replayed.ensures.replayed, h))
    (subst (λ (s : Span). Answers (ShowsReplay genesis s.from s.to r) c.args.out.now last.new.out last.result) same last.ensures.answers)

pub returns-clause-begins : goal.returns-clause-begins
returns-clause-begins g c =
    let genesis = c.args.genesis.now in
    let span = c.args.shown.now.span in
    let r = c.in_ok-replayed.replayed in
    let last = c.print_shown in
    let same = ap (λ (k : Context). k.1.0) c.in_ok-replayed.ensures.context ∙ c.new-chain.ensures.span in
    begins_by (AreFirstLines (chain_json genesis span.from span.to (chain_of r.chain)))
    (ShowBegins genesis span.from span.to (g.F.Files.bytes c.args.files.now c.args.shown.now.store.now)) c.args.out.now last.new.out last.result
    (λ text h. (r, c.in_ok-replayed.ensures.replayed, h))
    (subst (λ (s : Span). Begins (AreFirstLines (chain_json genesis s.from s.to (chain_of r.chain))) c.args.out.now last.new.out last.result) same
    last.ensures.begins)

pub returns-clause-kept : goal.returns-clause-kept
returns-clause-kept g c = c.explain_shown.ensures.kept ∙ c.in_ok-replayed.ensures.kept

pub returns-clause-tells : goal.returns-clause-tells
returns-clause-tells g c = c.print_shown.ensures.tells

pub print_shown-requires-clause-kept : goal.print_shown-requires-clause-kept
print_shown-requires-clause-kept g c = c.in_ok-replayed.ensures.replayed.2.kept

pub print_shown-requires-clause-shown : goal.print_shown-requires-clause-shown
print_shown-requires-clause-shown g c =
    let chain = c.in_ok-replayed.chain in
    let same = ap (λ (k : Context). k.0) c.in_ok-replayed.ensures.context ∙ c.new-chain.ensures.rules in
    subst (λ (l : Listed). IsShown l chain.span.from chain.span.to chain.membership (string_bytes chain.lines) (chain_of c.in_ok-replayed.replayed.chain)) same
    c.in_ok-replayed.ensures.took.0

pub print_shown-requires-clause-found : goal.print_shown-requires-clause-found
print_shown-requires-clause-found g c =
    let chain = c.in_ok-replayed.chain in
    let same = ap (λ (k : Context). k.1.1) c.in_ok-replayed.ensures.context ∙ c.new-chain.ensures.book in
    c.finding_of-finding.ensures c.args.genesis.now
    (at_book chain.rerun.audit chain.rerun.missing (chain_of c.in_ok-replayed.replayed.chain) same c.in_ok-replayed.ensures.took.1)
