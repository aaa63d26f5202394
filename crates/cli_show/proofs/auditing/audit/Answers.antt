use Rattle.std.proofs.Common.{inl, ◌∙◌}
use Rattle.std.proofs.lemmas.Result.{err_from_is_err_and}
use Rattle.cli_lines.proofs.Answering.{answers_by, begins_by}
use Rattle.cli_lines.proofs.Printing.{nothing_same}
use Rattle.cli_lines.specs.Told.{IsTextOf}
use Rattle.cli_lines.proofs.Silence.{no_less, tells_by}
use Rattle.kept_state.specs.Keeping.{chain_of}
use Rattle.cli_show.specs.Findings.{Audits, AuditsReplay}
use Rattle.cli_show.proofs.Seen.{at_book}
use Rattle.cli_show.proofs.auditing.audit.Goals as goal

pub returns-in_err-replayed : goal.returns-in_err-replayed
returns-in_err-replayed g c =
    let p = err_from_is_err_and c.from_residual.result c.from_residual.ensures.1 in
    rw (p.1, p.2) (record {
      tells = tells_by c.args.out.now c.args.out.now _ (no_less c.args.out.now) c.in_err-replayed.ensures.silent;
      answers = inl c.in_err-replayed.ensures.lost;
      begins = λ broken. inl (nothing_same c.args.out.now);
      kept = c.in_err-replayed.ensures.kept;
    })

pub returns-clause-answers : goal.returns-clause-answers
returns-clause-answers g c =
    let genesis = c.args.genesis.now in
    let r = c.in_ok-replayed.replayed in
    let same = c.in_ok-replayed.ensures.context ∙ c.new-rerun.ensures.book ∙ c.deref.ensures in
    let last = c.print_replayed in
    let rerun = c.in_ok-replayed.rerun in
    let is = at_book rerun.audit rerun.missing (chain_of r.chain) same c.in_ok-replayed.ensures.took in
    let found = c.finding_of-finding.ensures genesis is in
    answers_by (AuditsReplay genesis r) (Audits genesis (g.F.Files.bytes c.args.files.now c.args.store.now)) c.args.out.now last.new.out last.result
    (λ text h. (r, c.in_ok-replayed.ensures.replayed, h)) (last.ensures.answers genesis found)

pub returns-clause-begins : goal.returns-clause-begins
returns-clause-begins g c =
    let genesis = c.args.genesis.now in
    let r = c.in_ok-replayed.replayed in
    let same = c.in_ok-replayed.ensures.context ∙ c.new-rerun.ensures.book ∙ c.deref.ensures in
    let last = c.print_replayed in
    let rerun = c.in_ok-replayed.rerun in
    let is = at_book rerun.audit rerun.missing (chain_of r.chain) same c.in_ok-replayed.ensures.took in
    let found = c.finding_of-finding.ensures genesis is in
    begins_by (IsTextOf (AuditsReplay genesis r)) (IsTextOf (Audits genesis (g.F.Files.bytes c.args.files.now c.args.store.now))) c.args.out.now
    last.new.out last.result (λ text h. (h.0, (r, c.in_ok-replayed.ensures.replayed, h.1))) (last.ensures.begins genesis found)

pub returns-clause-kept : goal.returns-clause-kept
returns-clause-kept g c = c.explain_findings.ensures.kept ∙ c.in_ok-replayed.ensures.kept

pub returns-clause-tells : goal.returns-clause-tells
returns-clause-tells g c = c.print_replayed.ensures.tells
