use Rattle.std.proofs.Common.{OnErr, OnOk, inl, subst, ◌∙◌}
use Rattle.std.proofs.lemmas.Result.{err_from_is_err_and}
use Rattle.cli_lines.proofs.Printing.{nothing_same}
use Rattle.cli_lines.proofs.Silence.{no_less, tells_by}
use Rattle.endorsement_policy.specs.Endorsed.{Listed}
use Rattle.kept_state.specs.Keeping.{chain_of}
use Rattle.cli_show.specs.Answers.{part_json}
use Rattle.cli_show.specs.Lines.{HasLines, PrintsFirst}
use Rattle.cli_show.specs.declared.showing.Asked.{Asked}
use Rattle.cli_show.proofs.Replays.{state_begun, state_told}
use Rattle.cli_show.proofs.showing.state.Goals as goal

pub returns-in_err-replayed : goal.returns-in_err-replayed
returns-in_err-replayed g c =
    let p = err_from_is_err_and c.from_residual.result c.from_residual.ensures.1 in
    rw (p.1, p.2) (record {
      tells = tells_by c.args.out.now c.args.out.now _ (no_less c.args.out.now) c.in_err-replayed.ensures.silent;
      answers = inl c.in_err-replayed.ensures.lost;
      begins = λ broken. inl (nothing_same c.args.out.now);
      kept = c.in_err-replayed.ensures.kept;
    })

pub returns-clause-answers : goal.returns-clause-answers
returns-clause-answers g c =
    let asked = c.args.asked.now in
    let r = c.in_ok-replayed.replayed in
    let last = c.print_asked in
    let t = c.args.out.now in
    let chain = chain_of r.chain in
    let same = c.in_ok-replayed.ensures.context ∙ c.new-sought.ensures.asked in
    let here = subst (λ (a : Asked). OnOk last.result (HasLines (part_json c.deref.result.now a.part a.at chain) t.bytes last.new.out.bytes)) same
    last.ensures.lines in
    let lines = subst (λ (l : Listed). OnOk last.result (HasLines (part_json l asked.part asked.at chain) t.bytes last.new.out.bytes)) c.deref.ensures here in
    state_told c.args.genesis.now asked.part asked.at (g.F.Files.bytes c.args.files.now asked.store.now) r t last.new.out last.result
    c.in_ok-replayed.ensures.replayed last.ensures.tells last.ensures.refused lines last.ensures.lost

pub returns-clause-begins : goal.returns-clause-begins
returns-clause-begins g c =
    let asked = c.args.asked.now in
    let r = c.in_ok-replayed.replayed in
    let last = c.print_asked in
    let t = c.args.out.now in
    let chain = chain_of r.chain in
    let same = c.in_ok-replayed.ensures.context ∙ c.new-sought.ensures.asked in
    let here = subst (λ (a : Asked). OnErr last.result (PrintsFirst (part_json c.deref.result.now a.part a.at chain) t last.new.out)) same
    last.ensures.first in
    let first = subst (λ (l : Listed). OnErr last.result (PrintsFirst (part_json l asked.part asked.at chain) t last.new.out)) c.deref.ensures here in
    state_begun c.args.genesis.now asked.part asked.at (g.F.Files.bytes c.args.files.now asked.store.now) r t last.new.out last.result
    c.in_ok-replayed.ensures.replayed last.ensures.refused first

pub returns-clause-kept : goal.returns-clause-kept
returns-clause-kept g c = c.explain_asked.ensures.kept ∙ c.in_ok-replayed.ensures.kept

pub returns-clause-tells : goal.returns-clause-tells
returns-clause-tells g c = c.print_asked.ensures.tells
