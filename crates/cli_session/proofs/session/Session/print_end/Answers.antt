use Rattle.std.proofs.Common.{◌++◌, inr}
use Rattle.cli_lines.specs.Told.{PrintsNothing, PrintsPart}
use Rattle.cli_lines.proofs.Answering.{begins_part}
use Rattle.cli_lines.proofs.Printing.{part_first, part_none, part_then, printed_on_err}
use Rattle.cli_session.specs.Stages.{first_chain}
use Rattle.cli_session.specs.States.{state_text}
use Rattle.cli_session.specs.Verdicts.{verdict_text}
use Rattle.cli_session.specs.Whole.{IsEnd}
use Rattle.cli_session.proofs.Begun.{is_end}
use Rattle.cli_session.proofs.Whole.{ends_some}
use Rattle.cli_session.proofs.session.Session.print_end.Goals as goal

pub returns-clause-ends : goal.returns-clause-ends
returns-clause-ends g c =
    let p = c.print_verdict in
    ends_some c.args.genesis.now.book.value (first_chain c.args.self.now.system) c.in-Some.snapshot.now c.in_ok-verdict.verdict p.result
    c.args.out.now c.print_state.new.out p.new.out c.in-Some.ensures c.in_ok-verdict.ensures c.in_ok-print_state.ensures.prints
    p.ensures.good p.ensures.prints

pub returns-in_err-print_state-clause-begins : goal.returns-in_err-print_state-clause-begins
returns-in_err-print_state-clause-begins g c =
    let chain = c.in-Some.snapshot.now in
    let verdict = c.in_ok-verdict.verdict in
    let whole = is_end c.args.genesis.now.book.value (first_chain c.args.self.now.system) chain verdict c.in-Some.ensures
    c.in_ok-verdict.ensures in
    λ broken. inr (
      state_text chain ++ verdict_text verdict,
      whole,
      part_first c.args.out.now c.print_state.new.out (state_text chain) (verdict_text verdict) c.in_err-print_state.ensures.part,
    )

pub returns-clause-begins : goal.returns-clause-begins
returns-clause-begins g c =
    let p = c.print_verdict in
    let chain = c.in-Some.snapshot.now in
    let verdict = c.in_ok-verdict.verdict in
    let book = c.args.genesis.now.book.value in
    let first = first_chain c.args.self.now.system in
    let t = c.args.out.now in
    let u = c.print_state.new.out in
    let v = p.new.out in
    let text = state_text chain ++ verdict_text verdict in
    begins_part (IsEnd book first) t v p.result text (is_end book first chain verdict c.in-Some.ensures c.in_ok-verdict.ensures)
    (printed_on_err p.result (PrintsNothing u v) (PrintsPart t v text)
    (λ nothing. part_then t u v (state_text chain) (verdict_text verdict) c.in_ok-print_state.ensures.prints (part_none u v (verdict_text verdict) nothing))
    p.ensures.nothing)
