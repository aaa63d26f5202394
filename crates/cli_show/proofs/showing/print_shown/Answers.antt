use Rattle.std.proofs.Common.{[], None, sym, ◌∙◌, arith}
use Rattle.json_chain.specs.Standing.{blocks_json}
use Rattle.kept_state.specs.Keeping.{chain_of}
use Rattle.std.proofs.lemmas.List.{append-nil}
use Rattle.cli_lines.proofs.Printing.{on_err}
use Rattle.cli_show.specs.Lines.{AreFirstLines, chain_json}
use Rattle.cli_show.specs.Spans.{within}
use Rattle.cli_show.proofs.First.{begins_first, ends_whole, first_left}
use Rattle.cli_lines.proofs.Silence.{and_more}
use Rattle.cli_show.proofs.Replays.{end_told, show_told}
use Rattle.cli_show.proofs.showing.print_shown.Goals as goal

pub returns-clause-tells : goal.returns-clause-tells
returns-clause-tells g c =
    let first = c.in_ok-print_chain.ensures.tells in
    let next = c.in_ok-is_good.ensures in
    end_told c.in_ok-is_good.is_good None c.args.out.now c.print_ending.new.out c.ends_with.result c.ends_with.ensures
    (and_more _ _ _ first.0 next.tells.0) (next.tells.1 ∙ first.1) (omega (arith, first.0.prints, next.printed)) tt

pub returns-clause-answers : goal.returns-clause-answers
returns-clause-answers g c =
    let first = c.in_ok-print_chain.ensures in
    let next = c.in_ok-is_good.ensures in
    let genesis = c.args.genesis.now in
    let span = c.args.chain.now.span in
    let chain = chain_of c.args.replayed.now.chain in
    show_told genesis span.from span.to c.args.replayed.now c.args.out.now c.print_chain.new.out c.print_ending.new.out c.in_ok-is_good.is_good
    c.ends_with.result c.ends_with.ensures (and_more _ _ _ first.tells.0 next.tells.0) (next.tells.1 ∙ first.tells.1)
    (first.lines (within span.from span.to (blocks_json genesis.rules.value None chain)) c.requires.shown.0) (next.line genesis c.requires.found)

pub returns-in_err-print_chain-clause-begins : goal.returns-in_err-print_chain-clause-begins
returns-in_err-print_chain-clause-begins g c =
    let genesis = c.args.genesis.now in
    let span = c.args.chain.now.span in
    let chain = chain_of c.args.replayed.now.chain in
    begins_first (chain_json genesis span.from span.to chain) c.args.out.now c.print_chain.new.out c.from_residual.result
    (on_err c.from_residual.result _
    (c.in_err-print_chain.ensures.first (within span.from span.to (blocks_json genesis.rules.value None chain)) c.requires.shown.0))

pub returns-in_err-is_good-clause-begins : goal.returns-in_err-is_good-clause-begins
returns-in_err-is_good-clause-begins g c =
    let genesis = c.args.genesis.now in
    let span = c.args.chain.now.span in
    let chain = chain_of c.args.replayed.now.chain in
    let all = chain_json genesis span.from span.to chain in
    let first = c.in_ok-print_chain.ensures in
    let lines = first.lines (within span.from span.to (blocks_json genesis.rules.value None chain)) c.requires.shown.0 in
    begins_first all c.args.out.now c.print_ending.new.out c.from_residual-in_err-is_good.result
    (on_err c.from_residual-in_err-is_good.result _ (first_left all all [] c.args.out.now c.print_chain.new.out c.print_ending.new.out
    (sym (append-nil all)) first.tells.0 first.tells.1 lines c.in_err-is_good.ensures.nothing))

pub returns-clause-begins : goal.returns-clause-begins
returns-clause-begins g c =
    let span = c.args.chain.now.span in
    ends_whole c.in_ok-is_good.is_good (AreFirstLines (chain_json c.args.genesis.now span.from span.to (chain_of c.args.replayed.now.chain)))
    c.args.out.now c.print_ending.new.out c.ends_with.result c.ends_with.ensures
