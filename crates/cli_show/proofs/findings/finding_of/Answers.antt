use Rattle.std.proofs.Common.{rules, ◌≡◌, ◌∙◌, None, sym}
use Rattle.simulator.specs.Execution.{exec_of}
use Rattle.kept_state.specs.Keeping.{chain_of}
use Rattle.cli_show.proofs.findings.finding_of.Goals as goal

pub returns : goal.returns
returns c = λ g is.
    let replayed = c.args.replayed.now in
    let rerun = c.args.rerun.now in
    let differs : replayed.differs ≡ None = search rules in
    let refused : replayed.refused ≡ None = search rules in
    let missing : rerun.missing ≡ None = search rules in
    (differs, refused, sym is.1 ∙ missing, c.finding.ensures (exec_of g.book.value) (chain_of replayed.chain) is.0)
