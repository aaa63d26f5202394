use Rattle.std.proofs.Common.{◌≡◌, ◌∙◌, ℕ, List, [], Bool, true, false, Some, None, ap, refl}
use Rattle.std.specs.Prelude.{not, if◌then◌else◌}
use Rattle.std.specs.Str.Lossy.{utf8_lossy}
use Rattle.log_peer.specs.Peering.{held_by}
use Rattle.cli_lines.proofs.Printing.{prints_none}
use Rattle.peer_answers.specs.Seen.{TellsFork, fork_text, forked_text, is_fork}
use Rattle.peer_answers.specs.declared.seen.SignedSeen.{SignedSeen}
use Rattle.cli_peer.proofs.Filters.{prints_so}
use Rattle.cli_peer.proofs.logged.Telling.print_signed.Goals as goal

pub returns-in-None-clause-prints : goal.returns-in-None-clause-prints
returns-in-None-clause-prints g c = ([], (None, c.in-None.ensures, refl), prints_none c.args.out.now)

-- a fork is told by the lossy text of the name
fork_told : (s : SignedSeen) (fork told : Bool) (org : List ℕ) → fork ≡ told → org ≡ utf8_lossy s.org →
    (if not fork then [] else forked_text org s.number) ≡ fork_text s told
fork_told s true told org is lossy = ap (λ (o : List ℕ). forked_text o s.number) lossy ∙ ap (λ (b : Bool). fork_text s b) is
fork_told s false told org is lossy = ap (λ (b : Bool). fork_text s b) is

pub returns-in_ok-org-in-Some-clause-prints : goal.returns-in_ok-org-in-Some-clause-prints
returns-in_ok-org-in-Some-clause-prints g c =
    let log = c.args.self.now.log.now in
    let chain = (held_by c.args.self.now.peer.now).chain in
    let seen = c.in-Some.seen in
    let fork = c.in_ok-fork-in-Some.fork in
    let org = c.deref.result.now in
    let lossy : org ≡ utf8_lossy seen.org = c.deref.ensures ∙ c.in_ok-org-in-Some.ensures.lossy ∙ ap utf8_lossy c.as_slice.ensures.value in
    prints_so (TellsFork log.genesis.rules.value log.digest chain c.args.text.now) c.args.out.now c.print_unless.new.out c.print_unless.result
    (if not fork then [] else forked_text org seen.number) c.print_unless.ensures.prints
    (Some seen, c.in-Some.ensures, fork_told seen fork (is_fork log.genesis.rules.value log.digest chain seen) org c.in_ok-fork-in-Some.ensures lossy)
