use Rattle.std.proofs.Common.{List, [], ◌∷◌, OnErr, OnOk, subst}
use Rattle.cli_lines.specs.Told.{PrintsNothing}
use Rattle.cli_lines.proofs.Printing.{nothing_same, printed_on_err}
use Rattle.kept_state.specs.Keeping.{chain_of}
use Rattle.serde_json.specs.Data.{Data}
use Rattle.ledger_model.specs.Chain.{history}
use Rattle.std.proofs.Common.{string_bytes, take}
use Rattle.cli_show.specs.Answers.{part_json}
use Rattle.cli_show.specs.Lines.{HasLines, PrintsFirst, writes_json}
use Rattle.cli_show.proofs.Behind.{lines_held, on_ok}
use Rattle.cli_show.proofs.First.{first_none}
use Rattle.cli_show.proofs.SoughtParts.{members_shown, state_shown}
use Rattle.cli_show.proofs.showing.print_asked.Goals as goal

pub returns-in-Some-clause-first : goal.returns-in-Some-clause-first
returns-in-Some-clause-first g c =
    let sought = c.args.sought.now in
    first_none (part_json c.args.rules.now sought.asked.part sought.asked.at (chain_of c.args.replayed.now.chain)) c.args.out.now c.args.out.now
    (nothing_same c.args.out.now)

pub returns-in-Entries-clause-lines : goal.returns-in-Entries-clause-lines
returns-in-Entries-clause-lines g c =
    let sought = c.args.sought.now in
    let was = rw c.in-Entries.is at c.requires in
    rw c.in-Entries.is
    (subst (λ (ds : List Data). OnOk c.print_state.result (HasLines ds c.args.out.now.bytes c.print_state.new.out.bytes))
    (state_shown sought.asked.at sought.state.entries (chain_of c.args.replayed.now.chain) was c.print_state.ensures.ordered) c.print_state.ensures.lines)

pub returns-in-Entries-clause-first : goal.returns-in-Entries-clause-first
returns-in-Entries-clause-first g c =
    let sought = c.args.sought.now in
    let was = rw c.in-Entries.is at c.requires in
    rw c.in-Entries.is
    (subst (λ (ds : List Data). OnErr c.print_state.result (PrintsFirst ds c.args.out.now c.print_state.new.out))
    (state_shown sought.asked.at sought.state.entries (chain_of c.args.replayed.now.chain) was c.print_state.ensures.ordered) c.print_state.ensures.first)

pub returns-in-Writes-clause-lines : goal.returns-in-Writes-clause-lines
returns-in-Writes-clause-lines g c =
    let sought = c.args.sought.now in
    let lines = writes_json c.in-Writes.field-0.now (history (take sought.asked.at (chain_of c.args.replayed.now.chain))) in
    let was = rw c.in-Writes.is at c.requires in
    rw c.in-Writes.is
    (on_ok c.print_text.result _ (HasLines lines c.args.out.now.bytes c.print_text.new.out.bytes)
    (λ h. lines_held lines (string_bytes sought.writes) c.args.out.now.bytes c.print_text.new.out.bytes was h) c.print_text.ensures.text)

pub returns-in-Writes-clause-first : goal.returns-in-Writes-clause-first
returns-in-Writes-clause-first g c =
    let t = c.args.out.now in
    let u = c.print_text.new.out in
    let sought = c.args.sought.now in
    let lines = part_json c.args.rules.now sought.asked.part sought.asked.at (chain_of c.args.replayed.now.chain) in
    printed_on_err c.print_text.result (PrintsNothing t u) (PrintsFirst lines t u) (λ none. first_none lines t u none) c.print_text.ensures.nothing

pub returns-in-Members-clause-lines : goal.returns-in-Members-clause-lines
returns-in-Members-clause-lines g c =
    let sought = c.args.sought.now in
    let was = rw c.in-Members.is at c.requires in
    rw c.in-Members.is
    (subst (λ (d : Data). OnOk c.print_members.result (HasLines (d ∷ []) c.args.out.now.bytes c.print_members.new.out.bytes))
    (members_shown c.args.rules.now sought.asked.at sought.state.entries (chain_of c.args.replayed.now.chain) was) c.print_members.ensures.line)

pub returns-in-Members-clause-first : goal.returns-in-Members-clause-first
returns-in-Members-clause-first g c =
    let t = c.args.out.now in
    let u = c.print_members.new.out in
    let sought = c.args.sought.now in
    let lines = part_json c.args.rules.now sought.asked.part sought.asked.at (chain_of c.args.replayed.now.chain) in
    printed_on_err c.print_members.result (PrintsNothing t u) (PrintsFirst lines t u) (λ none. first_none lines t u none) c.print_members.ensures.nothing
