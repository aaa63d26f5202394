use Rattle.std.proofs.Common.{◌+◌, List, [], ◌∷◌, take, drop, map, ap, sym, ◌∙◌, arith, string_bytes}
use Rattle.std.proofs.lemmas.List.{map-append, take-append-drop}
use Rattle.std.specs.Map.Iter.{deref_pair}
use Rattle.json_chain.specs.Entries.{entry_json}
use Rattle.ledger_model.specs.Chain.{Bytes, Version}
use Rattle.cli_lines.proofs.Printing.{nothing_same, on_err}
use Rattle.cli_lines.proofs.Silence.{and_more}
use Rattle.cli_show.specs.Lines.{entries_json}
use Rattle.cli_show.proofs.Behind.{line_behind}
use Rattle.cli_show.proofs.First.{first_left}
use Rattle.cli_show.proofs.Cuts.{one_more}
use Rattle.cli_show.proofs.entries.print_entries.Goals as goal

pub loop-key-preserved : goal.loop-key-preserved
loop-key-preserved g c =
    let i = c.loop-key.invariant in
    let k = c.loop-key.key-index in
    let es = c.args.entries.now in
    let e = c.loop-key-item.result in
    let taken = one_more k es e (omega (arith, c.loop-key-test.true)) c.loop-key-item.is in
    let pairs = ap (map deref_pair) taken ∙ map-append deref_pair (take k es) (e ∷ []) in
    record {
      more = and_more _ _ _ i.more c.in_ok-print_line.ensures.tells.0;
      failed = c.in_ok-print_line.ensures.tells.1 ∙ i.failed;
      lines =
          line_behind (entries_json (map deref_pair (take k es))) (entries_json (map deref_pair (take (k + 1) es)))
          (entry_json e.0.now e.1.now.0 e.1.now.1) (string_bytes c.in_ok-line.line)
          c.args.out.now.bytes c.loop-key.out.bytes c.print_line.new.out.bytes
          (ap (λ (ps : List (Bytes × (Bytes × Version))). entries_json ps) pairs ∙ map-append _ (map deref_pair (take k es)) (deref_pair e ∷ []))
          i.lines c.in_ok-line.ensures c.in_ok-print_line.ensures.line;
    }

pub returns-in_err-line-clause-first : goal.returns-in_err-line-clause-first
returns-in_err-line-clause-first g c =
    let i = c.loop-key.invariant in
    let k = c.loop-key.key-index in
    let es = c.args.entries.now in
    let pairs = ap (map deref_pair) (sym (take-append-drop k es)) ∙ map-append deref_pair (take k es) (drop k es) in
    on_err c.from_residual.result _ (first_left (entries_json (map deref_pair es)) (entries_json (map deref_pair (take k es)))
    (entries_json (map deref_pair (drop k es))) c.args.out.now c.loop-key.out c.loop-key.out
    (ap (λ (ps : List (Bytes × (Bytes × Version))). entries_json ps) pairs ∙ map-append _ (map deref_pair (take k es)) (map deref_pair (drop k es)))
    i.more i.failed i.lines (nothing_same c.loop-key.out))

pub returns-in_err-print_line-clause-first : goal.returns-in_err-print_line-clause-first
returns-in_err-print_line-clause-first g c =
    let i = c.loop-key.invariant in
    let k = c.loop-key.key-index in
    let es = c.args.entries.now in
    let pairs = ap (map deref_pair) (sym (take-append-drop k es)) ∙ map-append deref_pair (take k es) (drop k es) in
    on_err c.from_residual-in_err-print_line.result _ (first_left (entries_json (map deref_pair es)) (entries_json (map deref_pair (take k es)))
    (entries_json (map deref_pair (drop k es))) c.args.out.now c.loop-key.out c.print_line.new.out
    (ap (λ (ps : List (Bytes × (Bytes × Version))). entries_json ps) pairs ∙ map-append _ (map deref_pair (take k es)) (map deref_pair (drop k es)))
    i.more i.failed i.lines c.in_err-print_line.ensures.nothing)
