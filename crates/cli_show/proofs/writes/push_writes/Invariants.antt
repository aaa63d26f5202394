use Rattle.std.proofs.Common.{Some, string_bytes, take}
use Rattle.ledger_model.specs.Chain.{transactions_from}
use Rattle.cli_show.specs.Lines.{HasLines, writes_json}
use Rattle.cli_show.proofs.writes.push_writes.Given as goal

abbrev pub invariant-loop-place : goal.invariant-loop-place
invariant-loop-place l =
    HasLines (writes_json l.key (transactions_from l.number 0 (take l.place l.envelopes) (take l.place l.flags))) (Some (string_bytes l.fn.text))
    (Some (string_bytes l.text))
