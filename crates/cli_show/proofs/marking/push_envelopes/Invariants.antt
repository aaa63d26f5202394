use Rattle.std.proofs.Common.{Some, map, string_bytes, take}
use Rattle.log_orderer.specs.Marks.{envelope_mark}
use Rattle.cli_show.specs.Marks.{HasTexts}
use Rattle.cli_show.proofs.marking.push_envelopes.Given as goal

abbrev pub invariant-loop-envelope : goal.invariant-loop-envelope
invariant-loop-envelope l =
    HasTexts (map envelope_mark (take l.envelope-index l.envelopes)) (Some (string_bytes l.fn.text)) (Some (string_bytes l.text))
