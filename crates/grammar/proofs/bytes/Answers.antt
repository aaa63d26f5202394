use Rattle.grammar.specs.Spelling.{IsByte}
use Rattle.grammar.specs.Reading.{byte_at}
use Rattle.grammar.specs.Laws.Wholes.{byte_reads, spells_once}
use Rattle.grammar.proofs.bytes.Goals as goal

pub returns : goal.returns
returns c = record { reads = byte_reads; once = spells_once IsByte byte_at byte_reads }
