use Rattle.std.proofs.Common.{◌≡◌, take}
use Rattle.nearest_word.specs.Nearest.{IsNearest, most_edits}
use Rattle.nearest_word.proofs.Looking.{bound_of}
use Rattle.nearest_word.proofs.nearest.Given as goal

abbrev pub invariant-loop-each : goal.invariant-loop-each
invariant-loop-each l = record {
  nearest : IsNearest (most_edits l.word) l.word (take l.each-index l.words) l.best;
  bound : l.bound ≡ bound_of (most_edits l.word) l.word l.best;
}
