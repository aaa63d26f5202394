use Rattle.std.proofs.Common.{◌≡◌, ◌++◌, length}
use Rattle.policy_language.specs.Names.{names_in_text}
use Rattle.policy_language.proofs.names.names_in_text.Given as goal

abbrev pub invariant-loop-rest : goal.invariant-loop-rest
invariant-loop-rest l = l.names.items ++ names_in_text l.rest ≡ names_in_text l.text

abbrev pub decreases-loop-rest : goal.decreases-loop-rest
decreases-loop-rest l = length l.rest
