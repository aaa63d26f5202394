use Rattle.std.proofs.Common.{◌≡◌, ◌<◌, drop}
use Rattle.policy_language.specs.Spelling.{decimal_after}
use Rattle.policy_language.proofs.Decimals.{power}
use Rattle.policy_language.proofs.reader.decimal.Given as goal

abbrev pub invariant-loop-digit : goal.invariant-loop-digit
invariant-loop-digit l = record {
  small : l.value < power l.digit-index;
  so_far : decimal_after l.value (drop l.digit-index l.digits) ≡ decimal_after 0 l.digits;
}
