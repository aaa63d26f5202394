use Rattle.std.proofs.Common.{◌≡◌, ◌/◌, ◌^◌}
use Rattle.edwards_model.specs.Curve.{base, multiple}
use Rattle.edwards25519.specs.Comb.{tooth}
use Rattle.edwards25519.proofs.comb.tooth.Given as goal

abbrev pub invariant-loop-window : goal.invariant-loop-window
invariant-loop-window l = record {
  rest_is : l.rest ≡ l.number / 65536 ^ l.window;
  sum_is : l.sum ≡ multiple (tooth l.window l.number) base;
}
