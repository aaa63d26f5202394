use Rattle.std.proofs.Common.{◌≡◌, ◌++◌, take}
use Rattle.std.specs.List.{AllByRecursion, flat_map}
use Rattle.fab_types.proofs.spelled.write_each.Given as goal

abbrev pub invariant-loop-item : goal.invariant-loop-item
invariant-loop-item g l = record {
  spelled : l.out.items ≡ l.fn.out.items ++ flat_map g.T.Spelled.spelling (take l.item-index l.items);
  within : AllByRecursion g.T.Spelled.within (take l.item-index l.items);
}
