use Rattle.std.proofs.Common.{arith}
use Rattle.fab_types.proofs.Ascending.{one_ascends, rest_of, two_ascend, two_do_not}
use Rattle.fab_types.proofs.ordered.+are_ascending.Goals as goal

pub returns-in-empty : goal.returns-in-empty
returns-in-empty g t c = one_ascends g.T.Ordered.place_of c.args.items.now (omega arith)

pub returns-in-len1 : goal.returns-in-len1
returns-in-len1 g t c = one_ascends g.T.Ordered.place_of c.args.items.now (omega arith)

pub returns-then-is_before : goal.returns-then-is_before
returns-then-is_before g t c =
    two_ascend g.T.Ordered.place_of c.args.items.now _ c.first-item.result c.index-rest-0.result c.is_before.result c.are_ascending.result
    (rest_of g.T.Ordered.place_of c.args.items.now) c.in-len1-up.len_at_least c.first-item.is c.index-rest-0.is
    c.is_before.ensures c.if-is_before.true c.are_ascending.ensures

pub returns-else-is_before : goal.returns-else-is_before
returns-else-is_before g t c =
    two_do_not g.T.Ordered.place_of c.args.items.now _ c.first-item.result c.index-rest-0.result c.is_before.result
    (rest_of g.T.Ordered.place_of c.args.items.now) c.in-len1-up.len_at_least c.first-item.is c.index-rest-0.is
    c.is_before.ensures c.if-is_before.false
