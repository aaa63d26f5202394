use Rattle.std.proofs.Common.{◌≡◌, true, false, is_eq, get_or, sym, ap, ◌-◌, ◌∙◌, arith}
use Rattle.fab_types.specs.Order.{key_cmp}
use Rattle.fab_types.specs.Touched.{same_key}
use Rattle.reorder.proofs.Tables.{key_stretch}
use Rattle.reorder.proofs.Starts.{start_of_first, start_of_key, start_of_absent}
use Rattle.reorder.proofs.Hits.{set_stretch, set_nothing}
use Rattle.reorder.proofs.writes.set_for_key.Goals as goal

pub slice_bounds-set_writers-start : goal.slice_bounds-set_writers-start
slice_bounds-set_writers-start c = omega (arith, c.requires.starts.upto (c.end_of-end.result - 1))

pub returns-then-end-eq0 : goal.returns-then-end-eq0
returns-then-end-eq0 c =
    let index = c.args.index.now in
    let end = c.end_of-end.result in
    set_nothing (λ k. same_key c.args.key.now k) index end end (λ j. get_or c.args.row.now j false) (omega arith)
    (key_stretch index c.args.key.now end end (start_of_first index c.args.key.now end (omega arith) c.end_of-end.ensures.point) c.end_of-end.ensures.point)

pub returns-then-is_eq : goal.returns-then-is_eq
returns-then-is_eq c =
    let index = c.args.index.now in
    let key = c.args.key.now in
    let end = c.end_of-end.result in
    let last = c.index-index-end.result in
    let same : is_eq (key_cmp last.key.now key) ≡ true = sym (ap is_eq c.cmp.ensures) ∙ sym c.is_eq.ensures ∙ c.if-is_eq.true in
    let from = start_of_key index c.args.starts.now key (end - 1) last c.requires.starts (omega arith) c.index-index-end.is same in
    let upto = c.requires.starts.upto (end - 1) (omega arith) in
    set_stretch (λ k. same_key key k) index (get_or c.args.starts.now (end - 1) 0) end (λ j. get_or c.args.row.now j false)
    (λ j. get_or c.set_writers.new.row j false) (omega arith) c.end_of-end.ensures.within
    (key_stretch index key (get_or c.args.starts.now (end - 1) 0) end from c.end_of-end.ensures.point) c.set_writers.ensures

pub returns-else-is_eq : goal.returns-else-is_eq
returns-else-is_eq c =
    let index = c.args.index.now in
    let key = c.args.key.now in
    let end = c.end_of-end.result in
    let last = c.index-index-end.result in
    let other : is_eq (key_cmp last.key.now key) ≡ false = sym (ap is_eq c.cmp.ensures) ∙ sym c.is_eq.ensures ∙ c.if-is_eq.false in
    let from = start_of_absent index key end last c.requires.sorted (omega arith) (omega arith) c.index-index-end.is other c.end_of-end.ensures.point in
    set_nothing (λ k. same_key key k) index end end (λ j. get_or c.args.row.now j false) (omega arith)
    (key_stretch index key end end from c.end_of-end.ensures.point)
