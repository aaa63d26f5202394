use Rattle.std.proofs.Common.{◌≡◌, Bool, false, ◌||◌, ◌&&◌, not, List, get_or, eqb, ap, ◌∙◌, subst, arith}
use Rattle.std.specs.List.{list_any}
use Rattle.fab_types.specs.declared.items.ReadItem.{ReadItem}
use Rattle.fab_types.specs.Order.{is_within}
use Rattle.fab_types.specs.Sets.{Range}
use Rattle.fab_types.specs.Touched.{same_key, sees, has_read, has_in_range}
use Rattle.reorder.specs.KeyWrites.{hits}
use Rattle.reorder.proofs.Hits.{set_more}
use Rattle.reorder.proofs.Edging.{cleared}
use Rattle.reorder.proofs.writes.set_row.Goals as goal

pub returns : goal.returns
returns c = λ j.
    let index = c.args.index.now.writes.now in
    let p = c.args.payload.now in
    let before = get_or c.args.row.now j false in
    let now = get_or c.set_for_reads.new.row j false in
    let after = get_or c.set_for_ranges.new.row j false in
    let one : now ≡ (before || hits (has_read p) index j) =
    subst (λ (rs : List ReadItem). now ≡ (before || hits (λ k. list_any (λ r. same_key r.key k) rs) index j)) (c.as_slice.ensures.value ∙ c.reads.ensures)
    (c.set_for_reads.ensures j) in
    let two : after ≡ (now || hits (has_in_range p) index j) =
    subst (λ (rs : List Range). after ≡ (now || hits (λ k. list_any (λ r. is_within r.start r.end k) rs) index j)) (c.as_slice-2.ensures.value ∙ c.ranges-2.ensures)
    (c.set_for_ranges.ensures j) in
    let both : after ≡ (before || hits (sees p) index j) = set_more before now after (has_read p) (has_in_range p) index j one two in
    cleared c.set_for_ranges.new.row c.args.from j (omega arith) ∙ ap (λ (b : Bool). not (eqb c.args.from j) && b) both
