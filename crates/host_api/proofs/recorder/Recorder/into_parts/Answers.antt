use Rattle.std.proofs.Common.{◌≡◌, ◌≤◌, List, length, sym, ap, ◌∙◌, subst}
use Rattle.std.specs.List.{list_all}
use Rattle.fab_types.specs.Order.{is_shown}
use Rattle.fab_types.specs.declared.items.ReadItem.{ReadItem}
use Rattle.ledger_model.specs.Views.{values_of}
use Rattle.host_api.specs.declared.recorder.Parts.{Parts}
use Rattle.host_api.specs.Recorded.{seen_on}
use Rattle.host_api.specs.Parts.{parts_of}
use Rattle.host_api.specs.Recording.{Recording}
use Rattle.host_api.proofs.Items.{told, reads_seen, ranges_seen}
use Rattle.host_api.proofs.recorder.Recorder.into_parts.Goals as goal

pub returns-clause-value : goal.returns-clause-value
returns-clause-value g c =
    let m = g.V.View.state c.self.inside.view.now in
    let reads = told c.new.ensures.value c.unwrap.ensures ∙ c.self.invariant.reads_are ∙ sym (reads_seen m (values_of m) c.self.inside.reads.items) in
    let ranges = told c.new-2.ensures.value c.unwrap-2.ensures ∙ c.self.invariant.ranges_are ∙ sym (ranges_seen m (values_of m) c.self.inside.ranges.items) in
    let writes = told c.new-3.ensures.value c.unwrap-3.ensures in
    subst (λ (r : Recording _).
    ◌≡◌ {A = Parts} (record { reads = c.unwrap.result; ranges = c.unwrap-2.result; result = c.self.inside.result; writes = c.unwrap-3.result })
    (parts_of (g.V.View.state r.opened.view) (seen_on (values_of (g.V.View.state r.opened.view)) r.records))) c.self.view_is
    (λ i. record { reads = reads i; ranges = ranges i; result = c.self.inside.result; writes = writes i })

pub returns-clause-shown : goal.returns-clause-shown
returns-clause-shown g c =
    ap (list_all (λ (r : ReadItem). is_shown r.key)) (told c.new.ensures.value c.unwrap.ensures) ∙ c.self.invariant.reads_shown

pub returns-clause-count : goal.returns-clause-count
returns-clause-count g c = subst (λ (l : List ReadItem). length l ≤ 256) (sym (told c.new.ensures.value c.unwrap.ensures)) c.self.invariant.read_count
