use Rattle.std.proofs.Common.{◌≡◌, ◌++◌, ◌∷◌, [], ℕ, List, map, sym, ap, ◌∙◌, subst, arith}
use Rattle.std.specs.Map.Iter.{deref_pair}
use Rattle.std.specs.FinMap.{entries}
use Rattle.fab_types.specs.Sets.{Range, IsRange}
use Rattle.ledger_model.specs.Views.{values_of, entries_within}
use Rattle.host_api.specs.Recorded.{Asked}
use Rattle.host_api.specs.HostStep.{ask_range, replies, reply_range_bytes}
use Rattle.host_api.specs.Recording.{Recording, version_entry, key_and_value, recorded_of, range_of}
use Rattle.host_api.proofs.Firsts.{few_first, is_range}
use Rattle.host_api.proofs.Items.{told, ask_new, items_asked}
use Rattle.host_api.proofs.recorder.Recorder.ask.Goals as goal

pub unwrap-range-requires : goal.unwrap-range-requires
unwrap-range-requires g c =
    let m = g.V.View.state c.self.inside.view.now in
    let items = c.in_ok-items.ensures ∙ ap (λ es. map version_entry (map deref_pair es)) c.deref.ensures.value ∙
    ap (map version_entry) c.in_ok-entries.ensures in
    c.new.ensures.accepted.1
    (subst (λ es. IsRange (record { start = c.in_ok-start.start; end = c.in_ok-end.end; limit = c.args.limit; entries = es })) (sym items)
    (is_range m c.in_ok-start.start c.in_ok-end.end c.args.limit c.requires.least c.requires.greatest))

pub invariant_of-self-2 : goal.invariant_of-self-2
invariant_of-self-2 g c =
    let m = g.V.View.state c.self.inside.view.now in
    let items = c.in_ok-items.ensures ∙ ap (λ es. map version_entry (map deref_pair es)) c.deref.ensures.value ∙
    ap (map version_entry) c.in_ok-entries.ensures in
    let asked : Asked = record { start = c.in_ok-start.start; end = c.in_ok-end.end; limit = c.args.limit } in
    let made : c.unwrap-range.result ≡ range_of m asked =
    told c.new.ensures.value c.unwrap-range.ensures ∙
    ap (λ es. record { start = c.in_ok-start.start; end = c.in_ok-end.end; limit = c.args.limit; entries = es }) items in
    items_asked m c.self.inside.reads.items c.self.inside.ranges.items c.self.inside.writes.items c.self.invariant asked _
    (c.in_ok-push.ensures.items ∙ ap (λ (r : Range). c.self.inside.ranges.items ++ r ∷ []) made)
    (λ e. c.if-len-eq-MOST_RANGES.false (omega (arith, e, c.len.ensures)))

pub returns-clause-answer : goal.returns-clause-answer
returns-clause-answer g c =
    let m = g.V.View.state c.self.inside.view.now in
    let items = c.in_ok-items.ensures ∙ ap (λ es. map version_entry (map deref_pair es)) c.deref.ensures.value ∙
    ap (map version_entry) c.in_ok-entries.ensures in
    let asked : Asked = record { start = c.in_ok-start.start; end = c.in_ok-end.end; limit = c.args.limit } in
    let wanted : Asked = record { start = c.args.start.now; end = c.args.end.now; limit = c.args.limit } in
    let alike : asked ≡ wanted = λ i. record { start = c.in_ok-start.ensures i; end = c.in_ok-end.ensures i; limit = c.args.limit } in
    let made : c.unwrap-range.result ≡ range_of m asked =
    told c.new.ensures.value c.unwrap-range.ensures ∙
    ap (λ es. record { start = c.in_ok-start.start; end = c.in_ok-end.end; limit = c.args.limit; entries = es }) items in
    let new = c.in_ok-push.ensures.items ∙ ap (λ (r : Range). c.self.inside.ranges.items ++ r ∷ []) made in
    let after = recorded_of c.self.inside.reads.items c.push.new.self.items c.self.inside.result c.self.inside.writes.items in
    subst (λ (a : Asked). (target capacity : ℕ) (memory : List ℕ) →
    ask_range (values_of (g.V.View.state c.args.self.now.opened.view)) a target capacity memory c.args.self.now.records ≡
    replies (reply_range_bytes (map key_and_value (map deref_pair c.in_ok-entries.entries.items))) target capacity memory after) alike
    (subst (λ (r : Recording _). (target capacity : ℕ) (memory : List ℕ) →
    ask_range (values_of (g.V.View.state r.opened.view)) asked target capacity memory r.records ≡
    replies (reply_range_bytes (map key_and_value (map deref_pair c.in_ok-entries.entries.items))) target capacity memory after) c.self.view_is
    (ask_new m c.self.inside.reads.items c.self.inside.ranges.items c.self.inside.result c.self.inside.writes.items c.self.invariant asked _ new
    (λ e. c.if-len-eq-MOST_RANGES.false (omega (arith, e, c.len.ensures))) (map deref_pair c.in_ok-entries.entries.items) c.in_ok-entries.ensures))

pub returns-clause-count : goal.returns-clause-count
returns-clause-count g c =
    let within = entries_within c.in_ok-start.start c.in_ok-end.end (entries (g.V.View.state c.self.inside.view.now)) in
    let few = few_first deref_pair c.in_ok-entries.entries.items c.args.limit within c.in_ok-entries.ensures in
    omega (arith, few, c.requires.greatest)
