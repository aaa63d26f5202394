use Rattle.std.proofs.Common.{◌≡◌, ℕ, List, None, length, option_map, refl, sym, ap, ◌∙◌, subst, arith}
use Rattle.std.specs.FinMap.{get}
use Rattle.std.proofs.lemmas.Option.{slice_get_read}
use Rattle.fab_types.specs.Order.{is_shown}
use Rattle.fab_types.specs.declared.items.ReadItem.{ReadItem}
use Rattle.ledger_model.specs.Views.{values_of}
use Rattle.host_api.specs.declared.refusal.Refusal.TheVariants as refusal
use Rattle.host_api.specs.HostStep.{with_item, read_key, refuses, value_reply}
use Rattle.host_api.specs.Places.{found_at}
use Rattle.host_api.specs.Recording.{Recording, recorded_of}
use Rattle.host_api.proofs.Places.{is_found, is_gap, grown}
use Rattle.host_api.proofs.Items.{one_more, read_again, read_full, read_new, items_read}
use Rattle.host_api.proofs.recorder.Recorder.read.Goals as goal

pub insert-requires : goal.insert-requires
insert-requires g c =
    let gap = is_gap (λ (r : ReadItem). r.key) c.args.key.now c.self.inside.reads.items _
    (c.in-Err.ensures ∙ ap (found_at (λ (r : ReadItem). r.key) c.args.key.now) c.deref.ensures.value) in
    omega (arith, gap.within)

pub invariant_of-self-in-Err-2 : goal.invariant_of-self-in-Err-2
invariant_of-self-in-Err-2 g c =
    let reads = c.self.inside.reads.items in
    let gap = is_gap (λ (r : ReadItem). r.key) c.args.key.now reads _
    (c.in-Err.ensures ∙ ap (found_at (λ (r : ReadItem). r.key) c.args.key.now) c.deref.ensures.value) in
    let item : ReadItem = record { key = c.copied_key-key.result; version = c.look_up-version.result.1 } in
    let new = c.in_ok-insert-in-Err-2.ensures.items ∙ gap.put item c.copied_key-key.ensures in
    let count = one_more 256 (length reads) c.self.invariant.read_count (λ e. c.if-len-eq-MOST_CHAINCODE_READS.false (omega (arith, e, c.len.ensures)))
    (ap length new ∙ grown (λ (r : ReadItem). r.key) c.args.key.now reads _ gap item c.copied_key-key.ensures) in
    items_read _ reads c.self.inside.ranges.items c.self.inside.writes.items c.self.invariant item
    (λ i. record { key = c.copied_key-key.result; version = c.look_up-version.ensures.version i }) _ new count
    (ap is_shown c.copied_key-key.ensures ∙ c.requires.shown)

pub returns-in-Ok-clause-answer : goal.returns-in-Ok-clause-answer
returns-in-Ok-clause-answer g c =
    let reads = c.self.inside.reads.items in
    let found = is_found (λ (r : ReadItem). r.key) c.args.key.now reads _
    (c.in-Ok.ensures ∙ ap (found_at (λ (r : ReadItem). r.key) c.args.key.now) c.deref.ensures.value) in
    let item = slice_get_read reads _ c.in-Ok.at c.index.result.now refl found.within c.index.ensures in
    let value = ap (get (values_of (g.V.View.state c.self.inside.view.now))) (sym (found.same c.index.result.now item)) ∙ sym c.look_up.ensures.value in
    subst (λ (r : Recording _). (target capacity : ℕ) (memory : List ℕ) →
    read_key (values_of (g.V.View.state r.opened.view)) c.args.key.now target capacity memory r.records ≡
    value_reply (option_map (λ v. v.now) c.look_up.result.0) target capacity memory r.records) c.self.view_is (λ target capacity memory.
    read_again _ c.args.key.now reads c.self.inside.ranges.items c.self.inside.result c.self.inside.writes.items c.self.invariant.read_count found.keys
    target capacity memory
    ∙ ap (λ v. value_reply v target capacity memory (recorded_of reads c.self.inside.ranges.items c.self.inside.result c.self.inside.writes.items)) value)

pub returns-in-Err-clause-answer : goal.returns-in-Err-clause-answer
returns-in-Err-clause-answer g c =
    let reads = c.self.inside.reads.items in
    let gap = is_gap (λ (r : ReadItem). r.key) c.args.key.now reads _
    (c.in-Err.ensures ∙ ap (found_at (λ (r : ReadItem). r.key) c.args.key.now) c.deref.ensures.value) in
    let item : ReadItem = record { key = c.args.key.now; version = None } in
    let full : length (with_item (λ r. r.key) item reads) ≡ 257 =
    omega (arith, grown (λ (r : ReadItem). r.key) c.args.key.now reads _ gap item refl, c.len.ensures, c.if-len-eq-MOST_CHAINCODE_READS.true) in
    subst (λ (r : Recording _). (target capacity : ℕ) (memory : List ℕ) →
    read_key (values_of (g.V.View.state r.opened.view)) c.args.key.now target capacity memory r.records ≡ refuses refusal.NoRoom memory r.records)
    c.self.view_is (read_full _ c.args.key.now reads c.self.inside.ranges.items c.self.inside.result c.self.inside.writes.items item refl full)

pub returns-in_ok-insert-in-Err-2-clause-answer : goal.returns-in_ok-insert-in-Err-2-clause-answer
returns-in_ok-insert-in-Err-2-clause-answer g c =
    let reads = c.self.inside.reads.items in
    let gap = is_gap (λ (r : ReadItem). r.key) c.args.key.now reads _
    (c.in-Err.ensures ∙ ap (found_at (λ (r : ReadItem). r.key) c.args.key.now) c.deref.ensures.value) in
    let item : ReadItem = record { key = c.copied_key-key.result; version = c.look_up-version.result.1 } in
    let new = c.in_ok-insert-in-Err-2.ensures.items ∙ gap.put item c.copied_key-key.ensures in
    let count = one_more 256 (length reads) c.self.invariant.read_count (λ e. c.if-len-eq-MOST_CHAINCODE_READS.false (omega (arith, e, c.len.ensures)))
    (ap length new ∙ grown (λ (r : ReadItem). r.key) c.args.key.now reads _ gap item c.copied_key-key.ensures) in
    let after = recorded_of c.insert.new.self.items c.self.inside.ranges.items c.self.inside.result c.self.inside.writes.items in
    let value = ap (get (values_of (g.V.View.state c.self.inside.view.now))) (sym c.copied_key-key.ensures) ∙ sym c.look_up-version.ensures.value in
    subst (λ (r : Recording _). (target capacity : ℕ) (memory : List ℕ) →
    read_key (values_of (g.V.View.state r.opened.view)) c.args.key.now target capacity memory r.records ≡
    value_reply (option_map (λ v. v.now) c.look_up-version.result.0) target capacity memory after) c.self.view_is (λ target capacity memory.
    read_new _ c.args.key.now reads c.self.inside.ranges.items c.self.inside.result c.self.inside.writes.items item c.copied_key-key.ensures _ new count
    target capacity memory
    ∙ ap (λ v. value_reply v target capacity memory after) value)
