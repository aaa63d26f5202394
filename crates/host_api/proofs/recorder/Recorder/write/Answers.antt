use Rattle.std.proofs.Common.{◌≡◌, ◌≤◌, length, option_map, refl, sym, ap, ◌∙◌, subst, arith, length-set}
use Rattle.std.specs.Prelude.{slice_set}
use Rattle.std.proofs.lemmas.Option.{slice_get_read}
use Rattle.fab_types.specs.declared.items.WriteItem.{WriteItem}
use Rattle.host_api.specs.declared.refusal.Refusal.TheVariants as refusal
use Rattle.host_api.specs.HostStep.{with_write, write, says, refuses}
use Rattle.host_api.specs.Places.{found_at}
use Rattle.host_api.specs.Recording.{Recording, recorded_of}
use Rattle.host_api.proofs.Places.{is_found, is_gap, grown}
use Rattle.host_api.proofs.Items.{one_more, write_full, write_new, items_written}
use Rattle.host_api.proofs.recorder.Recorder.write.Goals as goal
use Rattle.host_api.proofs.recorder.Recorder.write.Goals.{in-Some-1, in-None-1}

pub invariant_of-self : goal.invariant_of-self
invariant_of-self g c =
    let writes = c.self.inside.writes.items in
    let found = is_found (λ (w : WriteItem). w.key) c.args.key.now writes _
    (c.in-Ok.ensures ∙ ap (found_at (λ (w : WriteItem). w.key) c.args.key.now) c.deref.ensures.value) in
    let same = found.same c.index_mut.result.now (slice_get_read writes _ c.in-Ok.at c.index_mut.result.now refl found.within c.index_mut.ensures.value) in
    let item : WriteItem = record { key = c.index_mut.result.now.key; value = c.in_ok-self-inside-in-Ok.field-0 } in
    let count : length (slice_set writes c.in-Ok.at item) ≤ 64 = omega (arith, c.self.invariant.write_set.count, length-set writes c.in-Ok.at item) in
    items_written _ c.self.inside.reads.items c.self.inside.ranges.items writes c.self.invariant item _ (found.set item same) count

pub invariant_of-self-in_ok-self-inside-in-Ok-2 : goal.invariant_of-self-in_ok-self-inside-in-Ok-2
invariant_of-self-in_ok-self-inside-in-Ok-2 g c =
    let writes = c.self.inside.writes.items in
    let found = is_found (λ (w : WriteItem). w.key) c.args.key.now writes _
    (c.in-Ok.ensures ∙ ap (found_at (λ (w : WriteItem). w.key) c.args.key.now) c.deref.ensures.value) in
    let same = found.same c.index_mut.result.now (slice_get_read writes _ c.in-Ok.at c.index_mut.result.now refl found.within c.index_mut.ensures.value) in
    let item : WriteItem = record { key = c.index_mut.result.now.key; value = c.in_ok-self-inside-in-Ok.field-0 } in
    let count : length (slice_set writes c.in-Ok.at item) ≤ 64 = omega (arith, c.self.invariant.write_set.count, length-set writes c.in-Ok.at item) in
    items_written _ c.self.inside.reads.items c.self.inside.ranges.items writes c.self.invariant item _ (found.set item same) count

pub returns-in-Err-clause-answer : goal.returns-in-Err-clause-answer
returns-in-Err-clause-answer g c =
    let writes = c.self.inside.writes.items in
    let gap = is_gap (λ (w : WriteItem). w.key) c.args.key.now writes _
    (c.in-Err.ensures ∙ ap (found_at (λ (w : WriteItem). w.key) c.args.key.now) c.deref.ensures.value) in
    let item : WriteItem = record { key = c.args.key.now; value = option_map (λ v. v.now) c.args.value } in
    let full : length (with_write item writes) ≡ 65 =
    omega (arith, grown (λ (w : WriteItem). w.key) c.args.key.now writes _ gap item refl, c.len.ensures, c.if-len-eq-MOST_WRITES.true) in
    λ memory. subst (λ (r : Recording _). write item memory r.records ≡ refuses refusal.NoRoom memory r.records) c.self.view_is
    (write_full c.self.inside.reads.items c.self.inside.ranges.items c.self.inside.result writes item full memory) ∙
    ap (λ a. record { answer = a; memory = memory; records = c.args.self.now.records }) (sym c.negative.ensures)

pub insert-requires : goal.insert-requires
insert-requires g c =
    let gap = is_gap (λ (w : WriteItem). w.key) c.args.key.now c.self.inside.writes.items _
    (c.in-Err.ensures ∙ ap (found_at (λ (w : WriteItem). w.key) c.args.key.now) c.deref.ensures.value) in
    omega (arith, gap.within)

pub invariant_of-self-in_ok-insert-in-Err-2 : goal.invariant_of-self-in_ok-insert-in-Err-2
invariant_of-self-in_ok-insert-in-Err-2 g c =
    let writes = c.self.inside.writes.items in
    let gap = is_gap (λ (w : WriteItem). w.key) c.args.key.now writes _
    (c.in-Err.ensures ∙ ap (found_at (λ (w : WriteItem). w.key) c.args.key.now) c.deref.ensures.value) in
    let item : WriteItem = record { key = c.copied_key-key.result; value = c.in_ok-value-in-Err-2.value } in
    let new = c.in_ok-insert-in-Err-2.ensures.items ∙ gap.put item c.copied_key-key.ensures in
    let count = one_more 64 (length writes) c.self.invariant.write_set.count (λ e. c.if-len-eq-MOST_WRITES.false (omega (arith, e, c.len.ensures)))
    (ap length new ∙ grown (λ (w : WriteItem). w.key) c.args.key.now writes _ gap item c.copied_key-key.ensures) in
    items_written _ c.self.inside.reads.items c.self.inside.ranges.items writes c.self.invariant item _ new count

pub returns-in_ok-self-inside-in-Ok-clause-answer : goal.returns-in_ok-self-inside-in-Ok-clause-answer
returns-in_ok-self-inside-in-Ok-clause-answer g c =
    let writes = c.self.inside.writes.items in
    let found = is_found (λ (w : WriteItem). w.key) c.args.key.now writes _
    (c.in-Ok.ensures ∙ ap (found_at (λ (w : WriteItem). w.key) c.args.key.now) c.deref.ensures.value) in
    let same = found.same c.index_mut.result.now (slice_get_read writes _ c.in-Ok.at c.index_mut.result.now refl found.within c.index_mut.ensures.value) in
    let item : WriteItem = record { key = c.index_mut.result.now.key; value = c.in_ok-self-inside-in-Ok.field-0 } in
    let wanted : WriteItem = record { key = c.args.key.now; value = option_map (λ v. v.now) c.args.value } in
    let alike : item ≡ wanted = λ i. record { key = same i; value = c.in_ok-self-inside-in-Ok.ensures i } in
    let after = slice_set writes c.in-Ok.at item in
    let count : length after ≤ 64 = omega (arith, c.self.invariant.write_set.count, length-set writes c.in-Ok.at item) in
    let done = recorded_of c.self.inside.reads.items c.self.inside.ranges.items c.self.inside.result after in
    let kept : done ≡ c.match-index_mut-branch.self.records =
    sym (ap (λ (r : Recording _). r.records)
    {y = record { opened = record { view = c.self.inside.view.now; given = c.self.inside.given }; records = done }}
    (elim c.match-index_mut-branch.branch [ in-Some-1 w ↦ w.self-is | in-None-1 w ↦ w.self-is ])) in
    λ memory. subst (λ (r : Recording _). write wanted memory r.records ≡ says 0 memory done) c.self.view_is
    (write_new c.self.inside.reads.items c.self.inside.ranges.items c.self.inside.result writes wanted after
    (found.set item same ∙ ap (λ w. with_write w writes) alike) count memory) ∙ ap (says 0 memory) kept

pub returns-in_ok-insert-in-Err-2-clause-answer : goal.returns-in_ok-insert-in-Err-2-clause-answer
returns-in_ok-insert-in-Err-2-clause-answer g c =
    let writes = c.self.inside.writes.items in
    let gap = is_gap (λ (w : WriteItem). w.key) c.args.key.now writes _
    (c.in-Err.ensures ∙ ap (found_at (λ (w : WriteItem). w.key) c.args.key.now) c.deref.ensures.value) in
    let item : WriteItem = record { key = c.copied_key-key.result; value = c.in_ok-value-in-Err-2.value } in
    let wanted : WriteItem = record { key = c.args.key.now; value = option_map (λ v. v.now) c.args.value } in
    let alike : item ≡ wanted = λ i. record { key = c.copied_key-key.ensures i; value = c.in_ok-value-in-Err-2.ensures i } in
    let new = c.in_ok-insert-in-Err-2.ensures.items ∙ gap.put item c.copied_key-key.ensures in
    let count = one_more 64 (length writes) c.self.invariant.write_set.count (λ e. c.if-len-eq-MOST_WRITES.false (omega (arith, e, c.len.ensures)))
    (ap length new ∙ grown (λ (w : WriteItem). w.key) c.args.key.now writes _ gap item c.copied_key-key.ensures) in
    let done = recorded_of c.self.inside.reads.items c.self.inside.ranges.items c.self.inside.result c.insert.new.self.items in
    λ memory. subst (λ (r : Recording _). write wanted memory r.records ≡ says 0 memory done) c.self.view_is
    (write_new c.self.inside.reads.items c.self.inside.ranges.items c.self.inside.result writes wanted c.insert.new.self.items
    (new ∙ ap (λ w. with_write w writes) alike) count memory)
