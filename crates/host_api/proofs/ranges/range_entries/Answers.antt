use Rattle.std.proofs.Common.{◌≡◌, ◌++◌, ◌∷◌, ◌+◌, List, drop, sym, ap, ◌∙◌}
use Rattle.fab_types.specs.declared.items.RangeEntry.{RangeEntry}
use Rattle.host_api.proofs.Replies.{keys_of, keys_next, drop_end, append_one, append_none}
use Rattle.host_api.proofs.ranges.range_entries.Goals as goal

pub loop-key-preserved : goal.loop-key-preserved
loop-key-preserved c =
    let e = c.loop-key-item.result in
    let rest = keys_of (drop (c.loop-key.key-index + 1) c.args.entries.now) in
    let item : RangeEntry = record { key = c.in_ok-clone.field-0; version = e.1.now.1 } in
    let alike : item ≡ record { key = e.0.now; version = e.1.now.1 } = λ i. record { key = c.in_ok-clone.ensures.cases i; version = e.1.now.1 } in
    ap (λ (z : List RangeEntry). z ++ rest) c.in_ok-push.ensures.items
    ∙ append_one c.loop-key.items.items item rest
    ∙ ap (λ (z : RangeEntry). c.loop-key.items.items ++ z ∷ rest) alike
    ∙ ap (λ (z : List RangeEntry). c.loop-key.items.items ++ z)
    (sym (keys_next c.args.entries.now c.loop-key.key-index e c.loop-key-test.true c.loop-key-item.is))
    ∙ c.loop-key.invariant

pub returns : goal.returns
returns c =
    let all = drop_end c.args.entries.now c.loop-key.key-index c.loop-key-test.false c.loop-key.auto.key-index-end in
    sym (append_none c.loop-key.items.items) ∙ sym (ap (λ es. c.loop-key.items.items ++ keys_of es) all) ∙ c.loop-key.invariant
