use Rattle.std.proofs.Common.{◌≡◌, rules, cond, Some, map, option_map, sym, ap, ◌∙◌}
use Rattle.std.specs.Map.Iter.{deref_pair}
use Rattle.ledger_model.specs.Views.{values_of}
use Rattle.host_api.specs.declared.refusal.Refusal.TheVariants as refusal
use Rattle.host_api.specs.Recorded.{Asked}
use Rattle.host_api.specs.HostStep.{or_trap, span_bytes, range_state, ask_range, refuses, replies, reply_range_bytes, is_limit}
use Rattle.host_api.specs.Recording.{range_reply, key_and_value}
use Rattle.host_api.proofs.Calls.{here, room, limit_ok, bounds_ok}
use Rattle.host_api.proofs.recorder.Recorder.range_state.Goals as goal

pub returns-in-Some-2-clause-answer : goal.returns-in-Some-2-clause-answer
returns-in-Some-2-clause-answer g c =
    let m = values_of (g.V.View.state c.args.self.now.opened.view) in
    let memory = c.args.memory.now in
    let s = c.args.self.now.records in
    let limit = c.args.limit in
    let target = c.args.room.pointer in
    let capacity = c.args.room.len in
    let asked : Asked = record { start = c.in-Some.start.now; end = c.in-Some-span_bytes.end.now; limit = limit } in
    let found : c.in_ok-ask.field-0 ≡ Some c.in-Some-2.entries = search rules in
    here memory s _ c.in-Some.start.now c.in-Some.ensures
    (λ start. or_trap (span_bytes c.args.end.pointer c.args.end.len memory) memory s
    (λ end. or_trap (span_bytes target capacity memory) memory s
    (λ room. range_state m (record { start = start; end = end; limit = limit }) target capacity memory s)))
    ∙ here memory s _ c.in-Some-span_bytes.end.now c.in-Some-span_bytes.ensures
    (λ end. or_trap (span_bytes target capacity memory) memory s
    (λ room. range_state m (record { start = c.in-Some.start.now; end = end; limit = limit }) target capacity memory s))
    ∙ room memory s c.span_bytes-3.result _ c.span_bytes-3.ensures (search rules) (range_state m asked target capacity memory s)
    ∙ ap (λ b. cond b (cond (is_limit limit) (ask_range m asked target capacity memory s) (refuses refusal.Limit memory s))
    (refuses refusal.KeyLength memory s)) (bounds_ok asked.start asked.end (search rules) (search rules))
    ∙ ap (λ b. cond b (ask_range m asked target capacity memory s) (refuses refusal.Limit memory s)) (limit_ok limit (search rules) (search rules))
    ∙ c.in_ok-ask.ensures.answer target capacity memory
    ∙ ap (λ o. range_reply (option_map (λ v. map key_and_value (map deref_pair v.items)) o) target capacity memory c.ask.new.self.records) found
    ∙ ap (λ es. replies (reply_range_bytes (map key_and_value (map deref_pair es))) target capacity memory c.ask.new.self.records) (sym c.deref.ensures.value)
    ∙ c.range_reply.ensures c.ask.new.self.records
