use Rattle.std.proofs.Common.{◌≡◌, rules, cond, true, Some, option_map, sym, ap, ◌∙◌}
use Rattle.ledger_model.specs.Views.{values_of}
use Rattle.host_api.specs.declared.refusal.Refusal.TheVariants as refusal
use Rattle.host_api.specs.HostStep.{or_trap, span_bytes, is_key, get_state, read_key, refuses, replies}
use Rattle.host_api.specs.Recording.{read_reply}
use Rattle.host_api.proofs.Calls.{here, room}
use Rattle.host_api.proofs.recorder.Recorder.get_state.Goals as goal

pub returns-in-Some-Some-clause-answer : goal.returns-in-Some-Some-clause-answer
returns-in-Some-Some-clause-answer g c =
    let m = values_of (g.V.View.state c.args.self.now.opened.view) in
    let key = c.in-Some.key.now in
    let memory = c.args.memory.now in
    let s = c.args.self.now.records in
    let target = c.args.room.pointer in
    let capacity = c.args.room.len in
    let named : is_key key ≡ true = search rules in
    let found : c.in_ok-read.field-0 ≡ Some (Some c.in-Some-Some.value) = search rules in
    here memory s _ key c.in-Some.ensures (λ key. or_trap (span_bytes target capacity memory) memory s (λ room. get_state m key target capacity memory s))
    ∙ room memory s c.span_bytes-2.result _ c.span_bytes-2.ensures (search rules) (get_state m key target capacity memory s)
    ∙ ap (λ b. cond b (read_key m key target capacity memory s) (refuses refusal.KeyLength memory s)) named
    ∙ c.in_ok-read.ensures.answer target capacity memory
    ∙ ap (λ o. read_reply (option_map (option_map (λ v. v.now)) o) target capacity memory c.read.new.self.records) found
    ∙ ap (λ b. replies b target capacity memory c.read.new.self.records) (sym c.as_slice.ensures.value)
    ∙ c.reply.ensures c.read.new.self.records
