use Rattle.std.proofs.Common.{rules, sym, ap, ◌∙◌}
use Rattle.host_api.specs.HostStep.{replies}
use Rattle.host_api.specs.Recording.{Recording}
use Rattle.host_api.proofs.Calls.{room}
use Rattle.host_api.proofs.recorder.Recorder.get_arg.Goals as goal

pub returns-clause-answer : goal.returns-clause-answer
returns-clause-answer g c =
    room c.args.memory.now c.args.self.now.records c.span_bytes.result _ c.span_bytes.ensures (search rules) _
    ∙ ap (λ b. replies b c.args.room.pointer c.args.room.len c.args.memory.now c.args.self.now.records)
    (sym (c.as_slice-argument.ensures.value ∙ c.argument.ensures ∙ ap (λ (r : Recording _). r.opened.given.argument) c.self.view_is))
    ∙ c.reply.ensures c.args.self.now.records
