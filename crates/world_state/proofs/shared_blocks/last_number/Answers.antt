use Rattle.std.proofs.Common.{◌≡◌, ◌∙◌, Bool, false, cond, ap, sym}
use Rattle.world_state.specs.Amending.{amends, last_of}
use Rattle.world_state.proofs.Amended.{last_read}
use Rattle.world_state.proofs.shared_blocks.last_number.Goals as goal

pub returns-in-Some : goal.returns-in-Some
returns-in-Some c =
    let own = c.args.committed.now in
    let not : amends own ≡ false = sym c.amends.ensures ∙ c.if-amends.false in
    sym (last_read 0 c.in-Some.last.now c.args.before.now (sym c.in-Some.ensures.value))
    ∙ ap (λ (b : Bool). cond b own.block.header.number (last_of 0 c.args.before.now)) (sym not)
