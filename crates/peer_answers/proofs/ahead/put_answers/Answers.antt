use Rattle.std.proofs.Common.{rules, ◌≡◌, ◌<◌, length, slice_index_or, subst, arith}
use mir.Syntax.{named}
use denote.Param.{param}
use denote.Param.Send.{IsSync, sendable, shr_sync, shr_slice_sync}
use denote.Struct.Field.{u8-field}
use Rattle.std.proofs.Crossing.{crosses}
use Rattle.std.specs.contracts.alloc.Global
use Rattle.std.specs.contracts.impls.GlobalAllocator.TheImpl as allocates
use Rattle.std.specs.contracts.vec.Vec as vec_type
use Rattle.peer_answers.specs.contracts.answering.Answering as answering_type
use Rattle.peer_answers.proofs.Sharing.{sync_answering}
use Rattle.peer_answers.specs.Known.{IsKnown}
use Rattle.peer_answers.specs.Setting.{peer_of}
use Rattle.peer_answers.proofs.Known.{zip_each}
use Rattle.peer_answers.proofs.ahead.put_answers.Goals as goal

-- each capture is lent, and may be shared: what is answered by, the blocks and the lines
pub for_each_mut-requires-sync-F : goal.for_each_mut-requires-sync-F
for_each_mut-requires-sync-F g c κs within =
    let name = named 0 in
    let answering = answering_type.the_row record { mir = name; lft = κs.1.1.1.1.1.1.1.0 } in
    let sync_answered = shr_sync name κs.1.1.1.1.1.1.0 answering (sync_answering _) in
    let sync_blocks : IsSync (param 1 g.row.B) = record { shared = c.type_bounds.sync-B.shared } in
    let sync_read = shr_sync name κs.1.1.1.1.1.1.1.1.0 (param 1 g.row.B) sync_blocks in
    let line = vec_type.the_row (u8-field).row Global.the_row allocates.ghosts in
    let sync_lines = shr_slice_sync name κs.1.1.1.1.1.1.1.1.1.0 line (search (sendable, crosses) depth 20) in
    record { shared = λ x b o κ. ((sync_answered.shared x.0 b o κ, (sync_read.shared x.1 b o κ, (sync_lines.shared x.2 b o κ, tt))), λ q. tt) }

pub returns : goal.returns
returns g c =
    let p = peer_of g.B.Blocks.keeps c.args.answering.now in
    let chain = g.B.Blocks.chain c.args.blocks.now in
    let lines = c.args.lines.now in
    let new = c.for_each_mut.new.s in
    let long : length new ≡ length lines = search rules in
    zip_each (λ l a. IsKnown p chain l.items a) lines new long (λ i d e below.
    let within : i < length c.args.answers.now = omega (arith, below, c.requires.one_each) in
    let h = (c.for_each_mut.ensures i e within).1 in
    subst (λ a. IsKnown p chain (slice_index_or lines i d).items a) h.left (h.call d))
