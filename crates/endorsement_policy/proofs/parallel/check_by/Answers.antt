use mir.Syntax.{named}
use denote.Param.{param}
use denote.Param.Send.{IsSync, sendable, shr_sync, shr_slice_sync}
use denote.Struct.Field.{u64-field}
use Rattle.std.specs.contracts.alloc.Global
use Rattle.fab_types.specs.contracts.envelope.Envelope as envelope_type
use Rattle.fab_types.proofs.envelope.Envelope.TheSendSync as envelope
use Rattle.endorsement_policy.specs.contracts.judge.Judge as judge_type
use Rattle.endorsement_policy.proofs.Sharing.{sync_judge}
use Rattle.endorsement_policy.proofs.parallel.check_by.Goals as goal

-- each capture is lent, and may be shared: the allocator, the judge, the envelopes, the number of workers and the gate
pub map_indices-requires-sync-F : goal.map_indices-requires-sync-F
map_indices-requires-sync-F g c κs within =
    let name = named 0 in
    let judge = judge_type.the_row record { mir = name; lft = κs.1.1.1.1.1.1.1.1.0 } in
    let sync_gate : IsSync (param 1 g.row.G) = record { shared = c.type_bounds.sync-G.shared } in
    let sync_alloc = shr_sync name κs.1.1.1.1.1.1.0 Global.the_row (search sendable depth 20) in
    let sync_judged = shr_sync name κs.1.1.1.1.1.1.1.0 judge (sync_judge _) in
    let sync_envelopes = shr_slice_sync name κs.1.1.1.1.1.1.1.1.1.0 envelope_type.the_row envelope.the_sync in
    let sync_workers = shr_sync name κs.1.1.1.1.1.1.1.1.1.1.0 (u64-field).row (search sendable) in
    let sync_gated = shr_sync name κs.1.1.1.1.1.1.1.1.1.1.1.0 (param 1 g.row.G) sync_gate in
    record {
      shared = λ x b o κ. (
        (
          sync_alloc.shared x.0 b o κ,
          (
            sync_judged.shared x.1 b o κ,
            (sync_envelopes.shared x.2 b o κ, (sync_workers.shared x.3 b o κ, (sync_gated.shared x.4 b o κ, tt))),
          ),
        ),
        λ q. tt,
      );
    }
