-- Threads may share the chain of a store whose file they may share.
use denote.RattleType.{RattleType}
use denote.Param.Send.{IsSend, IsSync, recorded_sync, sendable, struct_send, struct_sync, whole-keyless}
use denote.Struct.Declared as declared
use denote.Struct.Owning.{shape, to}
use Rattle.std.proofs.Crossing.{crosses}
use Rattle.fab_types.proofs.name.Name.TheSendSync as name
use Rattle.fab_types.proofs.org_name.OrgName.TheSendSync as org_name
use Rattle.policy_language.proofs.policy.Policies.TheLaws.TheKnot as policy_knot
use Rattle.policy_language.specs.contracts.policy.Policy as policy_type
use Rattle.endorsement_policy.proofs.installed.Installed.TheSendSync as installed
use Rattle.endorsement_policy.specs.contracts.rules.ChaincodePolicy as chaincode_policy_type
use Rattle.endorsement_policy.specs.contracts.rules.Rules as rules_type
use Rattle.kept_state.proofs.state.State.TheSendSync as state
use Rattle.kept_state.specs.contracts.blocks.Blocks as blocks_type
use Rattle.kept_state.specs.contracts.chain.KeptChain as kept_type
use Rattle.store_devices.proofs.places.Places.TheSendSync as places
use Rattle.store_devices.specs.contracts.history.History as history_type
use Rattle.store_devices.specs.contracts.Counted as counted_type
use Rattle.log_committer.specs.contracts.receiving.Committer as committer_type
use Rattle.log_peer.specs.contracts.storing.StoredChain as stored_type

send_policy_field : IsSend (policy_type.the_field).row
send_policy_field = search (sendable, crosses, org_name.the_send, policy_knot.crosses) depth 30

send_chaincode_policy : IsSend chaincode_policy_type.the_row
send_chaincode_policy = search (sendable, crosses, name.the_send, send_policy_field) depth 30

send_rules : IsSend rules_type.the_row
send_rules = search (sendable, crosses, send_chaincode_policy, send_policy_field, installed.the_send) depth 30

sync_policy_field : IsSync (policy_type.the_field).row
sync_policy_field = search (sendable, crosses, org_name.the_sync, policy_knot.crosses) depth 30

sync_chaincode_policy : IsSync chaincode_policy_type.the_row
sync_chaincode_policy = search (sendable, crosses, name.the_sync, sync_policy_field) depth 30

sync_rules : IsSync rules_type.the_row
sync_rules = search (sendable, crosses, sync_chaincode_policy, sync_policy_field, installed.the_sync) depth 30

sync_blocks : IsSync blocks_type.the_row
sync_blocks = record {
  shared = λ d b o κ q. whole-keyless _ _ (λ z vs. ((struct_send (shape blocks_type.the_type) tt).owned (to blocks_type.the_type z) vs, tt)) q d b o;
}

sync_kept_field : IsSync (kept_type.the_field).row
sync_kept_field = search (sendable, crosses, state.the_sync, sync_blocks) depth 30

sync_committer_field : IsSync (committer_type.the_field).row
sync_committer_field = search (sendable, crosses, send_rules, sync_rules, sync_kept_field) depth 30

sync_history : IsSync history_type.the_row
sync_history = record {
  shared = λ d b o κ q. whole-keyless _ _ (λ z vs. ((struct_send (shape history_type.the_type) tt).owned (to history_type.the_type z) vs, tt)) q d b o;
}

sync_counted_field : (D : RattleType) → IsSync D → IsSync (counted_type.the_field D).row
sync_counted_field D shared = struct_sync (declared.shape (counted_type.the_type D)) (shared, (sync_history, (search sendable, tt)))

pub sync_stored : (D : RattleType) → IsSync D → IsSync (stored_type.the_row D)
sync_stored D shared =
    let fields = struct_sync (declared.shape (stored_type.the_type D))
    (sync_committer_field, (sync_counted_field D shared, (places.the_sync, (search (sendable, crosses), tt)))) in
    recorded_sync _ _ _ (stored_type.the_type D).to_one fields
