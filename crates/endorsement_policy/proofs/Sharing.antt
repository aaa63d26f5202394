-- Threads may share a judge: it is plain data. A lemma on a field is of a type as a field of a struct.
use denote.Param.Send.{IsSync, sendable}
use denote.Ref.{NamedLft}
use Rattle.std.proofs.Crossing.{crosses}
use Rattle.fab_types.proofs.name.Name.TheSendSync as name
use Rattle.fab_types.proofs.org_name.OrgName.TheSendSync as org_name
use Rattle.fab_types.proofs.key.Key.TheSendSync as key
use Rattle.fab_types.proofs.value.Value.TheSendSync as value
use Rattle.fab_types.proofs.version.Version.TheSendSync as version
use Rattle.persist_map.proofs.map.PMap.TheSendSync as pages
use Rattle.policy_language.proofs.policy.Policies.TheLaws.TheKnot as policy_knot
use Rattle.policy_language.specs.contracts.policy.Policy as policy_type
use Rattle.org_keys.proofs.organisation.Organisation.TheSendSync as organisation
use Rattle.endorsement_policy.specs.contracts.rules.ChaincodePolicy as chaincode_policy_type
use Rattle.endorsement_policy.specs.contracts.rules.Rules as rules_type
use Rattle.endorsement_policy.specs.contracts.source.Known as known_type
use Rattle.endorsement_policy.specs.contracts.standing.Amended as amended_type
use Rattle.endorsement_policy.specs.contracts.standing.Standing as standing_type
use Rattle.endorsement_policy.specs.contracts.judge.Judge as judge_type
use Rattle.endorsement_policy.proofs.installed.Installed.TheSendSync as installed

sync_policy_field : IsSync (policy_type.the_field).row
sync_policy_field = search (sendable, crosses, org_name.the_sync, policy_knot.crosses) depth 30

sync_chaincode_policy : IsSync chaincode_policy_type.the_row
sync_chaincode_policy = search (sendable, crosses, name.the_sync, sync_policy_field) depth 30

sync_rules : IsSync rules_type.the_row
sync_rules = search (sendable, crosses, sync_chaincode_policy, sync_policy_field, installed.the_sync) depth 30

sync_policy : IsSync policy_type.the_row
sync_policy = search (sendable, crosses, org_name.the_sync, policy_knot.crosses) depth 30

sync_known : (ℓ : NamedLft) → IsSync (known_type.the_row ℓ)
sync_known ℓ = search (sendable, crosses, name.the_sync, sync_policy, sync_policy_field) depth 30

sync_amended : IsSync amended_type.the_row
sync_amended = search (sendable, crosses, organisation.the_sync, sync_policy_field) depth 30

sync_standing : (ℓ : NamedLft) → IsSync (standing_type.the_row ℓ)
sync_standing ℓ = search (sendable, crosses, sync_rules, sync_amended) depth 30

pub sync_judge : (ℓ : NamedLft) → IsSync (judge_type.the_row ℓ)
sync_judge ℓ = search (sendable, crosses, sync_rules, sync_standing, key.the_sync, value.the_sync, version.the_sync, pages.the_sync, sync_known) depth 30
