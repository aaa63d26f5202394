-- Threads may share what a peer answers by: it is plain data. A lemma on a field is of a type as a field of a struct.
use denote.Param.Send.{IsSend, IsSync, sendable}
use denote.Ref.{NamedLft}
use Rattle.std.proofs.Crossing.{crosses}
use Rattle.seq.proofs.Seq.TheSendSync as seq
use Rattle.fab_types.proofs.name.Name.TheSendSync as name
use Rattle.fab_types.proofs.org_name.OrgName.TheSendSync as org_name
use Rattle.wasm_ast.proofs.body.BranchTable.TheSendSync as branch_table
use Rattle.wasm_ast.proofs.body.MemoryArgument.TheSendSync as memory_argument
use Rattle.wasm_ast.proofs.operators.LoadOp.TheSendSync as load
use Rattle.wasm_ast.proofs.operators.StoreOp.TheSendSync as store
use Rattle.wasm_ast.proofs.operators.CompareOp.TheSendSync as compare
use Rattle.wasm_ast.proofs.operators.UnaryOp.TheSendSync as unary
use Rattle.wasm_ast.proofs.operators.BinaryOp.TheSendSync as binary
use Rattle.wasm_ast.proofs.operators.ConvertOp.TheSendSync as convert
use Rattle.wasm_ast.proofs.types.ValueType.TheSendSync as value_type
use Rattle.wasm_ast.proofs.types.FuncType.TheSendSync as signature
use Rattle.wasm_ast.proofs.types.Limits.TheSendSync as limits
use Rattle.wasm_ast.proofs.types.GlobalType.TheSendSync as typed
use Rattle.wasm_ast.proofs.module.Import.TheSendSync as imported
use Rattle.wasm_ast.proofs.module.Export.TheSendSync as exported
use Rattle.wasm_ast.proofs.host_call.HostCall.TheSendSync as host_call
use Rattle.wasm_translate.proofs.translation.FlatText.TheSendSync as flat_code
use Rattle.endorsement_policy.proofs.installed.Installed.TheSendSync as installed
use Rattle.endorsement_policy.proofs.installed.ModuleId.TheSendSync as module_id
use Rattle.org_keys.proofs.organisation.Organisation.TheSendSync as organisation
use Rattle.org_keys.proofs.signers.Signers.TheSendSync as signers
use Rattle.wasm_ast.proofs.body.Body.TheLaws.TheKnot as code_knot
use Rattle.policy_language.proofs.policy.Policies.TheLaws.TheKnot as policy_knot
use Rattle.wasm_ast.specs.contracts.body.Body as body_type
use Rattle.wasm_ast.specs.contracts.module.Func as func_type
use Rattle.wasm_ast.specs.contracts.module.Global as global_type
use Rattle.wasm_ast.specs.contracts.module.ElementSegment as element_type
use Rattle.wasm_ast.specs.contracts.module.DataSegment as segment_type
use Rattle.wasm_ast.specs.contracts.module.Module as module_tree_type
use Rattle.wasm_validate.specs.contracts.valid.ValidModule as valid_module_type
use Rattle.chaincode_book.specs.contracts.book.Chaincode as chaincode_type
use Rattle.chaincode_book.specs.contracts.book.Held as held_type
use Rattle.chaincode_book.specs.contracts.book.Book as book_type
use Rattle.policy_language.specs.contracts.policy.Policy as policy_type
use Rattle.endorsement_policy.specs.contracts.rules.ChaincodePolicy as chaincode_policy_type
use Rattle.endorsement_policy.specs.contracts.rules.Rules as rules_type
use Rattle.ledger_setting.specs.contracts.genesis.Genesis as genesis_type
use Rattle.peer_answers.specs.contracts.log_genesis.LogGenesis as log_genesis_type
use Rattle.peer_answers.specs.contracts.answering.Answering as answering_type

ruleset operators_send = (
  branch_table.the_send,
  branch_table.the_field_send,
  memory_argument.the_send,
  memory_argument.the_field_send,
  load.the_send,
  load.the_field_send,
  store.the_send,
  store.the_field_send,
  compare.the_send,
  compare.the_field_send,
  unary.the_send,
  unary.the_field_send,
  binary.the_send,
  binary.the_field_send,
  convert.the_send,
  convert.the_field_send,
  value_type.the_send,
  value_type.the_field_send,
)

ruleset operators_sync = (
  branch_table.the_sync,
  branch_table.the_field_sync,
  memory_argument.the_sync,
  memory_argument.the_field_sync,
  load.the_sync,
  load.the_field_sync,
  store.the_sync,
  store.the_field_sync,
  compare.the_sync,
  compare.the_field_sync,
  unary.the_sync,
  unary.the_field_sync,
  binary.the_sync,
  binary.the_field_sync,
  convert.the_sync,
  convert.the_field_sync,
  value_type.the_sync,
  value_type.the_field_sync,
)

send_body : IsSend body_type.the_row
send_body = search (sendable, crosses, operators_send, code_knot.send-Body) depth 30

send_func : IsSend func_type.the_row
send_func = search (sendable, crosses, seq.the_send, value_type.the_send, send_body) depth 30

send_global : IsSend global_type.the_row
send_global = search (sendable, crosses, typed.the_field_send, send_body) depth 30

send_element : IsSend element_type.the_row
send_element = search (sendable, crosses, seq.the_send, send_body) depth 30

send_segment : IsSend segment_type.the_row
send_segment = search (sendable, crosses, seq.the_send, send_body) depth 30

send_module_tree_field : IsSend (module_tree_type.the_field).row
send_module_tree_field =
    search (
      sendable,
      crosses,
      seq.the_send,
      signature.the_send,
      imported.the_send,
      limits.the_send,
      exported.the_send,
      send_func,
      send_global,
      send_element,
      send_segment,
    ) depth 30

send_valid_module : IsSend valid_module_type.the_row
send_valid_module = search (sendable, crosses, host_call.the_send, flat_code.the_send, send_module_tree_field) depth 30

send_chaincode : IsSend chaincode_type.the_row
send_chaincode = search (sendable, crosses, name.the_send, send_valid_module) depth 30

send_held : IsSend held_type.the_row
send_held = search (sendable, crosses, module_id.the_send, send_valid_module) depth 30

send_book : IsSend book_type.the_row
send_book = search (sendable, crosses, send_chaincode, send_held, send_valid_module, installed.the_send) depth 30

send_policy_field : IsSend (policy_type.the_field).row
send_policy_field = search (sendable, crosses, org_name.the_send, policy_knot.crosses) depth 30

send_chaincode_policy : IsSend chaincode_policy_type.the_row
send_chaincode_policy = search (sendable, crosses, name.the_send, send_policy_field) depth 30

send_rules : IsSend rules_type.the_row
send_rules = search (sendable, crosses, organisation.the_send, send_chaincode_policy, send_policy_field, installed.the_send) depth 30

sync_body : IsSync body_type.the_row
sync_body = search (sendable, crosses, operators_sync, code_knot.sync-Body) depth 30

sync_func : IsSync func_type.the_row
sync_func = search (sendable, crosses, seq.the_sync, value_type.the_sync, sync_body) depth 30

sync_global : IsSync global_type.the_row
sync_global = search (sendable, crosses, typed.the_field_sync, sync_body) depth 30

sync_element : IsSync element_type.the_row
sync_element = search (sendable, crosses, seq.the_sync, sync_body) depth 30

sync_segment : IsSync segment_type.the_row
sync_segment = search (sendable, crosses, seq.the_sync, sync_body) depth 30

sync_module_tree_field : IsSync (module_tree_type.the_field).row
sync_module_tree_field =
    search (
      sendable,
      crosses,
      seq.the_sync,
      signature.the_sync,
      imported.the_sync,
      limits.the_sync,
      exported.the_sync,
      sync_func,
      sync_global,
      sync_element,
      sync_segment,
    ) depth 30

sync_valid_module : IsSync valid_module_type.the_row
sync_valid_module = search (sendable, crosses, host_call.the_sync, flat_code.the_sync, sync_module_tree_field) depth 30

sync_chaincode : IsSync chaincode_type.the_row
sync_chaincode = search (sendable, crosses, name.the_sync, sync_valid_module) depth 30

sync_held : IsSync held_type.the_row
sync_held = search (sendable, crosses, module_id.the_sync, sync_valid_module) depth 30

sync_book : IsSync book_type.the_row
sync_book = search (sendable, crosses, sync_chaincode, sync_held, sync_valid_module, installed.the_sync) depth 30

sync_policy_field : IsSync (policy_type.the_field).row
sync_policy_field = search (sendable, crosses, org_name.the_sync, policy_knot.crosses) depth 30

sync_chaincode_policy : IsSync chaincode_policy_type.the_row
sync_chaincode_policy = search (sendable, crosses, name.the_sync, sync_policy_field) depth 30

sync_rules : IsSync rules_type.the_row
sync_rules = search (sendable, crosses, organisation.the_sync, sync_chaincode_policy, sync_policy_field, installed.the_sync) depth 30

sync_genesis_field : IsSync (genesis_type.the_field).row
sync_genesis_field =
    search (sendable, crosses, org_name.the_sync, send_book, sync_book, send_rules, sync_rules, signers.the_send, signers.the_sync) depth 30

sync_log_genesis : IsSync log_genesis_type.the_row
sync_log_genesis = search (sendable, crosses, sync_genesis_field) depth 30

pub sync_answering : (ℓ : NamedLft) → IsSync (answering_type.the_row ℓ)
sync_answering ℓ = search (sendable, crosses, sync_log_genesis, org_name.the_sync) depth 30
