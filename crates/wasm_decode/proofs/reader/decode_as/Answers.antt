use Rattle.std.proofs.Common.{subst}
use Rattle.wasm_decode.specs.Parses.{Makes}
use Rattle.wasm_decode.proofs.ModuleTheorem.{is_found, module_again}
use Rattle.wasm_decode.proofs.reader.decode_as.Goals as goal

pub returns-clause-found : goal.returns-clause-found
returns-clause-found c = is_found c.args.profile c.args.bytes.now c.module.result c.module.ensures.read

pub returns-clause-only : goal.returns-clause-only
returns-clause-only c = λ m h. subst (λ o. Makes (λ x. x) c.module.result o) (module_again c.args.profile c.args.bytes.now m h) c.module.ensures.read
