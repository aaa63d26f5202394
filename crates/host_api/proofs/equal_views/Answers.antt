use Rattle.std.proofs.Common.{ap}
use Rattle.host_api.specs.HostStep.{host_step}
use Rattle.host_api.specs.Executing.{outcome}
use Rattle.host_api.proofs.equal_views.Goals as goal

pub returns-clause-step : goal.returns-clause-step
returns-clause-step c = λ a b e given. ap (λ m. host_step m given) e

pub returns-clause-execution : goal.returns-clause-execution
returns-clause-execution c = λ a b e wasm fuel given. ap (outcome wasm fuel given) e
