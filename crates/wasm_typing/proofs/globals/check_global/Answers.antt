use Rattle.wasm_typing.specs.Broken.{GlobalValue}
use Rattle.wasm_typing.proofs.globals.check_global.Goals as goal

pub returns-in-None-clause-broken : goal.returns-in-None-clause-broken
returns-in-None-clause-broken c k h = GlobalValue k c.args.global.now h c.in-None.ensures.constant
