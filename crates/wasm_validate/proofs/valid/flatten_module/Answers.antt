use Rattle.wasm_validate.proofs.WellFormed.{well_formed, some_unless}
use Rattle.wasm_validate.proofs.valid.flatten_module.Goals as goal

pub unwrap-requires : goal.unwrap-requires
unwrap-requires c =
    some_unless c.in_ok-flatten.field-0 _ c.in_ok-flatten.ensures.total (well_formed c.args.given.now c.requires.valid)

-- nothing is refused here
pub returns-clause-fault : goal.returns-clause-fault
returns-clause-fault c = tt
