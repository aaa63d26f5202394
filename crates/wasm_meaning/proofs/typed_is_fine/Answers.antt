use Rattle.wasm_meaning.specs.Laws.Sound.{meaning_sound}
use Rattle.wasm_meaning.proofs.typed_is_fine.Goals as goal

pub returns : goal.returns
returns g c = meaning_sound
