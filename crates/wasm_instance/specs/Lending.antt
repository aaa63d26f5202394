-- What a memory that is lent leaves behind.
use Rattle.std.specs.Prelude.{ℕ, List}
use Rattle.std.specs.Borrow.{Lends, MutBor, Fml}
use Rattle.wasm_instance.specs.State.{State}
use Rattle.wasm_instance.specs.contracts.memory.Memory.{the_row as memory-row}
use Rattle.wasm_instance.specs.contracts.instance.Instance.{the_row}

-- the instance ends with the memory that was left
abbrev pub LendsMemory : MutBor State → MutBor (List ℕ) → Fml
LendsMemory i r = Lends the_row memory-row i r (λ memory. record i.now { memory = memory })
