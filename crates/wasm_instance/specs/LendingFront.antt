-- What a beginning of a memory that is lent leaves behind.
use Rattle.std.specs.Prelude.{ℕ, List, ◌++◌, take, drop, length}
use Rattle.std.specs.Borrow.{Lends, MutBor, Fml, Array, u8}
use Rattle.wasm_instance.specs.contracts.memory.Memory.{the_row}

-- bytes in place of others: as many as there were, which `bytes` is where it has the same length
abbrev pub in_place : List ℕ → List ℕ → List ℕ
in_place old bytes = take (length old) (bytes ++ drop (length bytes) old)

-- the memory begins with the bytes that were written last, and goes on as before
abbrev pub LendsFront : MutBor (List ℕ) → MutBor (List ℕ) → Fml
LendsFront m r =
    Lends the_row (Array u8 0) m r (λ bytes. in_place (take (length r.now) m.now) bytes ++ drop (length r.now) m.now)
