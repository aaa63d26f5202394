-- A number in windows of 16 bits.
use Rattle.std.specs.Prelude.{ℕ, zero, suc, ◌+◌, ◌*◌, ◌/◌, ◌%◌, ◌^◌}

-- of so many windows of a number, the four low bits
unfoldable pub tooth : ℕ → ℕ → ℕ
tooth zero n = 0
tooth (suc windows) n = tooth windows n + 65536 ^ windows * (n / 65536 ^ windows % 16)
