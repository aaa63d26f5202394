-- A range that is halved at each step is empty after as many steps as its length has binary digits, or one fewer.
use Rattle.std.proofs.Common.{◌≡◌, ℕ, zero, suc, ◌+◌, ◌*◌, ◌^◌, ◌<◌, ◌≤◌, arith}
use Rattle.std.proofs.Math.Nat.{pow-succ'}
use Rattle.std.proofs.lemmas.Nat.{pow_pos}
use Rattle.persist_map.specs.Search.{IsWithinDigits, ReachesDigits}

-- the steps that were taken leave enough for what is left
abbrev pub IsHalving : ℕ → ℕ → ℕ → Type 0
IsHalving n asked left = (d : ℕ) → n < 2 ^ d → (r : ℕ) × (asked + r ≡ d) × (left < 2 ^ r)

pub halving_start : (n : ℕ) → IsHalving n 0 n
halving_start n d h = (d, omega arith, h)

step_by : (r d asked left next : ℕ) → asked + r ≡ d → left < 2 ^ r → 0 < left → 2 * next ≤ left → (q : ℕ) × (asked + 1 + q ≡ d) × (next < 2 ^ q)
step_by zero d asked left next e h p s = absurd (omega arith)
step_by (suc r) d asked left next e h p s = (r, omega arith, omega (arith, pow-succ' 2 r))

pub halving_step : (n asked left next : ℕ) → IsHalving n asked left → 0 < left → 2 * next ≤ left → IsHalving n (asked + 1) next
halving_step n asked left next f p s d h = let q = f d h in step_by q.0 d asked left next q.1 q.2 p s

pub halving_within : (n asked left : ℕ) → IsHalving n asked left → IsWithinDigits n asked
halving_within n asked left f d h = let q = f d h in omega (arith, q.1)

-- few steps are left of a length that fits 64 bits
pub halving_fits : (n asked left : ℕ) → IsHalving n asked left → n < 2 ^ 64 → asked ≤ 64
halving_fits n asked left f h = halving_within n asked left f 64 h

-- what is left asks for the steps that were not taken yet
abbrev pub IsReaching : ℕ → ℕ → ℕ → Type 0
IsReaching n asked left = (d : ℕ) → 2 ^ d ≤ n + 1 → (r : ℕ) × (d ≤ asked + r) × (2 ^ r ≤ left + 1)

pub reaching_start : (n : ℕ) → IsReaching n 0 n
reaching_start n d h = (d, omega arith, h)

reach_by : (r d asked left next : ℕ) → d ≤ asked + r → 2 ^ r ≤ left + 1 → left ≤ 2 * next + 2 → (q : ℕ) × (d ≤ asked + 1 + q) × (2 ^ q ≤ next + 1)
reach_by zero d asked left next e h s = (zero, omega arith, omega arith)
reach_by (suc r) d asked left next e h s = (r, omega arith, omega (arith, pow-succ' 2 r))

pub reaching_step : (n asked left next : ℕ) → IsReaching n asked left → left ≤ 2 * next + 2 → IsReaching n (asked + 1) next
reaching_step n asked left next f s d h = let q = f d h in reach_by q.0 d asked left next q.1 q.2 s

reached_by : (r d asked : ℕ) → d ≤ asked + r → 2 ^ r ≤ 1 → d ≤ asked
reached_by zero d asked e h = omega arith
reached_by (suc r) d asked e h = absurd (omega (arith, pow-succ' 2 r, pow_pos r))

pub reaching_ends : (n asked left : ℕ) → IsReaching n asked left → left ≡ 0 → ReachesDigits n asked
reaching_ends n asked left f e d h = let q = f d (omega arith) in reached_by q.0 d asked q.1 (omega (arith, q.2))
