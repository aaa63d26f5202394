-- The tests of a call that are passed.
use Rattle.std.proofs.Common.{◌≡◌, ◌≤◌, ℕ, true, List, length, Option, Some, None, option_map, Bor, sym, ap, arith, is_some}
use Rattle.std.specs.Prelude.{◌&&◌}
use Rattle.std.proofs.lemmas.Bool.Decides.{nat_tests}
use Rattle.wasm_meaning.specs.Values.{Reply}
use Rattle.host_api.specs.Recorded.{Recorded}
use Rattle.host_api.specs.HostStep.{or_trap, is_bound, is_limit}

module _ (memory : List ℕ) (s : Recorded) where
  -- bytes that lie in the memory
  pub here : (p : Option (List ℕ)) (b : List ℕ) → Some b ≡ p → (r : List ℕ → Reply Recorded) → or_trap p memory s r ≡ r b
  here p b e r = ap (λ (q : Option (List ℕ)). or_trap q memory s r) (sym e)

  -- a target that lies there
  pub room : (o : Option (Bor (List ℕ))) (p : Option (List ℕ)) → option_map (λ b. b.now) o ≡ p → is_some o ≡ true → (r : Reply Recorded) →
      or_trap p memory s (λ _. r) ≡ r
  room None p e h r = cc
  room (Some b) p e h r = ap (λ (q : Option (List ℕ)). or_trap q memory s (λ _. r)) (sym e)

pub limit_ok : (n : ℕ) → 1 ≤ n → n ≤ 64 → is_limit n ≡ true
limit_ok n lo hi = grind (arith, nat_tests, lo, hi)

pub bounds_ok : (start end : List ℕ) → length start ≤ 64 → length end ≤ 64 → (is_bound start && is_bound end) ≡ true
bounds_ok start end lo hi = grind (arith, nat_tests, lo, hi)
