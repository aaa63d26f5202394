use Rattle.std.proofs.Common.{◌≡◌, ℕ, ◌-◌, ◌^◌, refl, ◌∙◌}
use Rattle.field25519.specs.Modulo.{power}
use Rattle.field25519.proofs.Powers.{by_two, by_sum, by_next, by_power, times_comm}
use Rattle.field25519.proofs.field.Field.chain.Goals as goal
use Rattle.field25519.proofs.field.Field.chain.Goals.{After-times}

module _ (c : After-times) where
  abbrev x : ℕ
  x = c.args.self.now

  z2 : c.squared-z2.result ≡ power x 2
  z2 = by_two x _ c.squared-z2.ensures

  z8 : c.squared_times.result ≡ power x 8
  z8 = by_power x 2 4 8 _ _ refl z2 c.squared_times.ensures

  z9 : c.times-z9.result ≡ power x 9
  z9 = by_next x 8 9 _ _ refl z8 (c.times-z9.ensures ∙ times_comm x _)

  pub z11 : c.times-z11.result ≡ power x 11
  z11 = by_sum x 9 2 11 _ _ _ refl z9 z2 c.times-z11.ensures

  z22 : c.squared.result ≡ power x 22
  z22 = by_sum x 11 11 22 _ _ _ refl z11 z11 c.squared.ensures

  z5 : c.times-z5.result ≡ power x (2 ^ 5 - 1)
  z5 = by_sum x 22 9 (2 ^ 5 - 1) _ _ _ refl z22 z9 c.times-z5.ensures

  z10 : c.times-z10.result ≡ power x (2 ^ 10 - 1)
  z10 = by_sum x (2 ^ 10 - 2 ^ 5) (2 ^ 5 - 1) (2 ^ 10 - 1) _ _ _ refl
      (by_power x (2 ^ 5 - 1) (2 ^ 5) (2 ^ 10 - 2 ^ 5) _ _ refl z5 c.squared_times-2.ensures)
      z5 c.times-z10.ensures

  z20 : c.times-z20.result ≡ power x (2 ^ 20 - 1)
  z20 = by_sum x (2 ^ 20 - 2 ^ 10) (2 ^ 10 - 1) (2 ^ 20 - 1) _ _ _ refl
      (by_power x (2 ^ 10 - 1) (2 ^ 10) (2 ^ 20 - 2 ^ 10) _ _ refl z10 c.squared_times-3.ensures)
      z10 c.times-z20.ensures

  z40 : c.times-z40.result ≡ power x (2 ^ 40 - 1)
  z40 = by_sum x (2 ^ 40 - 2 ^ 20) (2 ^ 20 - 1) (2 ^ 40 - 1) _ _ _ refl
      (by_power x (2 ^ 20 - 1) (2 ^ 20) (2 ^ 40 - 2 ^ 20) _ _ refl z20 c.squared_times-4.ensures)
      z20 c.times-z40.ensures

  z50 : c.times-z50.result ≡ power x (2 ^ 50 - 1)
  z50 = by_sum x (2 ^ 50 - 2 ^ 10) (2 ^ 10 - 1) (2 ^ 50 - 1) _ _ _ refl
      (by_power x (2 ^ 40 - 1) (2 ^ 10) (2 ^ 50 - 2 ^ 10) _ _ refl z40 c.squared_times-5.ensures)
      z10 c.times-z50.ensures

  z100 : c.times-z100.result ≡ power x (2 ^ 100 - 1)
  z100 = by_sum x (2 ^ 100 - 2 ^ 50) (2 ^ 50 - 1) (2 ^ 100 - 1) _ _ _ refl
      (by_power x (2 ^ 50 - 1) (2 ^ 50) (2 ^ 100 - 2 ^ 50) _ _ refl z50 c.squared_times-6.ensures)
      z50 c.times-z100.ensures

  z200 : c.times-z200.result ≡ power x (2 ^ 200 - 1)
  z200 = by_sum x (2 ^ 200 - 2 ^ 100) (2 ^ 100 - 1) (2 ^ 200 - 1) _ _ _ refl
      (by_power x (2 ^ 100 - 1) (2 ^ 100) (2 ^ 200 - 2 ^ 100) _ _ refl z100 c.squared_times-7.ensures)
      z100 c.times-z200.ensures

  pub z250 : c.times.result ≡ power x (2 ^ 250 - 1)
  z250 = by_sum x (2 ^ 250 - 2 ^ 50) (2 ^ 50 - 1) (2 ^ 250 - 1) _ _ _ refl
      (by_power x (2 ^ 200 - 1) (2 ^ 50) (2 ^ 250 - 2 ^ 50) _ _ refl z200 c.squared_times-8.ensures)
      z50 c.times.ensures

pub returns-clause-eleven : goal.returns-clause-eleven
returns-clause-eleven c = z11 (goal.at.returns-clause-eleven c).After-times

pub returns-clause-ones : goal.returns-clause-ones
returns-clause-ones c = z250 (goal.at.returns-clause-ones c).After-times
