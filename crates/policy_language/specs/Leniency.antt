-- What a reading of policies may overlook. The code overlooks nothing; with these a refusal says what stands in its way.
use Rattle.std.specs.Prelude.{ℕ, Bool, false}

-- unknown organisations, thresholds that cannot be met, and so many operators more inside one another
pub record Leniency : Type 0 where
  pub any_name : Bool
  pub any_threshold : Bool
  pub more : ℕ

abbrev pub strict : Leniency
strict = record { any_name = false; any_threshold = false; more = 0 }
