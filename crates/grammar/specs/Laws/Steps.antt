-- What a reading that gave a value went through.
use Rattle.std.proofs.Common.{◌≡◌, ℕ, ◌∷◌, List, [], Bool, true, false, cond, Option, Some, None, refl, ap₂}
use Rattle.std.proofs.lemmas.Option.{some_pair_parts}
use Rattle.grammar.specs.Reading.{◌>>=◌, byte_at}

pub bind_some : {A B : Type 0} (o : Option A) (f : A → Option B) (y : B) → (o >>= f) ≡ Some y → (x : A) × (o ≡ Some x) × (f x ≡ Some y)
bind_some (Some x) f y e = (x, refl, e)
bind_some None f y e = absurd cc

-- a test that has to hold
pub guarded : {A : Type 0} (b : Bool) (o : Option A) (y : A) → cond b o None ≡ Some y → (b ≡ true) × (o ≡ Some y)
guarded true o y e = (refl, e)
guarded false o y e = absurd cc

-- a test that must not hold
pub refused_past : {A : Type 0} (b : Bool) (o : Option A) (y : A) → cond b None o ≡ Some y → (b ≡ false) × (o ≡ Some y)
refused_past true o y e = absurd cc
refused_past false o y e = (refl, e)

-- either way of a test
pub either : {A : Type 0} (b : Bool) (o r : Option A) (y : A) (P : Type 0) → (b ≡ true → o ≡ Some y → P) → (b ≡ false → r ≡ Some y → P) → cond b o r ≡ Some y →
    P
either true o r y P f g e = f refl e
either false o r y P f g e = g refl e

-- a test that chose the value
pub chosen : {A : Type 0} (b : Bool) (x : A) (o : Option A) (y : A) (P : Type 0) → (b ≡ true → x ≡ y → P) → (o ≡ Some y → P) → cond b (Some x) o ≡ Some y → P
chosen true x o y P f g e = f refl cc
chosen false x o y P f g e = g e

pub byte_taken : (bytes : List ℕ) (b : ℕ) (rest : List ℕ) → byte_at bytes ≡ Some (b, rest) → bytes ≡ b ∷ rest
byte_taken [] b rest e = absurd cc
byte_taken (c ∷ bytes) b rest e = let p = some_pair_parts c b bytes rest e in ap₂ (λ (x : ℕ) (y : List ℕ). x ∷ y) p.0 p.1
