-- The first byte of a definition says whether it is open, and its module's profile.
use Rattle.std.proofs.Common.{◌≡◌, ◌+◌, ◌≤◌, ℕ, Bool, true, false, refl, arith, if◌then◌else◌}
use Rattle.fab_types.specs.Spelling.{form_of}
use Rattle.fab_types.specs.declared.definition.Definition.{Definition}
use Rattle.wasm_profile.specs.Numbers.{number_of}
use Rattle.wasm_profile.specs.declared.profile.Profile.{Profile}
use Rattle.wasm_profile.specs.declared.profile.Profile.TheVariants.{Core1, SignExtension}

one_profile : (a b : Profile) → number_of a ≡ number_of b → a ≡ b
one_profile Core1 Core1 e = refl
one_profile Core1 SignExtension e = cc
one_profile SignExtension Core1 e = cc
one_profile SignExtension SignExtension e = refl

small : (p : Profile) → number_of p ≤ 2
small Core1 = omega arith
small SignExtension = omega arith

abbrev form_by : Bool → Profile → ℕ
form_by is_open p = if is_open then 16 + number_of p else number_of p

one_form_by : (o q : Bool) (a b : Profile) → form_by o a ≡ form_by q b → (o ≡ q) × (a ≡ b)
one_form_by false false a b e = (refl, one_profile a b e)
one_form_by true true a b e = (refl, one_profile a b (omega (arith, e)))
one_form_by false true a b e = absurd (omega (arith, e, small a))
one_form_by true false a b e = absurd (omega (arith, e, small b))

pub one_form : (a b : Definition) → form_of a ≡ form_of b → (a.is_open ≡ b.is_open) × (a.profile ≡ b.profile)
one_form a b e = one_form_by a.is_open b.is_open a.profile b.profile e
