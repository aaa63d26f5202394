-- Which keys a chaincode may write.
use Rattle.std.specs.Prelude.{ℕ, Bool, List, [], ◌∷◌, ◌++◌, nat_eq}
use Rattle.std.specs.List.{starts_with}
use Rattle.fab_types.specs.declared.edition.Edition.{Edition}
use Rattle.fab_types.specs.declared.edition.Edition.TheVariants.{First, Second}

-- what each key begins with that a chaincode may write: nothing, or its name and '/'
abbrev pub namespace : Edition → (chaincode : List ℕ) → List ℕ
namespace First chaincode = []
namespace Second chaincode = chaincode ++ 47 ∷ []

abbrev pub is_in_namespace : (front key : List ℕ) → Bool
is_in_namespace front key = starts_with nat_eq key front
