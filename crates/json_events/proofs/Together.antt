-- The endorsements of several names, name by name.
use Rattle.std.proofs.Common.{◌≡◌, ℕ, suc, ◌+◌, ◌<◌, List, [], ◌∷◌, ◌++◌, length, get_or, drop, map, Option, Some, None, option_map, String, Global}
use Rattle.std.proofs.Common.{string_bytes, refl, sym, ap, ◌∙◌, append_assoc, add-one, drop-cons, append-nil}
use Rattle.std.proofs.Math.Seq.{drop-length}
use Rattle.fab_types.specs.declared.envelope.Endorsement.{Endorsement}
use Rattle.json_events.specs.Bound.{endorsements_of}
use Rattle.json_events.specs.declared.bindings.Endorsed.{Endorsed}

abbrev Look : Type 0
Look = List ℕ → Option Endorsed

-- the endorsements that the names from place i on stand for, behind those that were found
abbrev pub found_before : Look → List (String Global) → ℕ → List Endorsement → Option (List Endorsement)
found_before bound names i found = option_map (λ rest. found ++ rest) (endorsements_of bound (map string_bytes (drop i names)))

pub none_before : (rest : Option (List Endorsement)) → rest ≡ option_map (λ r. [] ++ r) rest
none_before None = refl
none_before (Some r) = refl

one_more : (found : List Endorsement) (y : Endorsement) (rest : Option (List Endorsement))
    → option_map (λ r. found ++ r) (option_map (λ r. y ∷ r) rest) ≡ option_map (λ r. (found ++ y ∷ []) ++ r) rest
one_more found y None = refl
one_more found y (Some r) = ap Some (sym (append_assoc found (y ∷ []) r))

next : (names : List (String Global)) (i : ℕ) (name : String Global) → i < length names → name ≡ get_or names i name → drop i names ≡ name ∷ drop (i + 1) names
next names i name less is = let cut = drop-cons names i name less in rw (add-one) (cut ∙ ap (λ n. n ∷ drop (suc i) names) (sym is))

pub found_more : (bound : Look) (names : List (String Global)) (i : ℕ) (name : String Global) (e : Endorsed) (found : List Endorsement)
    → i < length names → name ≡ get_or names i name → bound (string_bytes name) ≡ Some e
    → found_before bound names i found ≡ found_before bound names (i + 1) (found ++ e.endorsement ∷ [])
found_more bound names i name e found less is stands =
    rw (next names i name less is, stands) (one_more found e.endorsement (endorsements_of bound (map string_bytes (drop (i + 1) names))))

pub not_found : (bound : Look) (names : List (String Global)) (i : ℕ) (name : String Global) (found : List Endorsement)
    → i < length names → name ≡ get_or names i name → bound (string_bytes name) ≡ None
    → found_before bound names i found ≡ None
not_found bound names i name found less is stands = rw (next names i name less is, stands) refl

pub all_found : (bound : Look) (names : List (String Global)) (found : List Endorsement)
    → found_before bound names (length names) found ≡ Some found
all_found bound names found = rw (drop-length names) (ap Some (append-nil found))
