-- The names that stand in a text, whatever else it is.
use Rattle.std.specs.Prelude.{ℕ, List, [], ◌∷◌, take, Option, Some, None, ◌==◌, if◌then◌else◌}
use Rattle.std.specs.List.{prefix_len}
use Rattle.fab_types.specs.Limits.{is_org_name_byte}
use Rattle.policy_language.specs.GoodSets.{Name, Names}
use Rattle.policy_language.specs.Reading.{is_org_name}

-- these bytes, where they are the name of an organisation
abbrev pub org_name : List ℕ → Option Name
org_name bytes = if is_org_name bytes then Some bytes else None

-- the name at the front of a text, as far as its characters go on
abbrev pub name_in_front : List ℕ → Option Name
name_in_front text = org_name (take (prefix_len is_org_name_byte text) text)

abbrev pub with_name : Option Name → Names → Names
with_name None names = names
with_name (Some name) names = name ∷ names

-- each name that stands behind a quote: those that a policy of this text can be of
abbrev pub names_in_text : List ℕ → Names
names_in_text [] = []
names_in_text (b ∷ bs) = if b == 39 then with_name (name_in_front bs) (names_in_text bs) else names_in_text bs
