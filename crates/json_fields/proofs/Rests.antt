-- What follows the first members of an object.
use Rattle.std.proofs.Common.{ℕ, List, []}
use Rattle.serde_json.specs.Data.{Data, null, string, object, Members, no_members, member}

abbrev pub members_in : Data → Members
members_in (object ms) = ms
members_in d = no_members

abbrev pub rest : Members → Members
rest no_members = no_members
rest (member k d ms) = ms

abbrev pub rest_of_three : Members → Members
rest_of_three ms = rest (rest (rest ms))

abbrev pub first : Members → Data
first no_members = null
first (member k d ms) = d

abbrev pub text_in : Data → List ℕ
text_in (string s) = s
text_in d = []
