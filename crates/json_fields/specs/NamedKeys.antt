-- An object of a name and a public key.
use Rattle.std.specs.Prelude.{ℕ, List, codes}
use Rattle.serde_json.specs.Data.{Data, string, object, member, no_members}

-- {"name":"B","public":"d75a98.."}
abbrev pub public_object : (name public : List ℕ) → Data
public_object name public = object (member (codes "name") (string name) (member (codes "public") (string public) no_members))
