-- The members of an object that is being made.
use Rattle.serde_json.specs.Data.{Members}
use Rattle.serde_json.specs.View.{members_view}
use Rattle.json_chain.specs.declared.object.Object.{Object}

abbrev pub members_in : Object → Members
members_in o = members_view o.members.entries
