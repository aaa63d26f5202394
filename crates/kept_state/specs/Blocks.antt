-- The blocks of a chain that nobody holds.
use Rattle.std.specs.Prelude.{[], ◌∷◌, ◌++◌}
use Rattle.fab_types.specs.Committed.{Committed}
use Rattle.kept_state.specs.declared.blocks.Blocks.{Blocks}

abbrev pub no_blocks : Blocks
no_blocks = record { blocks = [] }

-- with one more block
abbrev pub followed_by : Blocks → Committed → Blocks
followed_by held committed = record { blocks = held.blocks ++ committed ∷ [] }
