-- The editions of the rules.
use Rattle.std.specs.Prelude.{ℕ, Option, Some, None, nat_eq, if◌then◌else◌}
use Rattle.fab_types.specs.declared.edition.Edition.{Edition}
use Rattle.fab_types.specs.declared.edition.Edition.TheVariants.{First, Second}

-- the number by which a genesis file names an edition
abbrev pub edition_number : Edition → ℕ
edition_number First = 1
edition_number Second = 2

-- the edition of a number, 1 or 2
abbrev pub edition_of : ℕ → Option Edition
edition_of n = if nat_eq n 1 then Some First else (if nat_eq n 2 then Some Second else None)

-- the number of the last block that a ledger of an edition may have
abbrev pub last_block : Edition → ℕ
last_block First = 65535
last_block Second = 4000000000
