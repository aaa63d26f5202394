-- Why a record is not read where it lies.
use Rattle.store_devices.specs.declared.placed.BlockFault.{BlockFault}
use Rattle.store_devices.specs.declared.placed.BlockFault.TheVariants.{Memory, Device, Damaged}

-- for want of memory
abbrev pub IsOfMemory : BlockFault → Type 0
IsOfMemory Memory = Unit {0}
IsOfMemory Device = ⊥
IsOfMemory (Damaged number) = ⊥
