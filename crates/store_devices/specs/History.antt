-- What a device has done.
use Rattle.std.specs.Prelude.{ℕ, suc, List, [], ◌++◌, ◌-◌, length, take}
use Rattle.store_devices.specs.declared.history.History.{History}
use Rattle.store_devices.specs.declared.history.Call.{Call}
use Rattle.store_devices.specs.declared.history.Call.TheVariants.{Moved, CutBack, Synced, Failed}

abbrev pub fresh : History
fresh = record { moved = []; failures = 0; synced = [] }

-- so many bytes less at the end
abbrev pub cut_back : ℕ → List ℕ → List ℕ
cut_back count bytes = take (length bytes - count) bytes

-- the same and one more call
abbrev pub after : History → Call → History
after h (Moved bytes) = record { moved = h.moved ++ bytes.now; failures = h.failures; synced = h.synced }
after h (CutBack count) = record { moved = cut_back count h.moved; failures = h.failures; synced = h.synced }
after h Synced = record { moved = h.moved; failures = h.failures; synced = h.moved }
after h Failed = record { moved = h.moved; failures = suc h.failures; synced = h.synced }
