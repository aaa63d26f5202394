-- The numbers of the ends, and their texts.
use Rattle.std.specs.Prelude.{◌++◌, ℕ, List, Option, Some, None, codes}
use Rattle.std.specs.Fmt.{decimal}
use Rattle.block_store.specs.declared.end.End.{End}
use Rattle.block_store.specs.declared.end.End.TheVariants.{Clean, Torn, Damaged, DeviceFailed}

abbrev pub end_number : End → Option ℕ
end_number Clean = None
end_number Torn = Some 701
end_number (Damaged n) = Some 702
end_number DeviceFailed = Some 703

abbrev pub end_text : End → List ℕ
end_text Clean = codes "clean"
end_text Torn = codes "701"
end_text (Damaged n) = codes "702 block " ++ decimal n
end_text DeviceFailed = codes "703"
