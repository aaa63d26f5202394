-- What the program prints of the ledger's values.
use Rattle.std.specs.Prelude.{◌++◌, ℕ, Bool, true, false, List, [], ◌∷◌, length, Option, Some, None, codes}
use Rattle.std.specs.Fmt.{decimal}
use Rattle.std.specs.List.{flat_map}
use Rattle.hex.specs.Hex.{encode_lower}
use Rattle.fab_types.specs.FlagNumber.{flag_number}
use Rattle.fab_types.specs.Payloads.{Payload}
use Rattle.fab_types.specs.Sets.{Range}
use Rattle.fab_types.specs.Version.{Version}
use Rattle.fab_types.specs.declared.flag.Flag.{Flag}
use Rattle.fab_types.specs.declared.items.ReadItem.{ReadItem}
use Rattle.fab_types.specs.declared.items.WriteItem.{WriteItem}
use Rattle.wire.specs.Ids.{id_of}
use Rattle.simulator.specs.RefusalNumber.{refusal_text}
use Rattle.simulator.specs.declared.refusal.SimRefusal.{SimRefusal}
use Rattle.ledger_setting.specs.declared.verdict.Audit.{Audit}
use Rattle.ledger_setting.specs.declared.verdict.Audit.TheVariants.{Agrees, Differs}
use Rattle.cli_lines.specs.Texts.{line}

-- bytes in lower-case hex, and `-` for none
abbrev pub hex_text : List ℕ → List ℕ
hex_text [] = codes "-"
hex_text (x ∷ xs) = encode_lower (x ∷ xs)

-- the id of the transaction of a payload
abbrev pub id_text : Payload → List ℕ
id_text payload = encode_lower (id_of payload.proposal)

-- a version by its block and its place
abbrev pub version_text : Version → List ℕ
version_text v = decimal v.block ++ (codes "." ++ decimal v.place)

-- behind a key that was read: the version seen
abbrev pub seen_text : Option Version → List ℕ
seen_text None = codes " absent\n"
seen_text (Some v) = codes " " ++ (version_text v ++ codes "\n")

abbrev pub read_text : ReadItem → List ℕ
read_text r = codes "read " ++ (hex_text r.key ++ seen_text r.version)

abbrev pub range_text : Range → List ℕ
range_text r =
    codes "range " ++ (hex_text r.start ++ (codes " " ++ (hex_text r.end ++ (codes " " ++ (decimal r.limit
    ++ (codes " " ++ (decimal (length r.entries) ++ codes "\n")))))))

-- behind a key that is written: its new value
abbrev pub put_text : Option (List ℕ) → List ℕ
put_text None = codes " delete\n"
put_text (Some value) = codes " put " ++ (hex_text value ++ codes "\n")

abbrev pub write_text : WriteItem → List ℕ
write_text w = codes "write " ++ (hex_text w.key ++ put_text w.value)

-- a transaction's id and its result
abbrev pub head_text : Payload → List ℕ
head_text p = (codes "tx " ++ (id_text p ++ codes "\n")) ++ (codes "result " ++ (hex_text p.result ++ codes "\n"))

-- a transaction: its id, its result, and all that it read and writes
abbrev pub payload_text : Payload → List ℕ
payload_text p = ((head_text p ++ flat_map read_text p.reads) ++ flat_map range_text p.ranges) ++ flat_map write_text p.writes

-- why a simulation was refused
abbrev pub simulation_line : SimRefusal → List ℕ
simulation_line refusal = line (refusal_text refusal)

abbrev pub flag_text : Flag → List ℕ
flag_text f = codes " " ++ decimal (flag_number f)

-- a block that was committed
abbrev pub committed_text : ℕ → List Flag → List ℕ
committed_text number flags = ((codes "committed " ++ (decimal number ++ codes " flags")) ++ flat_map flag_text flags) ++ codes "\n"

-- what an audit says
abbrev pub audit_text : Audit → List ℕ
audit_text (Agrees rerun) = codes "audit agrees\n"
audit_text (Differs block tx) = codes "audit differs " ++ (decimal block ++ (codes "." ++ (decimal tx ++ codes "\n")))

-- the block of this number upgrades to a module that is not at hand, so that its chain cannot be run again
abbrev pub missing_text : ℕ → List ℕ
missing_text block = codes "refused 406 block " ++ (decimal block ++ codes "\n")

-- whether all transactions agree with their reruns
abbrev pub does_agree : Audit → Bool
does_agree (Agrees rerun) = true
does_agree (Differs block tx) = false
