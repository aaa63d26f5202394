-- The text of an answer.
use Rattle.std.specs.Prelude.{◌++◌, List, ℕ, Option, Some, None, String, codes, string_bytes}
use Rattle.std.specs.Fmt.{decimal}
use Rattle.std.specs.declared.alloc.Global.{Global}
use Rattle.simulator.specs.RefusalNumber.{refusal_text}
use Rattle.store_devices.specs.declared.placed.BlockFault.{BlockFault}
use Rattle.store_devices.specs.declared.placed.BlockFault.TheVariants.{Memory, Device, Damaged}
use Rattle.peer_answers.specs.declared.answer.Answer.{Answer}
use Rattle.peer_answers.specs.declared.answer.Answer.TheVariants.{Endorsed, Refused, Seen, Json, Lost, Bad}
use Rattle.peer_answers.specs.declared.answer.CallRefusal.{CallRefusal}
use Rattle.peer_answers.specs.declared.answer.CallRefusal.TheVariants.{Stranger, Keyless, NotAgreed, Simulation}

abbrev pub call_refusal_text : CallRefusal → List ℕ
call_refusal_text Stranger = codes "refused 806"
call_refusal_text Keyless = codes "refused 808"
call_refusal_text NotAgreed = codes "refused 409"
call_refusal_text (Simulation cause) = refusal_text cause

abbrev pub signed_text : Option (String Global) → List ℕ
signed_text None = codes ""
signed_text (Some signature) = codes " " ++ string_bytes signature

abbrev pub lost_text : BlockFault → List ℕ
lost_text Memory = codes "refused 9"
lost_text Device = codes "refused 703"
lost_text (Damaged number) = codes "refused 702 block " ++ decimal number

abbrev pub answer_text : Answer → List ℕ
answer_text (Endorsed payload endorsement) = codes "endorsed " ++ (string_bytes payload ++ (codes " " ++ string_bytes endorsement))
answer_text (Refused cause) = call_refusal_text cause
answer_text (Seen org number hash signature) =
    codes "seen " ++ (string_bytes org ++ (codes " " ++ (decimal number ++ (codes " " ++ (string_bytes hash ++ signed_text signature)))))
answer_text (Json text) = string_bytes text
answer_text (Lost fault) = lost_text fault
answer_text Bad = codes "bad"
