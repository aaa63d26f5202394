-- The numbers of refusals, and how they are written.
use Rattle.std.specs.Prelude.{◌++◌, ℕ, List, codes}
use Rattle.std.specs.Fmt.{decimal}
use Rattle.committer.specs.Numbers.{refusal_number}
use Rattle.store_replay.specs.declared.refusal.RecommitRefusal.{RecommitRefusal}
use Rattle.store_replay.specs.declared.refusal.RecommitRefusal.TheVariants.{Memory, Unfit, Flags}

abbrev pub recommit_number : RecommitRefusal → ℕ
recommit_number Memory = 9
recommit_number (Unfit number cause) = refusal_number cause
recommit_number (Flags number) = 711

-- with the number of the block at fault
abbrev pub recommit_text : RecommitRefusal → List ℕ
recommit_text Memory = codes "refused 9"
recommit_text (Unfit number cause) = codes "refused " ++ (decimal (refusal_number cause) ++ (codes " block " ++ decimal number))
recommit_text (Flags number) = codes "refused 711 block " ++ decimal number
