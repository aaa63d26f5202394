-- The numbers of refusals, and how they are written.
use Rattle.std.specs.Prelude.{◌++◌, ℕ, List, codes}
use Rattle.std.specs.Fmt.{decimal}
use Rattle.committer.specs.Numbers.{refusal_number}
use Rattle.log_committer.specs.declared.refusal.ReceiveRefusal.{ReceiveRefusal}
use Rattle.log_committer.specs.declared.refusal.ReceiveRefusal.TheVariants.{Forked, Unfit}

abbrev pub receive_number : ReceiveRefusal → ℕ
receive_number (Forked block) = 602
receive_number (Unfit cause) = refusal_number cause

-- a fork is told with the number of its block
abbrev pub receive_text : ReceiveRefusal → List ℕ
receive_text (Forked block) = codes "refused 602 block " ++ decimal block
receive_text (Unfit cause) = codes "refused " ++ decimal (refusal_number cause)
