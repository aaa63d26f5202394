-- What is found of a chain, as JSON.
use Rattle.std.specs.Prelude.{ℕ, List, ◌∷◌, ◌++◌, codes, decimal}
use Rattle.block_store.specs.End.{end_text}
use Rattle.block_store.specs.declared.end.End.{End}
use Rattle.block_store.specs.declared.end.End.TheVariants.{Clean, Torn, Damaged, DeviceFailed}
use Rattle.committer.specs.Numbers.{refusal_number}
use Rattle.ledger_setting.specs.declared.verdict.Audit.TheVariants.{Agrees, Differs}
use Rattle.serde_json.specs.Data.{Data, number, unsigned, string, object, member, no_members}
use Rattle.json_chain.specs.declared.ending.Finding.{Finding}
use Rattle.json_chain.specs.declared.ending.Finding.TheVariants.{FlagsDiffer, Unfit, NotAtHand, Audited}

abbrev pub finding_words : Finding → List ℕ
finding_words (FlagsDiffer block) = codes "flags differ " ++ decimal block
finding_words (Unfit cause) = codes "refused " ++ decimal (refusal_number cause)
finding_words (NotAtHand block) = codes "refused 406 block " ++ decimal block
finding_words (Audited (Agrees rerun)) = codes "agrees"
finding_words (Audited (Differs block tx)) = codes "differs " ++ (decimal block ++ 46 ∷ decimal tx)

-- how many transactions agree with their reruns, where all that are VALID do
abbrev pub rerun_of : Finding → ℕ
rerun_of (FlagsDiffer block) = 0
rerun_of (Unfit cause) = 0
rerun_of (NotAtHand block) = 0
rerun_of (Audited (Agrees rerun)) = rerun
rerun_of (Audited (Differs block tx)) = 0

abbrev pub end_words : End → List ℕ
end_words Clean = codes "clean"
end_words Torn = codes "refused " ++ end_text Torn
end_words (Damaged n) = codes "refused " ++ end_text (Damaged n)
end_words DeviceFailed = codes "refused " ++ end_text DeviceFailed

-- what is found of so many blocks, and how their store ends
abbrev pub ending_json : Finding → ℕ → End → Data
ending_json finding blocks end =
    object (member (codes "audit") (string (finding_words finding)) (member (codes "blocks") (number (unsigned blocks))
    (member (codes "end") (string (end_words end)) (member (codes "rerun") (number (unsigned (rerun_of finding))) no_members))))
