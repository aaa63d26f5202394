-- Why a store, or a block for it, is refused.
use Rattle.std.specs.Prelude.{◌++◌, ℕ, List, codes}
use Rattle.block_store.specs.End.{end_text}
use Rattle.block_store.specs.declared.appending.AppendFault.{AppendFault}
use Rattle.block_store.specs.declared.appending.AppendFault.TheVariants as append
use Rattle.block_store.specs.declared.end.End.TheVariants as end
use Rattle.committer.specs.declared.refusal.CommitRefusal.TheVariants as commit
use Rattle.log_committer.specs.Numbers.{receive_text}
use Rattle.log_committer.specs.declared.refusal.ReceiveRefusal.{ReceiveRefusal}
use Rattle.log_committer.specs.declared.refusal.ReceiveRefusal.TheVariants.{Unfit}
use Rattle.store_replay.specs.Numbers.{recommit_text}
use Rattle.log_peer.specs.declared.refusal.StoreRefusal.{StoreRefusal}
use Rattle.log_peer.specs.declared.refusal.StoreRefusal.TheVariants.{Memory, File, Damaged, Stored, Received}

-- how it is written
abbrev pub store_text : StoreRefusal → List ℕ
store_text Memory = codes "refused 9"
store_text File = codes "refused " ++ end_text end.DeviceFailed
store_text (Damaged number) = codes "refused " ++ end_text (end.Damaged number)
store_text (Stored refusal) = recommit_text refusal
store_text (Received refusal) = receive_text refusal

abbrev pub append_refusal : AppendFault → StoreRefusal
append_refusal append.Memory = Memory
append_refusal (append.Device written) = File

-- want of memory is the machine's, wherever it comes
abbrev pub receive_refusal : ReceiveRefusal → StoreRefusal
receive_refusal (Unfit commit.Memory) = Memory
receive_refusal refusal = Received refusal
