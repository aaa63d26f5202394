use Rattle.block_store.proofs.OneRecord.{no_beginning, no_damage, not_all_taken}
use Rattle.block_store.proofs.one_record.read_record.Goals as goal

pub returns-else-taken-bytes : goal.returns-else-taken-bytes
returns-else-taken-bytes c =
    not_all_taken c.args.number c.args.bytes.now c.in-Whole.record c.in-Whole.taken (rw c.in-Whole.is at c.in_ok-record.ensures) c.if-taken-bytes.false

pub returns-in-Beginning : goal.returns-in-Beginning
returns-in-Beginning c = no_beginning c.args.number c.args.bytes.now (rw c.in-Beginning.is at c.in_ok-record.ensures).0

pub returns-in-Damaged : goal.returns-in-Damaged
returns-in-Damaged c = no_damage c.args.number c.args.bytes.now (rw c.in-Damaged.is at c.in_ok-record.ensures)
