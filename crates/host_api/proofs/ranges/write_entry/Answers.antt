use Rattle.std.proofs.Common.{◌∙◌, ◌%◌, ◌/◌, length}
use Rattle.host_api.proofs.Bytes.{entry_written}
use Rattle.host_api.proofs.ranges.write_entry.Goals as goal

pub returns-clause-written : goal.returns-clause-written
returns-clause-written c =
    c.write_bytes-2.ensures ∙
    entry_written c.args.memory.now c.write_bytes.new.memory c.args.key.now c.args.value.now c.args.at (length c.args.value.now % 256)
    (length c.args.value.now / 256) c.write_bytes.ensures
