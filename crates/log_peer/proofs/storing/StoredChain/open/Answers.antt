use Rattle.std.proofs.Common.{rules}
use Rattle.kept_state.specs.Keeping.{chain_of}
use Rattle.log_peer.specs.Storing.{IsOpened}
use Rattle.log_peer.proofs.Keeping.{file_holds, file_keeps, file_may_keep, same_records}
use Rattle.log_peer.proofs.storing.StoredChain.open.Goals as goal

pub returns-in-Ok-cut_off-clause-holds : goal.returns-in-Ok-cut_off-clause-holds
returns-in-Ok-cut_off-clause-holds g c =
    let contents = g.D.Write.contents in
    let opened : IsOpened (contents c.args.file) (chain_of c.in-Ok.chain) c.in-Ok.held = search rules in
    file_holds contents c.args.file c.with_history-file.result.device c.cut_off.new.file.device (chain_of c.in-Ok.chain) c.in-Ok.held
    (chain_of c.new-committer.result.chain) (search rules) (search rules) opened (search rules)

pub returns-in-Ok-cut_off-clause-keeps : goal.returns-in-Ok-cut_off-clause-keeps
returns-in-Ok-cut_off-clause-keeps g c =
    let contents = g.D.Write.contents in
    let opened : IsOpened (contents c.args.file) (chain_of c.in-Ok.chain) c.in-Ok.held = search rules in
    file_keeps contents c.args.file c.with_history-file.result.device c.cut_off.new.file.device (chain_of c.in-Ok.chain) c.in-Ok.held (search rules) opened
    (search rules)

pub returns-in-Err-cut_off-clause-keeps : goal.returns-in-Err-cut_off-clause-keeps
returns-in-Err-cut_off-clause-keeps g c =
    let contents = g.D.Write.contents in
    let opened : IsOpened (contents c.args.file) (chain_of c.in-Ok.chain) c.in-Ok.held = search rules in
    file_may_keep contents c.args.file c.with_history-file.result.device c.cut_off.new.file.device (chain_of c.in-Ok.chain) c.in-Ok.held
    c.into_inner-file.result (search rules) (search rules) opened (search rules)

pub returns-in-Err-clause-keeps : goal.returns-in-Err-clause-keeps
returns-in-Err-clause-keeps g c = same_records (g.D.Write.contents c.args.file)
