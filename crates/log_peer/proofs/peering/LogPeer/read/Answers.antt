use Rattle.std.proofs.Common.{rules, List, Some, append-nil, subst, sym}
use Rattle.std.specs.Option.{option_to_list}
use Rattle.fab_types.specs.declared.block.Block.{Block}
use Rattle.ledger_model.specs.Judged.{BlockRule}
use Rattle.ledger_setting.specs.Rule.{table_of}
use Rattle.log_orderer.specs.Handed.{HandsOut}
use Rattle.log_orderer.specs.Log.{Reads}
use Rattle.log_orderer.specs.Reported.{answer_of}
use Rattle.log_orderer.specs.declared.replica.LineReport.{LineReport}
use Rattle.log_orderer.specs.declared.replica.LineReport.TheVariants as line
use Rattle.log_committer.specs.Committing.{ReceivesAll}
use Rattle.log_committer.specs.Peering.{made_by}
use Rattle.log_committer.proofs.Peering.{line_kept}
use Rattle.log_peer.specs.Peering.{AreNotReceived, IsNotRead, held_by, rules_of, told_of}
use Rattle.log_peer.specs.Storing.{stored_chain}
use Rattle.log_peer.proofs.Peers.{not_read}
use Rattle.log_peer.proofs.peering.LogPeer.read.Goals as goal

pub returns-in_err-batches-in-Accepted-clause-refused : goal.returns-in_err-batches-in-Accepted-clause-refused
returns-in_err-batches-in-Accepted-clause-refused g c =
    let old = held_by c.args.self.now in
    let text = c.args.text.now in
    let rule : BlockRule = table_of (rules_of c.args.self.now) in
    let report : LineReport = line.Accepted c.in-Accepted.id c.in-Accepted.batches in
    let log = c.read.new.self in
    let refusal = c.in_err-batches-in-Accepted.field-0.0 in
    let reads : Reads old.log text (answer_of report) log = search rules in
    let handed : HandsOut report old.log.chain log.chain = search rules in
    let cut : AreNotReceived rule old.chain (made_by report) refusal = search rules in
    let why : IsNotRead old text refusal = not_read rule old text report log refusal c.requires.stored.1 reads handed cut in
    search rules

pub returns-in_err-batch-in-Ticked-Some-clause-refused : goal.returns-in_err-batch-in-Ticked-Some-clause-refused
returns-in_err-batch-in-Ticked-Some-clause-refused g c =
    let old = held_by c.args.self.now in
    let text = c.args.text.now in
    let rule : BlockRule = table_of (rules_of c.args.self.now) in
    let batch = c.in-Ticked-Some.batch in
    let report : LineReport = line.Ticked (Some batch) in
    let log = c.read.new.self in
    let refusal = c.in_err-batch-in-Ticked-Some.field-0.0 in
    let reads : Reads old.log text (answer_of report) log = search rules in
    let handed : HandsOut report old.log.chain log.chain = search rules in
    let cut : AreNotReceived rule old.chain (made_by report) refusal =
    subst (λ (bs : List Block). AreNotReceived rule old.chain bs refusal) (sym (append-nil (option_to_list batch.block)))
    c.in_err-batch-in-Ticked-Some.ensures.refused in
    let why : IsNotRead old text refusal = not_read rule old text report log refusal c.requires.stored.1 reads handed cut in
    search rules

pub returns-in_ok-batches-in-Accepted-clause-stored : goal.returns-in_ok-batches-in-Accepted-clause-stored
returns-in_ok-batches-in-Accepted-clause-stored g c =
    let old = held_by c.args.self.now in
    let text = c.args.text.now in
    let rule : BlockRule = table_of (rules_of c.args.self.now) in
    let report : LineReport = line.Accepted c.in-Accepted.id c.in-Accepted.batches in
    let log = c.read.new.self in
    let told = told_of c.in_ok-batches-in-Accepted.batches.items in
    let chain = stored_chain c.receive_each.new.chain in
    let reads : Reads old.log text (answer_of report) log = search rules in
    let handed : HandsOut report old.log.chain log.chain = search rules in
    let got : ReceivesAll rule old.chain (made_by report) told chain = search rules in
    (c.in_ok-batches-in-Accepted.ensures.stored, line_kept rule old text report told log chain c.requires.stored.1 reads handed got)

pub returns-in_ok-batch-in-Ticked-Some-clause-stored : goal.returns-in_ok-batch-in-Ticked-Some-clause-stored
returns-in_ok-batch-in-Ticked-Some-clause-stored g c =
    let old = held_by c.args.self.now in
    let text = c.args.text.now in
    let rule : BlockRule = table_of (rules_of c.args.self.now) in
    let batch = c.in-Ticked-Some.batch in
    let report : LineReport = line.Ticked (Some batch) in
    let log = c.read.new.self in
    let told = option_to_list c.in_ok-batch-in-Ticked-Some.batch.received in
    let chain = stored_chain c.receive_batch.new.chain in
    let reads : Reads old.log text (answer_of report) log = search rules in
    let handed : HandsOut report old.log.chain log.chain = search rules in
    let got : ReceivesAll rule old.chain (made_by report) told chain =
    subst (λ (bs : List Block). ReceivesAll rule old.chain bs told chain) (sym (append-nil (option_to_list batch.block)))
    c.in_ok-batch-in-Ticked-Some.ensures.received in
    (c.in_ok-batch-in-Ticked-Some.ensures.stored, line_kept rule old text report told log chain c.requires.stored.1 reads handed got)
