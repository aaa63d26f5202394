use Rattle.std.proofs.Common.{rules, ◌≡◌, [], ◌∷◌, ◌++◌, Ok}
use Rattle.ledger_model.specs.Judged.{BlockRule}
use Rattle.ledger_setting.specs.Rule.{table_of}
use Rattle.log_committer.specs.Committing.{Receives}
use Rattle.log_committer.specs.declared.receiving.Received.TheVariants as received
use Rattle.log_peer.specs.Peering.{AreNotReceived}
use Rattle.log_peer.specs.Storing.{rules_of, stored_chain}
use Rattle.log_peer.proofs.Joined.{joined_at}
use Rattle.log_peer.proofs.Peers.{one_refused}
use Rattle.log_peer.proofs.peering.receive_made.Goals as goal

pub returns-in_err-receive-clause-refused : goal.returns-in_err-receive-clause-refused
returns-in_err-receive-clause-refused g c =
    let old = c.args.chain.now in
    let block = c.in-Some.block in
    let refusal = c.in_err-receive.field-0.0 in
    let why : AreNotReceived (table_of (rules_of old)) (stored_chain old) (block ∷ []) refusal =
    one_refused refusal old block c.receive.new.self c.in_err-receive.ensures.refused in
    search rules

pub returns-in-Some-2-clause-joined : goal.returns-in-Some-2-clause-joined
returns-in-Some-2-clause-joined g c =
    let old = stored_chain c.args.chain.now in
    let new = stored_chain c.receive.new.self in
    let block = c.in-Some.block in
    let rule : BlockRule = table_of (rules_of c.args.chain.now) in
    let came : Receives rule old block (Ok received.Committed) new = search rules in
    let grown : new ≡ old ++ c.in-Some-2.joined ∷ [] = search rules in
    joined_at rule old new block c.args.block c.in-Some-2.joined (search rules) came grown
