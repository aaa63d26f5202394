use Rattle.std.proofs.Common.{rules, ◌≡◌, ◌∷◌, ◌++◌, ◌∙◌, [], Ok, ap}
use Rattle.fab_types.specs.declared.block.Block.{Block}
use Rattle.ledger_model.specs.Judged.{BlockRule}
use Rattle.ledger_setting.specs.Rule.{table_of}
use Rattle.log_committer.specs.Committing.{Receives}
use Rattle.log_committer.specs.declared.receiving.Received.TheVariants as received
use Rattle.log_peer.specs.Storing.{rules_of, stored_chain}
use Rattle.log_peer.specs.declared.storing.StoredChain.{StoredChain}
use Rattle.log_peer.proofs.Stores.{joined_next, stored_more}
use Rattle.log_peer.proofs.storing.StoredChain.receive.Goals as goal

pub returns-in_ok-append_newest-in-Some-clause-stored : goal.returns-in_ok-append_newest-in-Some-clause-stored
returns-in_ok-append_newest-in-Some-clause-stored g c =
    let old = c.args.self.now in
    let new : StoredChain g.row.D.Denot = record {
      committer = c.receive.new.self;
      file = c.append_newest.new.file;
      places = c.append_newest.new.places;
      alloc = old.alloc;
    } in
    let block = c.args.block in
    let committed = c.in-Some.committed in
    let rule : BlockRule = table_of (rules_of old) in
    let came : Receives rule (stored_chain old) block (Ok received.Committed) (stored_chain new) = search rules in
    let grown : stored_chain new ≡ stored_chain old ++ committed ∷ [] = search rules in
    let next = joined_next rule (stored_chain old) (stored_chain new) block committed came grown in
    let own = c.in_ok-append_newest-in-Some.ensures in
    stored_more old new committed c.requires.stored (search rules) grown own.record own.synced own.is_record
    (ap (λ (b : Block). b.header.number) next.0 ∙ next.1) own.places
