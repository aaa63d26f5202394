use Rattle.std.proofs.Common.{rules, ◌≡◌, ◌≢◌, ◌-◌, ◌∙◌, Some, None, length, ap, sym, arith}
use Rattle.std.specs.List.{flat_map}
use Rattle.std.proofs.lemmas.Option.{same_Some}
use Rattle.kept_state.specs.Asking.{hash_in}
use Rattle.block_store.specs.Record.{record_bytes}
use Rattle.log_committer.specs.Committing.{header_hash}
use Rattle.log_peer.specs.Storing.{stored_chain}
use Rattle.log_peer.proofs.Given.{hash_there}
use Rattle.log_peer.proofs.Opened.{length_ends}
use Rattle.log_peer.proofs.storing.StoredChainBlocks.block.Goals as goal

pub read_placed-requires : goal.read_placed-requires
read_placed-requires g c =
    let chain = stored_chain c.args.self.now in
    let size = ap length c.requires.sound.0.chain.ends ∙ length_ends 0 chain in
    (c.requires.there.0, omega (arith, size, c.requires.there.1))

pub returns-in-None-clause-lost : goal.returns-in-None-clause-lost
returns-in-None-clause-lost g c = λ known.
    let chain = stored_chain c.args.self.now in
    let read = c.in_ok-record.record in
    let stored = c.requires.sound.0.chain in
    let holds : g.D.Write.contents c.get_ref.result.now ≡ Some (flat_map record_bytes chain) =
    ap g.D.Write.contents c.get_ref.ensures ∙ c.requires.sound.1 known in
    let there = c.in_ok-record.ensures.stored chain stored.records stored.ends holds in
    let found = hash_there chain c.args.number read c.requires.there.0 there.0 in
    let none : hash_in chain c.args.number ≡ None = search rules in
    cc

pub returns-else-eq-clause-lost : goal.returns-else-eq-clause-lost
returns-else-eq-clause-lost g c = λ known.
    let chain = stored_chain c.args.self.now in
    let read = c.in_ok-record.record in
    let stored = c.requires.sound.0.chain in
    let holds : g.D.Write.contents c.get_ref.result.now ≡ Some (flat_map record_bytes chain) =
    ap g.D.Write.contents c.get_ref.ensures ∙ c.requires.sound.1 known in
    let there = c.in_ok-record.ensures.stored chain stored.records stored.ends holds in
    let found = hash_there chain c.args.number read c.requires.there.0 there.0 in
    let own : hash_in chain c.args.number ≡ Some c.in-Some.own = search rules in
    let differ : c.in-Some.own ≢ header_hash read.block = search rules in
    differ (same_Some c.in-Some.own (header_hash read.block) (sym own ∙ found))
