use Rattle.std.proofs.Common.{◌≡◌, ◌<◌, ◌^◌, List, [], ◌++◌, arith, length, sym, ap, ◌∙◌, subst}
use Rattle.std.proofs.lemmas.List.{length-map}
use Rattle.std.proofs.lemmas.Result.{IfOk-weaker}
use Rattle.std.specs.FinMap.{entries}
use Rattle.std.specs.Int.{w32, w64}
use Rattle.sha2.specs.Sha256.{sha256}
use Rattle.std.specs.List.{AllByRecursion, zip}
use Rattle.fab_types.specs.BlockSpelling.{header_bytes}
use Rattle.ledger_model.specs.Chain.{Bytes, Committed}
use Rattle.ledger_model.specs.Views.{Versioned}
use Rattle.world_state.specs.Kept.{Kept, IsKeptOf, hashes_of}
use Rattle.world_state.specs.Writing.{as_state}
use Rattle.persist_map.specs.Pages.{shared}
use Rattle.kept_state.specs.Keeping.{chain_of}
use Rattle.checkpoint.specs.Checkpoint.{amendment_bytes, checkpoint_body, counted_bytes, head_bytes, kept_entry_bytes, placed_id_bytes, sized_hash_bytes, sizes_of}
use Rattle.checkpoint.specs.Within.{IsAmendment, IsHash, IsKeptEntry, IsPlacedId}
use Rattle.checkpoint.proofs.Orders.{in_order, ordered}
use Rattle.checkpoint.proofs.writing.write_checkpoint.Goals as goal

pub returns : goal.returns
returns g c = record {
  written = λ kept places.
      let chain = chain_of c.args.chain.now in
      let start = g.W.Write.contents c.args.out.now in
      let genesis = c.args.genesis.now in
      let state : Kept = c.state-state.result.now in
      let ids = c.in_ok-ids.ids.items in
      let is = subst (λ (k : Kept). IsKeptOf k chain) (sym c.state-state.ensures) kept.state in
      let all = subst (λ (k : Kept). k.hashes ≡ hashes_of chain) (sym c.state-state.ensures) kept.hashes in
      let head = c.in_ok-put_head.ensures.within in
      let count = is.height in
      let each = ap (λ (hashes : List Bytes). length hashes) all in
      let one_each = length-map chain (λ (d : Committed). sha256 (header_bytes d.block.header)) in
      let held = c.in_ok-ids.ids in
      let sorted = in_order state ids chain is all c.in_ok-ids.ensures.ids c.in_ok-ids.ensures.ascend (record {
        height = head.0;
        link = head.1;
        hashes = (omega (arith, head.0, count, each, one_each), subst (AllByRecursion IsHash) c.hashes.ensures c.in_ok-put_hashes.ensures.within);
        amended = subst (AllByRecursion IsAmendment) c.amendments.ensures c.in_ok-put_amendments.ensures.within;
        entries = subst (λ (m : Versioned). (length (entries m) < 2 ^ 64) × AllByRecursion IsKeptEntry (entries m)) c.map.ensures
            c.in_ok-put_entries.ensures.within;
        ids = (omega (arith, held.ok.0, held.ok.1, held.small), subst (AllByRecursion IsPlacedId) c.deref.ensures.value c.in_ok-put_ids.ensures.within);
      }) in
      let every = ap (λ (hashes : List Bytes). length hashes) c.hashes.ensures in
      let many : length c.hashes.result.now.items ≡ length chain = omega (arith, each, every, one_each) in
      let first = c.in_ok-put_head.ensures.text start start [] (c.new-hashing.ensures start) in
      let small : length chain < 2 ^ 32 = omega (arith, head.0, count) in
      let second = c.in_ok-put_hashes.ensures.text chain places many small start _ first in
      let so =
      c.in_ok-put_ids.ensures.text start _ (c.in_ok-put_entries.ensures.text start _ (c.in_ok-put_amendments.ensures.text start _ second)) in
      let text : Bytes =
      head_bytes genesis state
      ++ counted_bytes w32 sized_hash_bytes (zip c.hashes.result.now.items (sizes_of chain))
      ++ counted_bytes w32 amendment_bytes (shared c.amendments.result.now)
      ++ counted_bytes w64 kept_entry_bytes (entries (as_state c.map.result.now.entries))
      ++ counted_bytes w64 placed_id_bytes c.deref.result.now in
      let spelled : text ≡ checkpoint_body genesis (ordered state ids) (sizes_of chain) =
      λ i. head_bytes genesis state
      ++ counted_bytes w32 sized_hash_bytes (zip (c.hashes.ensures i) (sizes_of chain))
      ++ counted_bytes w32 amendment_bytes (c.amendments.ensures i)
      ++ counted_bytes w64 kept_entry_bytes (entries (c.map.ensures i))
      ++ counted_bytes w64 placed_id_bytes (c.deref.ensures.value i) in
      IfOk-weaker c.finish.result _ _ (λ digest ended.
      let done = ended start text so in
      let hash = done.0 ∙ ap (λ (body : Bytes). sha256 body) spelled in
      (text, (ordered state ids, sorted, (λ i. spelled i ++ hash i)), done.0, done.1)) c.finish.ensures;
}
