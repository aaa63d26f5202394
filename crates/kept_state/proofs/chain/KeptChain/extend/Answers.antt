use Rattle.std.proofs.Common.{◌≡◌, ◌<◌, ◌∙◌, ◌++◌, ◌∷◌, [], ap, length, subst, sym, arith}
use Rattle.std.proofs.lemmas.List.{length-map}
use Rattle.sha2.specs.Sha256.{sha256}
use Rattle.fab_types.specs.BlockSpelling.{header_bytes}
use Rattle.fab_types.specs.Committed.{Committed}
use Rattle.world_state.specs.Judging.{flagged}
use Rattle.world_state.specs.Kept.{IsKeptOf, hashes_of}
use Rattle.kept_state.specs.Keeping.{AreNumbered, chain_of}
use Rattle.kept_state.specs.declared.blocks.Blocks.{Blocks}
use Rattle.kept_state.proofs.Chains.{all_hashes_more, numbered_more}
use Rattle.kept_state.proofs.chain.KeptChain.extend.Goals as goal

pub returns-clause-kept : goal.returns-clause-kept
returns-clause-kept c =
    let chain = chain_of c.args.self.now in
    let made = flagged c.args.block c.args.judged in
    let old = c.args.self.now.state in
    let new = c.extend.new.self in
    let was = c.requires.kept in
    let grown : c.and-self.result.blocks ≡ chain ++ made ∷ [] =
    ap (λ (b : Blocks). b.blocks) c.and-self.ensures ∙ ap (λ (x : Committed). chain ++ x ∷ []) c.new-committed.ensures in
    let kept : IsKeptOf new (chain ++ made ∷ []) = c.in_ok-extend.ensures.extended chain was.state in
    let most = c.show_number.ensures in
    let size = ap length was.hashes in
    let room : length old.hashes < 4000000000 = omega (arith, most, c.requires.next, size, length-map chain (λ (d : Committed). sha256 (header_bytes d.block.header))) in
    record {
      state = subst (IsKeptOf new) (sym grown) kept;
      hashes = all_hashes_more chain made old new was.hashes (c.in_ok-extend.ensures.hashes room) kept ∙ ap hashes_of (sym grown);
      numbered = subst (AreNumbered 1) (sym grown) (numbered_more 1 chain made was.numbered (omega (arith, c.requires.next)));
    }
