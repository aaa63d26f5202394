use Rattle.std.proofs.Common.{List, Some, codes, map, ap, refl, string_bytes, subst, ◌∙◌}
use Rattle.fab_types.specs.declared.block.Block.{Block}
use Rattle.ledger_model.specs.Chain.{Envelope}
use Rattle.log_orderer.specs.Marks.{block_marks, envelope_mark}
use Rattle.cli_show.specs.Marks.{HasTexts}
use Rattle.cli_show.proofs.Behind.{on_ok}
use Rattle.cli_show.proofs.MarkLines.{text_behind}
use Rattle.cli_show.proofs.PushedTexts.{pushed}
use Rattle.cli_show.proofs.marking.push_block.Goals as goal

pub returns : goal.returns
returns c =
    let es = c.args.committed.now.block.envelopes in
    let a = string_bytes c.args.text.now in
    let b = string_bytes c.push_envelopes.new.text in
    let d = string_bytes c.push_str.new.self in
    let same = c.as_slice.ensures.value ∙ ap (λ (x : Block). x.envelopes) c.block.ensures in
    let front : HasTexts (map envelope_mark es) (Some a) (Some b) =
    subst (λ (xs : List Envelope). HasTexts (map envelope_mark xs) (Some a) (Some b)) same c.in_ok-push_envelopes.ensures in
    on_ok c.push_str.result _ (HasTexts (block_marks c.args.committed.now.block) (Some a) (Some d))
    (λ h. text_behind (map envelope_mark es) (block_marks c.args.committed.now.block) (codes "tick") (Some a) (Some b) (Some d) refl front h)
    (pushed c.push_str.result b d (codes "tick\n") c.push_str.ensures.bytes)
