-- The flags of a block that is checked under the rules are those of the table.
use Rattle.std.proofs.Common.{◌≡◌, ◌∙◌, ◌+◌, Bool, List, ℕ, ap, length, map, arith}
use Rattle.fab_types.specs.declared.block.Block.{Block}
use Rattle.wire.specs.Ids.{id_of}
use Rattle.endorsement_policy.specs.Endorsed.{Listed, is_endorsed}
use Rattle.ledger_model.specs.Chain.{Chain, history}
use Rattle.ledger_model.specs.Flags.{flags_told}
use Rattle.ledger_model.specs.Judged.{judge}
use Rattle.ledger_model.specs.State.{state}
use Rattle.ledger_model.proofs.Judged.{told_judged}
use Rattle.committer.specs.Fits.{Fits, blocks_of}
use Rattle.committer.proofs.Last.{length_map}
use Rattle.ledger_setting.specs.Rule.{table_of}

pub flags_judged : (listed : Listed) (chain : Chain) (b : Block) (answers : List Bool) → Fits (blocks_of chain) b →
    answers ≡ map (is_endorsed listed (state (history chain))) b.envelopes →
    flags_told listed.edition id_of (history chain) (history chain) b.header.number 0 b.envelopes answers
    ≡ judge (table_of listed (history chain)) (history chain) (length chain + 1) 0 b.envelopes
flags_judged listed chain b answers fits same =
    let ts = history chain in
    let es = b.envelopes in
    let number : b.header.number ≡ length chain + 1 = omega (arith, fits.number, length_map (λ x. x.block) chain) in
    ap (flags_told listed.edition id_of ts ts b.header.number 0 es) same
    ∙ told_judged listed.edition id_of (is_endorsed listed (state ts)) ts ts b.header.number 0 es
    ∙ ap (λ (n : ℕ). judge (table_of listed ts) ts n 0 es) number
