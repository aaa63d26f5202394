use Rattle.std.proofs.Common.{◌∙◌, ap}
use Rattle.fab_types.specs.declared.edition.Edition.{Edition}
use Rattle.wire.specs.Ids.{id_of}
use Rattle.ledger_model.specs.Chain.{history}
use Rattle.ledger_model.specs.Flags.{flags_told}
use Rattle.ledger_setting.proofs.Judged.{flags_judged}
use Rattle.ledger_setting.proofs.judging.judge_checked.Goals as goal

pub returns : goal.returns
returns c =
    let ts = history c.args.snapshot.now in
    let b = c.args.block.now in
    let edition = ap (λ (e : Edition). flags_told e id_of ts ts b.header.number 0 b.envelopes c.args.endorsed.now) c.edition.ensures in
    let flags = flags_judged c.args.rules.now c.args.snapshot.now b c.args.endorsed.now c.requires.fits c.requires.endorsed in
    record { fits = c.requires.fits; flags = c.in_ok-judged.ensures.flags ∙ edition ∙ flags; of = c.in_ok-judged.ensures.of }
