use Rattle.std.proofs.Common.{◌≡◌, ◌∙◌, List, ap₂, map}
use Rattle.fab_types.specs.declared.envelope.Envelope.{Envelope}
use Rattle.wire.specs.Ids.{id_of}
use Rattle.ledger_model.specs.Chain.{history}
use Rattle.ledger_model.specs.Flags.{flags_told}
use Rattle.ledger_model.specs.State.{state}
use Rattle.ledger_model.specs.Views.{Versioned}
use Rattle.world_state.specs.Writing.{as_state}
use Rattle.endorsement_policy.specs.Endorsed.{is_endorsed}
use Rattle.ledger_setting.proofs.Judged.{flags_judged}
use Rattle.ledger_setting.proofs.judging.judge_behind_by_workers.Goals as goal

pub returns-clause-judged : goal.returns-clause-judged
returns-clause-judged g c = λ chain kept.
    let ts = history chain in
    let b = c.args.block.now in
    let fits = c.in_ok-check_fits_behind.ensures.fits chain kept in
    let shown : as_state c.map.result.now.entries ≡ state ts = c.map.ensures ∙ kept.state in
    let answers : c.in_ok-endorsed.endorsed.items ≡ map (is_endorsed c.args.rules.now (state ts)) b.envelopes =
    c.in_ok-endorsed.ensures
    ∙ ap₂ (λ (m : Versioned) (es : List Envelope). map (is_endorsed c.args.rules.now m) es) shown c.as_slice-envelopes.ensures.value in
    let flags = flags_judged c.args.rules.now chain b c.in_ok-endorsed.endorsed.items fits answers in
    record {
      fits = fits;
      flags =
          c.in_ok-flag_behind.ensures.flags chain kept
          ∙ (λ i. flags_told (c.edition.ensures i) id_of ts ts b.header.number 0 b.envelopes (c.deref.ensures.value i)) ∙ flags;
      of = c.in_ok-flag_behind.ensures.of;
    }
