use Rattle.std.proofs.Common.{◌≡◌, ◌∙◌, IfSome, List, ap₂, map, subst, sym}
use Rattle.fab_types.specs.declared.envelope.Envelope.{Envelope}
use Rattle.wire.specs.Ids.{id_of}
use Rattle.ledger_model.specs.Chain.{history}
use Rattle.ledger_model.specs.Flags.{flags_told}
use Rattle.ledger_model.specs.State.{state}
use Rattle.ledger_model.specs.Views.{Versioned, values_of}
use Rattle.world_state.specs.Kept.{state_in}
use Rattle.world_state.specs.Writing.{as_state}
use Rattle.endorsement_policy.specs.Endorsed.{is_endorsed, right_orgs}
use Rattle.endorsement_policy.specs.Membership.{listed_in}
use Rattle.ledger_setting.proofs.Judged.{flags_judged}
use Rattle.ledger_setting.proofs.judging.judge_with_behind.Goals as goal

pub check_with-requires : goal.check_with-requires
check_with-requires g c =
    let r = c.args.rules.now in
    subst (λ (m : Versioned). IfSome c.args.right (λ orgs. orgs.now ≡ map (right_orgs (listed_in r (values_of m)).orgs) c.as_slice.result.now))
    (sym c.map.ensures)
    (subst (λ (es : List Envelope). IfSome c.args.right
    (λ orgs. orgs.now ≡ map (right_orgs (listed_in r (values_of (state_in (g.P.Past.kept c.args.past.now)))).orgs) es))
    (sym c.as_slice.ensures.value) c.requires)

pub returns-clause-judged : goal.returns-clause-judged
returns-clause-judged g c = λ chain kept.
    let ts = history chain in
    let b = c.args.block.now in
    let fits = c.in_ok-check_fits_behind.ensures.fits chain kept in
    let shown : as_state c.map.result.now.entries ≡ state ts = c.map.ensures ∙ kept.state in
    let answers : c.in_ok-endorsed.endorsed.items ≡ map (is_endorsed c.args.rules.now (state ts)) b.envelopes =
    c.in_ok-endorsed.ensures
    ∙ ap₂ (λ (m : Versioned) (es : List Envelope). map (is_endorsed c.args.rules.now m) es) shown c.as_slice.ensures.value in
    let flags = flags_judged c.args.rules.now chain b c.in_ok-endorsed.endorsed.items fits answers in
    record {
      fits = fits;
      flags =
          c.in_ok-flag_behind.ensures.flags chain kept
          ∙ (λ i. flags_told (c.edition.ensures i) id_of ts ts b.header.number 0 b.envelopes (c.deref.ensures.value i)) ∙ flags;
      of = c.in_ok-flag_behind.ensures.of;
    }
