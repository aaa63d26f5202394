use Rattle.std.proofs.Common.{◌≡◌, IfOk, subst, sym}
use Rattle.std.proofs.lemmas.Result.{IfOk-weaker}
use Rattle.fab_types.specs.declared.edition.Edition.{Edition}
use Rattle.ledger_model.specs.Chain.{Chain, history}
use Rattle.ledger_model.specs.Flags.{ranges_settled}
use Rattle.ledger_model.specs.State.{state}
use Rattle.world_state.specs.Kept.{IsKeptOf}
use Rattle.mvcc_validate.specs.Overlay.{IsOver}
use Rattle.mvcc_validate.proofs.Flagged.{over_none}
use Rattle.mvcc_validate.proofs.phantoms.are_ranges_settled.Goals as goal

pub returns-in-Second : goal.returns-in-Second
returns-in-Second g c =
    let written = c.new-unwritten.result.entries in
    subst (λ (e : Edition). IfOk c.are_ranges_current.result
    (λ b. (chain : Chain) → IsKeptOf (g.P.Past.kept c.args.past.now) chain → b ≡ ranges_settled e (history chain) c.args.ranges.now)) (sym c.in-Second.is)
    (IfOk-weaker c.are_ranges_current.result _ _ (λ b h chain kept.
    let m = state (history chain) in
    h m (subst (λ base. IsOver written base m) (sym kept.state) (over_none written m c.new-unwritten.ensures.empty))) c.are_ranges_current.ensures)
