use Rattle.std.proofs.Common.{List, Option, ap, sym, subst, ◌∙◌}
use Rattle.std.specs.Global.{Vec}
use Rattle.ledger_model.specs.Chain.{Bytes}
use Rattle.policy_language.specs.GoodSets.{Names}
use Rattle.std.specs.FinMap.{get}
use Rattle.fab_types.specs.Memberships.{membership_key}
use Rattle.ledger_model.specs.Views.{Versioned, values_of}
use Rattle.store_replay.specs.Tags.{AreRightTags, orgs_at, orgs_kept}
use Rattle.store_replay.proofs.RightTags.{of_front}
use Rattle.store_replay.proofs.pending.Pending.look_ahead.Goals as goal

pub returns-clause-here : goal.returns-clause-here
returns-clause-here g c =
    let orgs = orgs_kept c.args.rules.now (g.P.Past.kept c.args.past.now) in
    let known = of_front orgs c.right_tags-right.result.items _ _ _ c.right_tags-right.ensures c.as_slices.ensures.items in
    subst (λ (vs : List (Vec Names)). AreRightTags orgs vs c.args.self.now.records.items) (sym c.from_vec.ensures.items) known

pub returns-clause-known : goal.returns-clause-known
returns-clause-known g c =
    subst (λ (v : Option Bytes). AreRightTags (orgs_at c.args.rules.now v) c.from_vec.result.items c.args.self.now.records.items)
    (sym (c.in-Ok.ensures ∙ ap (λ (m : Versioned). get (values_of m) membership_key) c.map-2.ensures))
    (returns-clause-here g c)

-- it is known for the very organisations that stand there
pub returns-then-is_known_in-clause-here : goal.returns-then-is_known_in-clause-here
returns-then-is_known_in-clause-here g c =
    subst (λ (v : Option Bytes). AreRightTags (orgs_at c.args.rules.now v) c.args.self.now.right.items c.args.self.now.records.items)
    (c.is_known_in.ensures c.if-is_known_in.true ∙ ap (λ (m : Versioned). get (values_of m) membership_key) c.map.ensures) c.requires.known
