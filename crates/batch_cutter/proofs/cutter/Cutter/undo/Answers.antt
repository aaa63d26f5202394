use Rattle.std.proofs.Common.{◌≡◌, [], ◌∷◌, length, refl, sym, ap, ◌∙◌, arith, rules, length-append}
use Rattle.std.proofs.lemmas.Grind.{common_steps}
use Rattle.batch_cutter.specs.Division.{State}
use Rattle.batch_cutter.specs.Offers.{batches}
use Rattle.batch_cutter.proofs.Undoing.{nothing_waits, one_ends, one_before, two_alone, taken_off, taken_alone, nothing_left, still_pending, nil_of_length}
use Rattle.batch_cutter.proofs.cutter.Cutter.undo.Goals as goal

pub take_last-requires : goal.take_last-requires
take_last-requires g c =
    let o = c.requires in
    let waits = nothing_waits g.M.Weigh.weight o.0 o.1 c.args.cut c.args.self.now o.2 (ap batches c.in-Nothing.is) in
    let len = ap length waits in
    omega (arith, length-append o.0.pending (o.1 ∷ []))

pub returns-in-Nothing : goal.returns-in-Nothing
returns-in-Nothing g c =
    λ old given o.
    let waits = nothing_waits g.M.Weigh.weight old given c.args.cut c.args.self.now o (ap batches c.in-Nothing.is) in
    taken_off old c.take_last.new.self given c.take_last.result c.take_last.new.self.pending (sym waits ∙ c.take_last.ensures.pending) refl
    (c.take_last.ensures.limits ∙ o.limits)

pub returns-then-is_empty : goal.returns-then-is_empty
returns-then-is_empty g c =
    λ old given o.
    let inside : length c.self.inside.pending.items ≡ 0 = grind (arith, common_steps) in
    let none = sym (ap (λ (s : State g.row.M.Denot). s.pending) c.self.view_is) ∙ nil_of_length inside in
    let ends = one_ends g.M.Weigh.weight old given c.args.cut c.args.self.now c.in-One.batch.items o (ap batches c.in-One.is) none in
    taken_off old c.restore.new.self given c.unwrap-given.result c.pop.new.self.items (sym ends ∙ (search rules)) c.restore.ensures.pending
    (c.restore.ensures.limits ∙ o.limits)

pub restore-requires-in-One-clause-none : goal.restore-requires-in-One-clause-none
restore-requires-in-One-clause-none g c =
    let o = c.requires in
    let b = one_before g.M.Weigh.weight o.0 o.1 c.args.cut c.args.self.now c.in-One.batch.items o.2 (ap batches c.in-One.is) (search rules) in
    nothing_left c.take_last-given.new.self.pending o.1 c.take_last-given.result (sym b.1 ∙ c.take_last-given.ensures.pending)

pub restore-requires-in-One-clause-waited : goal.restore-requires-in-One-clause-waited
restore-requires-in-One-clause-waited g c =
    let o = c.requires in
    let b = one_before g.M.Weigh.weight o.0 o.1 c.args.cut c.args.self.now c.in-One.batch.items o.2 (ap batches c.in-One.is) (search rules) in
    still_pending g.M.Weigh.weight o.0.limits c.take_last-given.new.self.limits o.0.pending c.in-One.batch.items o.2.waited
    (c.take_last-given.ensures.limits ∙ o.2.limits) b.0

pub returns-else-is_empty : goal.returns-else-is_empty
returns-else-is_empty g c =
    λ old given o.
    let b = one_before g.M.Weigh.weight old given c.args.cut c.args.self.now c.in-One.batch.items o (ap batches c.in-One.is) (search rules) in
    taken_alone old c.restore-in-One.new.self given c.take_last-given.result c.take_last-given.new.self.pending (sym b.1 ∙ c.take_last-given.ensures.pending)
    (c.restore-in-One.ensures.pending ∙ b.0) (c.restore-in-One.ensures.limits ∙ c.take_last-given.ensures.limits ∙ o.limits)

pub restore-requires-in-Two-clause-none : goal.restore-requires-in-Two-clause-none
restore-requires-in-Two-clause-none g c =
    let o = c.requires in
    (two_alone g.M.Weigh.weight o.0 o.1 c.args.cut c.args.self.now c.in-Two.batch.items c.in-Two.alone.items o.2 (ap batches c.in-Two.is)).2

pub restore-requires-in-Two-clause-waited : goal.restore-requires-in-Two-clause-waited
restore-requires-in-Two-clause-waited g c =
    let o = c.requires in
    let t = two_alone g.M.Weigh.weight o.0 o.1 c.args.cut c.args.self.now c.in-Two.batch.items c.in-Two.alone.items o.2 (ap batches c.in-Two.is) in
    still_pending g.M.Weigh.weight o.0.limits c.args.self.now.limits o.0.pending c.in-Two.batch.items o.2.waited o.2.limits t.0

pub returns-in-Two : goal.returns-in-Two
returns-in-Two g c =
    λ old given o.
    let t = two_alone g.M.Weigh.weight old given c.args.cut c.args.self.now c.in-Two.batch.items c.in-Two.alone.items o (ap batches c.in-Two.is) in
    taken_alone old c.restore-in-Two.new.self given c.unwrap-given-in-Two.result c.pop-in-Two.new.self.items (sym t.1 ∙ (search rules))
    (c.restore-in-Two.ensures.pending ∙ t.0) (c.restore-in-Two.ensures.limits ∙ o.limits)
