use Rattle.std.proofs.Common.{◌≡◌, ◌≤◌, Bool, true, false, MatchBool, ap, subst, arith, length, refl}
use Rattle.std.proofs.lemmas.Bool.Decides.{nat_tests}
use mathlib.Core.List.{IsPrefix}
use Rattle.ledger_model.specs.Chain.{Chain}
use Rattle.snapshot_cell.proofs.Fronts.{prefix_shorter}
use Rattle.snapshot_cell.proofs.history.Front.begins.Goals as goal

decided : {P Q : Type 0} (b : Bool) → (b ≡ true → P) → (b ≡ false → Q) → MatchBool b P Q
decided true f g = f refl
decided false f g = g refl

pub returns : goal.returns
returns c =
    let both = c.learn.new.self.log in let mine = c.args.self.now in let theirs = c.args.other.now in
    let this : IsPrefix mine.seen.log both = subst (λ (l : Chain). IsPrefix l both) (ap (λ s. s.log) c.again-both.ensures) c.learn.ensures.2 in
    let that : IsPrefix theirs.seen.log both = c.learn.ensures.3 in
    decided _
    (λ t. let less : length mine.seen.log ≤ length theirs.seen.log = grind (arith, nat_tests, t, mine.counted, theirs.counted) in
    prefix_shorter _ _ both this that less)
    (λ f. let less : length theirs.seen.log ≤ length mine.seen.log = grind (arith, nat_tests, f, mine.counted, theirs.counted) in
    prefix_shorter _ _ both that this less)
