use Rattle.std.proofs.Common.{rules, ◌≡◌, ◌≤◌, None, [], length, sym, subst}
use Rattle.std.proofs.lemmas.Result.{err_from_is_err_and}
use Rattle.grammar.specs.Reading.{whole_at}
use Rattle.policy_language.specs.Leniency.{Leniency}
use Rattle.policy_language.specs.Parsing.{IsAt, Keeps}
use Rattle.policy_language.specs.Reading.{policy_by}
use Rattle.policy_language.specs.Place.{Place}
use Rattle.policy_language.specs.Wrong.{Start, More}
use Rattle.policy_language.proofs.Children.{fails_of}
use Rattle.policy_language.proofs.Whole.{left_over}
use Rattle.policy_language.proofs.Places.{at_start, is_wrong, no_end}
use Rattle.policy_language.proofs.reading.whole.Goals as goal

pub returns-in_err-policy-clause-place : goal.returns-in_err-policy-clause-place
returns-in_err-policy-clause-place c = λ short.
    (let bytes = c.args.bytes.now in
    let begins = sym c.new-reader.ensures in
    let p = err_from_is_err_and c.from_residual.result c.from_residual.ensures.1 in
    rw (p.1, p.2) (c.in_err-policy.ensures.place bytes 0 (subst (λ (place : Place). length place.rest ≤ 1024) begins short)
    (subst (IsAt bytes (Start 0)) begins (at_start bytes))))

pub returns-then-not-is_at_end-clause-made : goal.returns-then-not-is_at_end-clause-made
returns-then-not-is_at_end-clause-made c =
    let orgs = c.args.orgs.now in
    let bytes = c.args.bytes.now in
    let here = c.policy.new.reader in
    let e = c.syntax.result in
    let more : here.rest ≡ [] → ⊥ = search rules in
    let read = rw c.new-reader.ensures at c.in_ok-policy.ensures.read in
    fails_of e ((m : Leniency) → Keeps e m → whole_at (policy_by orgs m 8) bytes ≡ None)
    (λ m k. left_over (policy_by orgs m 8) bytes here.rest c.in_ok-policy.policy (read m) more)

pub returns-then-not-is_at_end-clause-place : goal.returns-then-not-is_at_end-clause-place
returns-then-not-is_at_end-clause-place c = λ short.
    (let bytes = c.args.bytes.now in
    let begins = sym c.new-reader.ensures in
    let here = c.policy.new.reader in
    is_wrong bytes (More 0) here c.syntax.result (no_end here.rest) c.syntax.ensures
    (c.in_ok-policy.ensures.place bytes 0 (subst (λ (place : Place). length place.rest ≤ 1024) begins short)
    (subst (IsAt bytes (Start 0)) begins (at_start bytes))))
