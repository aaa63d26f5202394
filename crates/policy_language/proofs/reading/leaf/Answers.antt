use Rattle.std.proofs.Common.{rules, ◌≡◌, ◌∙◌, true, false, Some, None, sym, subst}
use Rattle.std.proofs.lemmas.Option.{some_pair_parts}
use Rattle.std.proofs.lemmas.Result.{err_from_is_err_and}
use Rattle.fab_types.specs.Limits.{IsOrgName}
use Rattle.policy_language.specs.Parsing.{Keeps}
use Rattle.policy_language.specs.GoodSets.{is_among}
use Rattle.policy_language.specs.Leniency.{Leniency}
use Rattle.policy_language.specs.Reading.{is_known_by, leaf_at, quoted_at}
use Rattle.policy_language.specs.Wrong.{Start}
use Rattle.policy_language.proofs.Children.{Fails-weaker, fails_of}
use Rattle.policy_language.proofs.Levels.{unquoted, misnamed, unknown, known}
use Rattle.policy_language.proofs.Places.{is_wrong, no_leaf, passed_leaf}
use Rattle.policy_language.proofs.reading.leaf.Goals as goal

pub returns-in_err-quoted-clause-read : goal.returns-in_err-quoted-clause-read
returns-in_err-quoted-clause-read c =
    let orgs = c.args.orgs.now in
    let bytes = c.args.reader.now.rest in
    let e = c.in_err-quoted.field-0.0 in
    let p = err_from_is_err_and c.from_residual.result c.from_residual.ensures.1 in
    rw (p.1, p.2) (Fails-weaker e (quoted_at bytes ≡ None) ((m : Leniency) → Keeps e m → leaf_at (is_known_by orgs m) bytes ≡ None)
    (λ h m k. unquoted (is_known_by orgs m) bytes h) c.in_err-quoted.ensures.read)

pub returns-in_err-quoted-clause-place : goal.returns-in_err-quoted-clause-place
returns-in_err-quoted-clause-place c = λ text n quote at.
    (let place = c.args.reader.now in
    let missed = c.in_err-quoted.ensures.missed in
    let p = err_from_is_err_and c.from_residual.result c.from_residual.ensures.1 in
    rw (p.1, p.2) (is_wrong text (Start n) place c.in_err-quoted.field-0.0
    (no_leaf n place.rest quote (λ name rest some right. let clash : Some (name, rest) ≡ None = sym some ∙ missed.1 in cc)) missed.0 at))

pub returns-in_default-clause-read : goal.returns-in_default-clause-read
returns-in_default-clause-read c =
    let orgs = c.args.orgs.now in
    let bytes = c.args.reader.now.rest in
    let e = c.syntax-fault.result in
    let name = c.in_ok-quoted.field-0.now in
    let wrong : IsOrgName name → ⊥ = search rules in
    let some : quoted_at bytes ≡ Some (name, c.quoted.new.self.rest) = search rules in
    fails_of e ((m : Leniency) → Keeps e m → leaf_at (is_known_by orgs m) bytes ≡ None)
    (λ m k. misnamed (is_known_by orgs m) bytes name c.quoted.new.self.rest some wrong)

pub returns-in_default-clause-place : goal.returns-in_default-clause-place
returns-in_default-clause-place c = λ text n quote at.
    (let place = c.args.reader.now in
    let name = c.in_ok-quoted.field-0.now in
    let wrong : IsOrgName name → ⊥ = search rules in
    let some : quoted_at place.rest ≡ Some (name, c.quoted.new.self.rest) = search rules in
    is_wrong text (Start n) place c.syntax-fault.result
    (no_leaf n place.rest quote (λ other rest is right.
    wrong (subst IsOrgName (some_pair_parts other name rest c.quoted.new.self.rest (sym is ∙ some)).0 right))) c.syntax-fault.ensures at)

pub returns-then-not-is_among-clause-read : goal.returns-then-not-is_among-clause-read
returns-then-not-is_among-clause-read c =
    let orgs = c.args.orgs.now in
    let bytes = c.args.reader.now.rest in
    let name = c.in-Some.name in
    let some : quoted_at bytes ≡ Some (name, c.quoted.new.self.rest) = search rules in
    let none : is_among orgs name ≡ false = search rules in
    λ m k. unknown orgs m bytes name c.quoted.new.self.rest some none k

pub returns-clause-read : goal.returns-clause-read
returns-clause-read c =
    let orgs = c.args.orgs.now in
    let bytes = c.args.reader.now.rest in
    let name = c.in-Some.name in
    let some : quoted_at bytes ≡ Some (name, c.quoted.new.self.rest) = search rules in
    let is : is_among orgs name ≡ true = search rules in
    let right : IsOrgName name = search rules in
    λ m. known orgs m bytes name c.quoted.new.self.rest some right is

pub returns-clause-place : goal.returns-clause-place
returns-clause-place c = λ text n quote at.
    (let name = c.in-Some.name in
    let some : quoted_at c.args.reader.now.rest ≡ Some (name, c.quoted.new.self.rest) = search rules in
    let right : IsOrgName name = search rules in
    passed_leaf text name n c.args.reader.now c.quoted.new.self c.quoted.ensures.total some right at)
