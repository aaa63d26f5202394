use Rattle.std.proofs.Common.{rules, ◌≡◌, suc, ◌-◌, ◌+◌, true, false, Option, Some, None, sym, ap, subst, ◌∙◌, arith}
use Rattle.std.proofs.lemmas.Result.{err_from_is_err_and}
use Rattle.grammar.specs.Reading.{◌>>=◌}
use Rattle.policy_language.specs.Parsing.{Keeps}
use Rattle.policy_language.specs.Leniency.{Leniency, strict}
use Rattle.policy_language.specs.Operators.{rule_of}
use Rattle.policy_language.specs.declared.policy.Policy.{Policy}
use Rattle.policy_language.specs.Reading.{after_spaces, comma_at, children_at, fits_by, is_known_by, is_quoted, opening_at, policy_by}
use Rattle.policy_language.specs.Wrong.{Start, More, NoToken}
use Rattle.policy_language.proofs.Children.{some_child, goes_on, ends, refused, broken, too_many, fails_of, Fails-weaker}
use Rattle.policy_language.proofs.Levels.{quoted, unopened, at_bottom, unfed, fed, made_by, not_made}
use Rattle.policy_language.proofs.Places.{comma_less, is_wrong, no_more, opening_less, passed_comma, passed_spaces, policy_less, spaces_less}
use Rattle.policy_language.proofs.reading.+policy.Goals as goal

pub children-returns-in_err-policy-clause-read : goal.children-returns-in_err-policy-clause-read
children-returns-in_err-policy-clause-read t c =
    let read = λ (m : Leniency). policy_by c.args.orgs.now m c.args.levels in
    let total = λ (m : Leniency). children_at (read m) 1024 c.args.reader.now.rest in
    let e = c.in_err-policy.field-0.0 in
    let p = err_from_is_err_and c.from_residual.result c.from_residual.ensures.1 in
    rw (p.1, p.2) (Fails-weaker e ((m : Leniency) → Keeps e m → read m (after_spaces c.loop.reader.rest) ≡ None) ((m : Leniency) → Keeps e m → total m ≡ None)
    (λ h m k. refused (read m) c.loop.children.items c.loop.counter c.loop.reader.rest (total m) c.loop-test.true (c.loop.invariant.read m) (h m k))
    (rw c.skip_spaces.ensures.rest at c.in_err-policy.ensures.read))

pub children-returns-in_err-policy-clause-place : goal.children-returns-in_err-policy-clause-place
children-returns-in_err-policy-clause-place t c = λ text n short at.
    (let p = err_from_is_err_and c.from_residual.result c.from_residual.ensures.1 in
    let spaced = c.skip_spaces.new.self in
    let at_child = passed_spaces text (Start (suc n)) c.loop.reader spaced c.skip_spaces.ensures.total c.skip_spaces.ensures.rest
    (c.loop.invariant.place text n short at) in
    let least = spaces_less c.loop.reader.rest spaced.rest c.skip_spaces.ensures.rest in
    let few = c.loop.invariant.few in
    rw (p.1, p.2) (c.in_err-policy.ensures.place text (suc n) (omega (arith, least, few, short)) at_child))

pub children-returns-in_err-comma-clause-read : goal.children-returns-in_err-comma-clause-read
children-returns-in_err-comma-clause-read t c =
    let read = λ (m : Leniency). policy_by c.args.orgs.now m c.args.levels in
    let total = λ (m : Leniency). children_at (read m) 1024 c.args.reader.now.rest in
    let e = c.in_err-comma.field-0.0 in
    let p = err_from_is_err_and c.from_residual-in_err-comma.result c.from_residual-in_err-comma.ensures.1 in
    let child = rw c.skip_spaces.ensures.rest at c.in_ok-policy.ensures.read in
    rw (p.1, p.2) (Fails-weaker e (comma_at c.policy.new.reader.rest ≡ None) ((m : Leniency) → Keeps e m → total m ≡ None)
    (λ h m k. broken (read m) c.loop.children.items c.loop.counter c.loop.reader.rest (total m) c.loop-test.true (c.loop.invariant.read m)
    c.in_ok-policy.field-0 c.policy.new.reader.rest (child m) h)
    c.in_err-comma.ensures.read)

pub children-returns-in_err-comma-clause-place : goal.children-returns-in_err-comma-clause-place
children-returns-in_err-comma-clause-place t c = λ text n short at.
    (let p = err_from_is_err_and c.from_residual-in_err-comma.result c.from_residual-in_err-comma.ensures.1 in
    let spaced = c.skip_spaces.new.self in
    let middle = c.policy.new.reader in
    let behind = c.comma.new.self in
    let missed = c.in_err-comma.ensures.missed in
    let stays = c.in_err-comma.ensures.stays in
    let at_child = passed_spaces text (Start (suc n)) c.loop.reader spaced c.skip_spaces.ensures.total c.skip_spaces.ensures.rest
    (c.loop.invariant.place text n short at) in
    let least = spaces_less c.loop.reader.rest spaced.rest c.skip_spaces.ensures.rest in
    let few = c.loop.invariant.few in
    let at_comma = c.in_ok-policy.ensures.place text (suc n) (omega (arith, least, few, short)) at_child in
    rw (p.1, p.2) (is_wrong text (More (suc n)) behind c.in_err-comma.field-0.0
    (subst (NoToken (More (suc n))) (sym stays) (no_more n middle.rest missed.1)) missed.0
    (passed_spaces text (More (suc n)) middle behind c.comma.ensures.total stays at_comma)))

pub children-returns-then-not-branch-clause-read : goal.children-returns-then-not-branch-clause-read
children-returns-then-not-branch-clause-read t c =
    let read = λ (m : Leniency). policy_by c.args.orgs.now m c.args.levels in
    let total = λ (m : Leniency). children_at (read m) 1024 c.args.reader.now.rest in
    let child = rw c.skip_spaces.ensures.rest at c.in_ok-policy.ensures.read in
    rw c.in_ok-push.ensures.items
    (λ m. ends (read m) c.loop.children.items c.loop.counter c.loop.reader.rest (total m) c.loop-test.true (c.loop.invariant.read m) c.in_ok-policy.field-0
    c.policy.new.reader.rest c.comma.new.self.rest (child m) (rw c.if-not-branch.true at c.in_ok-comma.ensures.read))

pub children-returns-then-not-branch-clause-place : goal.children-returns-then-not-branch-clause-place
children-returns-then-not-branch-clause-place t c = λ text n short at.
    (let spaced = c.skip_spaces.new.self in
    let middle = c.policy.new.reader in
    let at_child = passed_spaces text (Start (suc n)) c.loop.reader spaced c.skip_spaces.ensures.total c.skip_spaces.ensures.rest
    (c.loop.invariant.place text n short at) in
    let least = spaces_less c.loop.reader.rest spaced.rest c.skip_spaces.ensures.rest in
    let few = c.loop.invariant.few in
    let at_comma = c.in_ok-policy.ensures.place text (suc n) (omega (arith, least, few, short)) at_child in
    passed_comma text false n middle c.comma.new.self c.comma.ensures.total (rw c.if-not-branch.true at c.in_ok-comma.ensures.read) at_comma)

pub children-loop-preserved : goal.children-loop-preserved
children-loop-preserved t c =
    let orgs = c.args.orgs.now in
    let levels = c.args.levels in
    let read = λ (m : Leniency). policy_by orgs m levels in
    let total = λ (m : Leniency). children_at (read m) 1024 c.args.reader.now.rest in
    let spaced = c.skip_spaces.new.self in
    let middle = c.policy.new.reader in
    let behind = c.comma.new.self in
    let comma = rw c.if-not-branch.false at c.in_ok-comma.ensures.read in
    let child = rw c.skip_spaces.ensures.rest at c.in_ok-policy.ensures.read in
    let less = policy_less orgs levels c.in_ok-policy.field-0 spaced.rest middle.rest (c.in_ok-policy.ensures.read strict) in
    let least = spaces_less c.loop.reader.rest spaced.rest c.skip_spaces.ensures.rest in
    let few = c.loop.invariant.few in
    rw c.in_ok-push.ensures.items (record {
      read = λ m. goes_on (read m) c.loop.children.items c.loop.counter c.loop.reader.rest (total m) c.loop-test.true (c.loop.invariant.read m)
          c.in_ok-policy.field-0 middle.rest behind.rest (child m) comma;
      place = λ text n short at.
          (let at_child = passed_spaces text (Start (suc n)) c.loop.reader spaced c.skip_spaces.ensures.total c.skip_spaces.ensures.rest
          (c.loop.invariant.place text n short at) in
          let at_comma = c.in_ok-policy.ensures.place text (suc n) (omega (arith, least, few, short)) at_child in
          passed_comma text true n middle behind c.comma.ensures.total comma at_comma);
      few = omega (arith, comma_less true middle.rest behind.rest comma, less, least, few);
    })

pub children-returns-clause-read : goal.children-returns-clause-read
children-returns-clause-read t c =
    let read = λ (m : Leniency). policy_by c.args.orgs.now m c.args.levels in
    let total = λ (m : Leniency). children_at (read m) 1024 c.args.reader.now.rest in
    let e = c.syntax.result in
    fails_of e ((m : Leniency) → Keeps e m → total m ≡ None)
    (λ m k. too_many (read m) c.loop.children.items c.loop.counter c.loop.reader.rest (total m) c.loop-test.false (c.loop.invariant.read m))

pub children-returns-clause-place : goal.children-returns-clause-place
children-returns-clause-place t c = λ text n short at.
    absurd (let few = c.loop.invariant.few in omega (arith, c.loop-test.false, few, short))

pub policy-returns-then-is_quoted-clause-read : goal.policy-returns-then-is_quoted-clause-read
policy-returns-then-is_quoted-clause-read t c =
    let orgs = c.args.orgs.now in
    simp (λ (m : Leniency). quoted (is_known_by orgs m) (fits_by m) (c.args.levels + m.more) c.args.reader.now.rest (search rules)) c.leaf.ensures.read

pub policy-returns-then-is_quoted-clause-place : goal.policy-returns-then-is_quoted-clause-place
policy-returns-then-is_quoted-clause-place t c = λ text n short at. c.leaf.ensures.place text n (search rules) at

pub policy-returns-in_err-operator-clause-read : goal.policy-returns-in_err-operator-clause-read
policy-returns-in_err-operator-clause-read t c =
    let orgs = c.args.orgs.now in
    let e = c.in_err-operator.field-0.0 in
    let p = err_from_is_err_and c.from_residual.result c.from_residual.ensures.1 in
    rw (p.1, p.2) (Fails-weaker e (opening_at c.args.reader.now.rest ≡ None)
    ((m : Leniency) → Keeps e m → policy_by orgs m c.args.levels c.args.reader.now.rest ≡ None)
    (λ h m k. unopened (is_known_by orgs m) (fits_by m) (c.args.levels + m.more) c.args.reader.now.rest (search rules) h) c.in_err-operator.ensures.read)

pub policy-returns-in_err-operator-clause-place : goal.policy-returns-in_err-operator-clause-place
policy-returns-in_err-operator-clause-place t c = λ text n short at.
    (let p = err_from_is_err_and c.from_residual.result c.from_residual.ensures.1 in
    rw (p.1, p.2) (c.in_err-operator.ensures.place text n (search rules) at))

pub policy-returns-then-levels-eq0-clause-read : goal.policy-returns-then-levels-eq0-clause-read
policy-returns-then-levels-eq0-clause-read t c =
    let orgs = c.args.orgs.now in
    λ m k. at_bottom (is_known_by orgs m) (fits_by m) (c.args.levels + m.more) c.args.reader.now.rest (search rules)
    (let z = c.if-levels-eq0.true in omega arith)

pub policy-returns-in_err-children-clause-read : goal.policy-returns-in_err-children-clause-read
policy-returns-in_err-children-clause-read t c =
    let orgs = c.args.orgs.now in
    let e = c.in_err-children.field-0.0 in
    let p = err_from_is_err_and c.from_residual-in_err-children.result c.from_residual-in_err-children.ensures.1 in
    rw (p.1, p.2) (Fails-weaker e ((m : Leniency) → Keeps e m → children_at (policy_by orgs m (c.args.levels - 1)) 1024 c.opening.new.self.rest ≡ None)
    ((m : Leniency) → Keeps e m → policy_by orgs m c.args.levels c.args.reader.now.rest ≡ None)
    (λ h m k. unfed (is_known_by orgs m) (fits_by m) (c.args.levels + m.more) (c.args.levels - 1 + m.more) c.args.reader.now.rest (search rules)
    (let z = c.if-levels-eq0.false in omega arith) (rule_of c.in_ok-operator.operator) c.opening.new.self.rest c.in_ok-operator.ensures.read (h m k))
    c.in_err-children.ensures.read)

pub policy-returns-in_err-children-clause-place : goal.policy-returns-in_err-children-clause-place
policy-returns-in_err-children-clause-place t c = λ text n short at.
    (let p = err_from_is_err_and c.from_residual-in_err-children.result c.from_residual-in_err-children.ensures.1 in
    let unquoted : is_quoted c.args.reader.now.rest ≡ false = search rules in
    let less = opening_less (rule_of c.in_ok-operator.operator) c.args.reader.now.rest c.opening.new.self.rest c.in_ok-operator.ensures.read in
    rw (p.1, p.2) (c.in_err-children.ensures.place text n (omega (arith, less, short)) (c.in_ok-operator.ensures.place text n unquoted at)))

pub policy-over-requires : goal.policy-over-requires
policy-over-requires t c =
    some_child (policy_by c.args.orgs.now strict (c.args.levels - 1)) 1024 c.opening.new.self.rest c.children.new.reader.rest c.in_ok-children.children.items
    (c.in_ok-children.ensures.read strict)

pub policy-returns-in_default-clause-read : goal.policy-returns-in_default-clause-read
policy-returns-in_default-clause-read t c =
    let orgs = c.args.orgs.now in
    let children = c.in_ok-children.children.items in
    let rule = rule_of c.in_ok-operator.operator in
    λ m k.
    (fed (is_known_by orgs m) (fits_by m) (c.args.levels + m.more) (c.args.levels - 1 + m.more) c.args.reader.now.rest (search rules)
    (let z = c.if-levels-eq0.false in omega arith) rule c.opening.new.self.rest c.in_ok-operator.ensures.read children c.children.new.reader.rest
    (c.in_ok-children.ensures.read m)
    ∙ ap (λ (o : Option Policy). o >>= λ p. Some (p, c.children.new.reader.rest)) (not_made m rule children (sym c.over.ensures ∙ c.in_default.is) k))

pub policy-returns-clause-read : goal.policy-returns-clause-read
policy-returns-clause-read t c =
    let orgs = c.args.orgs.now in
    let children = c.in_ok-children.children.items in
    let rule = rule_of c.in_ok-operator.operator in
    λ m.
    (fed (is_known_by orgs m) (fits_by m) (c.args.levels + m.more) (c.args.levels - 1 + m.more) c.args.reader.now.rest (search rules)
    (let z = c.if-levels-eq0.false in omega arith) rule c.opening.new.self.rest c.in_ok-operator.ensures.read children c.children.new.reader.rest
    (c.in_ok-children.ensures.read m)
    ∙ ap (λ (o : Option Policy). o >>= λ p. Some (p, c.children.new.reader.rest))
    (made_by m rule children c.in-Some.policy (sym c.over.ensures ∙ c.in-Some.is)))

pub policy-returns-clause-place : goal.policy-returns-clause-place
policy-returns-clause-place t c = λ text n short at.
    (let unquoted : is_quoted c.args.reader.now.rest ≡ false = search rules in
    let less = opening_less (rule_of c.in_ok-operator.operator) c.args.reader.now.rest c.opening.new.self.rest c.in_ok-operator.ensures.read in
    c.in_ok-children.ensures.place text n (omega (arith, less, short)) (c.in_ok-operator.ensures.place text n unquoted at))
