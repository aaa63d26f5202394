use Rattle.std.proofs.Common.{◌≡◌, [], length, sym, subst, ap, rules, arith}
use Rattle.std.proofs.lemmas.Grind.{common_steps}
use Rattle.key_file.proofs.Lines.{Leaves, all_found, one_found, only_found, stuck}
use Rattle.key_file.proofs.read_keys.Goals as goal
use Rattle.key_file.proofs.read_keys.Goals.{then-is_empty-via-then-is_empty, then-is_empty-via-else-is_empty+then-len-gt-MOST_KEYS}

pub loop-key-preserved : goal.loop-key-preserved
loop-key-preserved c =
    subst (λ found. Leaves c.args.bytes.now found c.in-Some.rest.now) (sym c.in_ok-push.ensures.items)
    (one_found c.args.bytes.now c.loop-key.keys.items c.loop-key.left.now c.in-Some.key c.in-Some.rest.now c.loop-key.invariant c.in-Some.ensures)

pub returns-then-not-is_empty-clause-malformed : goal.returns-then-not-is_empty-clause-malformed
returns-then-not-is_empty-clause-malformed c = λ e seeds h.
    stuck c.args.bytes.now c.loop-key.keys.items c.loop-key.left.now c.loop-key.invariant c.in_default.ensures
    (λ none. let z = ap length none in let n = c.if-not-is_empty.ensures in grind (arith, z, n)) seeds h.0

pub returns-then-is_empty-clause-malformed : goal.returns-then-is_empty-clause-malformed
returns-then-is_empty-clause-malformed c = λ e seeds h.
    let end : c.loop-key.left.now ≡ [] = let n = c.if-not-is_empty.ensures in grind (arith, common_steps, n) in
    let left = subst (Leaves c.args.bytes.now c.loop-key.keys.items) end c.loop-key.invariant in
    let same = ap length (only_found c.args.bytes.now c.loop-key.keys.items seeds left h.0) in
    elim c.then-is_empty.branch [
      | then-is_empty-via-then-is_empty w ↦ let n = w.if-is_empty.ensures in grind (arith, common_steps, same, n)
      | then-is_empty-via-else-is_empty+then-len-gt-MOST_KEYS w ↦ grind (arith, common_steps, same, h)
    ]

pub returns-clause-spelled : goal.returns-clause-spelled
returns-clause-spelled c =
    let end : c.loop-key.left.now ≡ [] = let n = c.if-not-is_empty.ensures in grind (arith, common_steps, n) in
    let left = subst (Leaves c.args.bytes.now c.loop-key.keys.items) end c.loop-key.invariant in
    (all_found c.args.bytes.now c.loop-key.keys.items left, search rules, search rules)
