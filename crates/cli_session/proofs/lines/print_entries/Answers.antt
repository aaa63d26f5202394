use Rattle.std.proofs.Common.{◌≡◌, ℕ, List, [], ◌∷◌, ◌++◌, map, refl, ap}
use Rattle.std.specs.List.{flat_map}
use Rattle.std.specs.Map.Iter.{deref_pair}
use Rattle.cli_lines.proofs.Printing.{on_err, part_left, part_same, prints_all, prints_same}
use Rattle.cli_session.specs.States.{entry_text}
use Rattle.cli_session.proofs.lines.print_entries.Goals as goal

fused : {A B : Type 0} (f : B → List ℕ) (h : A → B) (xs : List A) → flat_map (λ (x : A). f (h x)) xs ≡ flat_map f (map h xs)
fused f h [] = refl
fused f h (x ∷ xs) = ap (λ (s : List ℕ). f (h x) ++ s) (fused f h xs)

pub returns-clause-prints : goal.returns-clause-prints
returns-clause-prints g c =
    prints_same c.args.out.now c.loop-key.out _ _ (fused entry_text deref_pair c.args.entries.now)
    (prints_all (λ e. entry_text (deref_pair e)) [] c.args.entries.now c.loop-key.key-index c.args.out.now c.loop-key.out
    c.loop-key-test.false c.loop-key.invariant)

pub returns-in_err-print_entry-clause-part : goal.returns-in_err-print_entry-clause-part
returns-in_err-print_entry-clause-part g c =
    on_err c.from_residual.result _ (part_same c.args.out.now c.print_entry.new.out _ _ (fused entry_text deref_pair c.args.entries.now)
    (part_left (λ e. entry_text (deref_pair e)) [] c.args.entries.now c.loop-key.key-index c.args.out.now c.loop-key.out c.print_entry.new.out
    c.loop-key.invariant c.in_err-print_entry.ensures.nothing))
