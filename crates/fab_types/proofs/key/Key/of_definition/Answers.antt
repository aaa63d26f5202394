use Rattle.std.proofs.Common.{◌≡◌, ℕ, ◌+◌, List, ◌∷◌, ◌++◌, take, length, arith, add-one, ap, ◌∙◌}
use Rattle.std.proofs.Math.Seq.{take-append_seam}
use Rattle.fab_types.specs.Proposals.{definition_key}
use Rattle.fab_types.proofs.key.Key.of_definition.Goals as goal

behind_zero : (name copy rest : List ℕ) → copy ≡ name → take (length name + 1) (0 ∷ (copy ++ rest)) ≡ 0 ∷ name
behind_zero name copy rest e = rw add-one (ap (λ l. 0 ∷ take (length name) (l ++ rest)) e ∙ ap (λ l. 0 ∷ l) (take-append_seam name rest))

made : (c : goal.After-new) → c.new.result ≡ definition_key c.args.chaincode.now
made c =
    c.new.ensures ∙ behind_zero c.as_slice-name.result.now c.copy_from_slice.new.self _ c.copy_from_slice.ensures.after
    ∙ ap (λ name. 0 ∷ name) c.as_slice-name.ensures.value

pub returns : goal.returns
returns c = made c

pub invariant_of-result : goal.invariant_of-result
invariant_of-result c =
    let long = ap length (made c) in
    (omega arith, omega (arith, c.as_slice-name.ensures.limits))
