use Rattle.std.proofs.Common.{◌∙◌, ◌++◌, ◌∷◌, [], ℕ, List, get_or, map, ap, sym, arith}
use Rattle.std.proofs.lemmas.List.{map-append, take_all, take_more}
use Rattle.fab_types.specs.FlagNumber.{flag_number}
use Rattle.fab_types.specs.declared.flag.Flag.{Flag}
use Rattle.block_store.proofs.flag_numbers.flags_of.Goals as goal

pub loop-number-preserved : goal.loop-number-preserved
loop-number-preserved c =
    let numbers = c.args.numbers.now in
    let i = c.loop-number.number-index in
    let flags = c.loop-number.flags.items in
    ap (λ (fs : List Flag). map flag_number fs) c.in_ok-push.ensures.items ∙ map-append flag_number flags (c.in-Some.flag ∷ [])
    ∙ ap (λ n. map flag_number flags ++ n ∷ []) c.in-Some.ensures ∙ ap (λ (t : List ℕ). t ++ get_or numbers i 0 ∷ []) c.loop-number.invariant
    ∙ sym (take_more numbers i 0 c.loop-number-test.true)

pub returns : goal.returns
returns c = c.loop-number.invariant ∙ take_all c.loop-number.number-index c.args.numbers.now c.loop-number-test.false

pub returns-in_default : goal.returns-in_default
returns-in_default c = λ all.
    let few = all c.loop-number.number-index 0 c.loop-number-test.true in
    let many = c.in_default.ensures in
    omega (arith, few, many)
