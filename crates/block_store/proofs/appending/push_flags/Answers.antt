use Rattle.std.proofs.Common.{◌≡◌, ◌∙◌, ◌++◌, ◌∷◌, [], ℕ, ◌+◌, ◌<◌, List, length, get_or, take, map, ap, sym, append_assoc}
use Rattle.std.proofs.lemmas.List.{map-append, take_all, take_more}
use Rattle.fab_types.specs.FlagNumber.{flag_number}
use Rattle.fab_types.specs.declared.flag.Flag.{Flag}
use Rattle.block_store.proofs.appending.push_flags.Goals as goal

-- one number more
more : (old out new : List ℕ) (fs : List Flag) (i n : ℕ) (d : Flag) → i < length fs → out ≡ old ++ map flag_number (take i fs) → new ≡ out ++ n ∷ [] →
    n ≡ flag_number (get_or fs i d) → new ≡ old ++ map flag_number (take (i + 1) fs)
more old out new fs i n d h before now is =
    now ∙ ap (λ (t : List ℕ). t ++ n ∷ []) before ∙ append_assoc old (map flag_number (take i fs)) (n ∷ [])
    ∙ ap (λ m. old ++ (map flag_number (take i fs) ++ m ∷ [])) is
    ∙ ap (λ (t : List ℕ). old ++ t) (sym (map-append flag_number (take i fs) (get_or fs i d ∷ [])))
    ∙ ap (λ (gs : List Flag). old ++ map flag_number gs) (sym (take_more fs i d h))

pub loop-flag-preserved : goal.loop-flag-preserved
loop-flag-preserved c =
    more c.args.out.now.items c.loop-flag.out.items c.push.new.self.items c.args.flags.now c.loop-flag.flag-index c.number.result _
    c.loop-flag-test.true c.loop-flag.invariant c.in_ok-push.ensures.items c.number.ensures

pub returns : goal.returns
returns c =
    c.loop-flag.invariant
    ∙ ap (λ (fs : List Flag). c.args.out.now.items ++ map flag_number fs) (take_all c.loop-flag.flag-index c.args.flags.now c.loop-flag-test.false)
