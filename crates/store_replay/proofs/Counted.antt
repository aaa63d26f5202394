-- Records that are counted.
use Rattle.std.proofs.Common.{◌≡◌, ◌≤◌, ◌-◌, ◌+◌, ◌^◌, ◌++◌, ℕ, suc, List, [], ◌∷◌, length, length-append, min, inl, inr, arith}
use Rattle.fab_types.specs.Committed.{Committed}
use Rattle.block_store.specs.Loading.{Gives, IsLoaded}
use Rattle.block_store.specs.Store.{Loads}
use Rattle.block_store.specs.declared.end.End.{End}
use Rattle.block_store.specs.declared.end.End.TheVariants.{Clean, Torn, Damaged, DeviceFailed}

-- some more of them, as far as a number goes
pub count_more : (most old new n : ℕ) (cs more : List Committed) → old ≡ min (length cs) most → n ≡ length more → new ≡ min (old + n) most →
    new ≡ min (length (cs ++ more)) most
count_more most old new n cs more was count sum = omega (arith, was, count, sum, length-append cs more)

-- a store has no more than the numbers of blocks
few_loaded : (n : ℕ) (bytes : List ℕ) (cs : List Committed) (end : End) → Loads n bytes cs end → length cs ≤ 4000000001 - n
few_loaded n bytes [] end h = omega arith
few_loaded n bytes (c ∷ cs) end h =
    let rest = few_loaded (suc n) h.0 cs end h.3 in
    omega (arith, rest, h.1.block.number, h.1.block.block.header.number.1)

few_given : (bytes : List ℕ) (cs : List Committed) (end : End) → Gives bytes cs end → length cs ≤ 4000000000
few_given bytes cs Clean h = few_loaded 1 bytes cs Clean h
few_given bytes cs Torn h = few_loaded 1 bytes cs Torn h
few_given bytes cs (Damaged n) h = few_loaded 1 bytes cs (Damaged n) h
few_given bytes cs DeviceFailed (inl h) = few_loaded 1 bytes cs Clean h
few_given bytes cs DeviceFailed (inr h) = few_loaded 1 bytes cs Torn h

-- so all of them were counted
pub all_counted : (before now : List ℕ) (cs : List Committed) (end : End) (count : ℕ) → IsLoaded before now cs end → count ≡ min (length cs) (2 ^ 64 - 1) →
    count ≡ length cs
all_counted before now cs end count h is = let few = few_given h.bytes cs end h.gives in omega (arith, few, is)
