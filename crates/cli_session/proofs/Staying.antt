-- The store stays as it was where a run is refused.
use Rattle.std.proofs.Common.{◌≡◌, ℕ, Bool, true, List, Option, Some, None, IfSome, ap, subst, sym, ◌∙◌}
use Rattle.std.specs.Borrow.{Bor}
use Rattle.cli_lines.specs.Places.{FilesHeld, IsFileOf, IsFree}
use Rattle.cli_lines.specs.declared.files.Target.{Target}
use Rattle.cli_lines.specs.Whole.{Stays, StaysPlaced}

-- ---- of the place of a store

pub placed_stay : (known : Bool) (place : Option (Bor Target)) (a b : FilesHeld) → b ≡ a → IfSome place (λ t. StaysPlaced known t.now a b)
placed_stay known None a b same = tt
placed_stay known (Some target) a b same = λ name leads free writes. ap (λ (h : FilesHeld). h name) same

pub placed_stay_by : (known : Bool) (place : Option (Bor Target)) (target : Bor Target) (a b c : FilesHeld) → place ≡ Some target → b ≡ a →
    StaysPlaced known target.now b c → IfSome place (λ t. StaysPlaced known t.now a c)
placed_stay_by known place target a b c is same stays =
    subst (λ (o : Option (Bor Target)). IfSome o (λ t. StaysPlaced known t.now a c)) (sym is)
    (subst (λ (h : FilesHeld). StaysPlaced known target.now h c) same stays)

-- ---- of the store that was asked for

pub asked_stay : (known : Bool) (store : Option (Bor (List ℕ))) (a b : FilesHeld) → b ≡ a → IfSome store (λ s. Stays known s.now a b)
asked_stay known None a b same = tt
asked_stay known (Some name) a b same = λ writes. ap (λ (h : FilesHeld). h name.now) same

pub asked_stay_none : (known : Bool) (store : Option (Bor (List ℕ))) (a b : FilesHeld) → store ≡ None → IfSome store (λ s. Stays known s.now a b)
asked_stay_none known store a b is = subst (λ (o : Option (Bor (List ℕ))). IfSome o (λ s. Stays known s.now a b)) (sym is) tt

-- its name leads to its place, and what comes behind leaves the files
pub asked_stay_by : (known : Bool) (store : Option (Bor (List ℕ))) (name : Bor (List ℕ)) (target : Target) (a b c d : FilesHeld) → store ≡ Some name →
    (known ≡ true → IsFileOf name.now target) → (known ≡ true → IsFree a target) → b ≡ a → d ≡ c → StaysPlaced known target b c →
    IfSome store (λ s. Stays known s.now a d)
asked_stay_by known store name target a b c d is leads free same told stays =
    let placed = subst (λ (h : FilesHeld). StaysPlaced known target h c) same stays in
    subst (λ (o : Option (Bor (List ℕ))). IfSome o (λ s. Stays known s.now a d)) (sym is)
    (λ writes. ap (λ (h : FilesHeld). h name.now) told ∙ placed name.now (leads writes) (free writes) writes)
