-- How many policies are satisfied, by recursion: what the code counts. It is proved to be what the good sets say.
use Rattle.std.specs.Prelude.{ℕ, ◌+◌, ◌==◌, Bool, if◌then◌else◌, nat_le}
use Rattle.policy_language.specs.Tree.{Rule, And, Or, OutOf, Policies, End, Org, Of}
use Rattle.policy_language.specs.GoodSets.{Names, is_among}

-- how many there are
abbrev pub count : Policies → ℕ
count End = 0
count (Org name after) = 1 + count after
count (Of rule children after) = 1 + count after

-- whether an operator is satisfied, where so many of all its children are
abbrev pub is_met : Rule → (met all : ℕ) → Bool
is_met And met all = met == all
is_met Or met all = nat_le 1 met
is_met (OutOf threshold) met all = nat_le threshold met

-- how many are satisfied
abbrev pub count_satisfied : Names → Policies → ℕ
count_satisfied names End = 0
count_satisfied names (Org name after) = (if is_among names name then 1 else 0) + count_satisfied names after
count_satisfied names (Of rule children after) =
    (if is_met rule (count_satisfied names children) (count children) then 1 else 0) + count_satisfied names after
