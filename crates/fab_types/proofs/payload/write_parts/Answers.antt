use Rattle.std.proofs.Common.{◌≡◌, ℕ, List, ◌++◌, append_assoc}
use Rattle.fab_types.proofs.payload.write_parts.Goals as goal

joined : (old a b c d e f g h i j : List ℕ) → f ≡ old ++ a → g ≡ f ++ b → h ≡ g ++ c → i ≡ h ++ d → j ≡ i ++ e →
    j ≡ old ++ ((((a ++ b) ++ c) ++ d) ++ e)
joined old a b c d e f g h i j p q r s t = rw (t, s, r, q, p) (simp append_assoc)

pub returns-clause-spelled : goal.returns-clause-spelled
returns-clause-spelled c =
    joined _ _ _ _ _ _ _ _ _ _ _ c.in_ok-write.ensures.spelled c.in_ok-write-2.ensures.spelled c.in_ok-write-3.ensures.spelled
    c.in_ok-write-4.ensures.spelled c.in_ok-write-5.ensures.spelled

pub returns-clause-within : goal.returns-clause-within
returns-clause-within c = record {
  proposal = c.in_ok-write.ensures.within;
  result = c.in_ok-write-2.ensures.within;
  reads = c.in_ok-write-3.ensures.within.0;
  each_read = c.in_ok-write-3.ensures.within.1;
  ranges = c.in_ok-write-4.ensures.within.0;
  each_range = c.in_ok-write-4.ensures.within.1;
  writes = c.in_ok-write-5.ensures.within.0;
  each_write = c.in_ok-write-5.ensures.within.1;
}
