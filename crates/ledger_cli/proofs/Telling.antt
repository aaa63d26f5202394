-- What was told stays so.
use Rattle.std.proofs.Common.{◌≡◌, ◌≢◌, ◌∙◌, false, true≢false, inl, inr, subst, sym, arith}
use Rattle.cli_lines.specs.Told.{Told, IsMore, IsTold, Says}
use Rattle.cli_lines.specs.declared.failure.Failure.{Failure}
use Rattle.cli_lines.specs.declared.failure.Failure.TheVariants as failure

pub still_told : (before mid after : Told) → IsTold before mid → IsMore mid after → IsTold before after
still_told before mid after (inl printed) more = let e = more.prints in inl (omega (arith, printed, e))
still_told before mid after (inr failed) more = inr (more.fails failed)

-- no failure of the output, where all texts were printed
pub not_output : (t u v : Told) (f : Failure) → Says t u f → IsMore u v → v.failed ≡ false → f ≢ failure.Output
not_output t u v f says more whole = λ is. true≢false (sym (more.fails (subst (λ (e : Failure). Says t u e) is says)) ∙ whole)
