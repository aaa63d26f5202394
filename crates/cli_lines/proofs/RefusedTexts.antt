-- Bytes whose text is refused are refused.
use Rattle.std.proofs.Common.{◌≡◌, ℕ, List, inl, inr, sym, subst}
use Rattle.json_genesis.specs.declared.refusal.GenesisRefusal.{GenesisRefusal}
use Rattle.json_genesis.specs.declared.refusal.GenesisRefusal.TheVariants.{Memory, Json, Field, Range, Module, Policy, Names}
use Rattle.cli_lines.specs.Opening.{IsRefusedText}
use Rattle.cli_lines.specs.Texts.{genesis_failure}
use Rattle.cli_lines.specs.Told.{IsBrokenOff}
use Rattle.cli_lines.specs.declared.failure.Failure.{Failure}
use Rattle.cli_lines.specs.declared.failure.Failure.TheVariants as failure

module _ (No : List ℕ → GenesisRefusal → Type 0) (bytes text : List ℕ) (same : text ≡ bytes) where
  told : (r : GenesisRefusal) (f : Failure) → f ≡ failure.Genesis r → No text r → IsRefusedText No bytes f
  told r f is none = inr (r, is, inr (subst (λ t. No t r) same none))

  pub refused_text : (r : GenesisRefusal) (f : Failure) → f ≡ genesis_failure r → No text r → IsRefusedText No bytes f
  refused_text Memory f is none = inl (subst IsBrokenOff (sym is) tt)
  refused_text Json f is none = told Json f is none
  refused_text Field f is none = told Field f is none
  refused_text Range f is none = told Range f is none
  refused_text Module f is none = told Module f is none
  refused_text Policy f is none = told Policy f is none
  refused_text Names f is none = told Names f is none
