-- One line, one mark.
use Rattle.std.proofs.Common.{◌≡◌, ℕ, List, codes, Result, Ok, refl, sym, ap, subst, ◌∙◌}
use Rattle.hex.specs.Hex.{decode_of, decode_pairs}
use Rattle.hex.specs.declared.error.FromHexError.{FromHexError}
use Rattle.fab_types.specs.declared.envelope.Envelope.{Envelope}
use Rattle.batch_cutter.specs.Division.{Mark, message, timeout}
use Rattle.fab_types.specs.BlockSpelling.{envelope_bytes}
use Rattle.fab_types.specs.BlockWithin.{IsEnvelope}
use Rattle.log_orderer.specs.Lines.{IsMark}

-- bytes spell one envelope
abbrev pub OneEnvelope : Type 0
OneEnvelope = (a b : Envelope) → IsEnvelope a → IsEnvelope b → envelope_bytes a ≡ envelope_bytes b → a ≡ b

same_bytes : (text : Result (List ℕ) FromHexError) (a b : List ℕ) → text ≡ Ok a → text ≡ Ok b → a ≡ b
same_bytes text a b e f = let h = sym e ∙ f in cc

-- `tick` is no hex
no_hex : (bytes : List ℕ) → decode_of (codes "tick") ≡ Ok bytes → ⊥
unfolding decode_pairs
no_hex bytes h = cc

no_message : (line : List ℕ) (e : Envelope) → IsMark line (message e) → line ≡ codes "tick" → ⊥
no_message line e x tick = no_hex (envelope_bytes e) (subst (λ (text : List ℕ). decode_of text ≡ Ok (envelope_bytes e)) tick x.1)

pub one_mark : OneEnvelope → (line : List ℕ) (a b : Mark Envelope) → IsMark line a → IsMark line b → a ≡ b
one_mark spelled line (message d) (message e) x y =
    let same = spelled d e x.0 y.0 (same_bytes (decode_of line) (envelope_bytes d) (envelope_bytes e) x.1 y.1) in
    ap (λ (f : Envelope). let m : Mark Envelope = message f in m) same
one_mark spelled line (message d) timeout x y = absurd (no_message line d x y)
one_mark spelled line timeout (message e) x y = absurd (no_message line e y x)
one_mark spelled line timeout timeout x y = refl
