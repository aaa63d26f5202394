use Rattle.std.proofs.Common.{◌≡◌, ◌≢◌, ℕ, ne_eqb, List, Some, refl, sym, ◌∙◌}
use Rattle.std.proofs.lemmas.Option.{some_pair_parts}
use Rattle.grammar.specs.Reading.{byte_at}
use Rattle.fab_types.specs.declared.tag.Tag.TheVariants as tag
use Rattle.wire.specs.Reading.{endorsement_at, front_and_rest, org_name_at}
use Rattle.wire.proofs.transactions.EndorsementItem.read.Goals as goal

signed_is : (old one two three d : List ℕ) (b x : ℕ) (org t : List ℕ) → byte_at old ≡ Some (b, d) → byte_at old ≡ Some (x, one) → b ≡ 0 →
    org_name_at one ≡ Some (org, two) → front_and_rest 64 two ≡ Some (t, three) → endorsement_at old ≡ Some (record { org = org; tag = tag.Ed25519 t }, three)
unfolding endorsement_at
signed_is old one two three d b x org t peek byte zero name tail =
    let same : x ≡ b = sym (some_pair_parts b x d one (sym peek ∙ byte)).0 in
    rw (byte, same ∙ zero, name, tail) refl

keyed_is : (old two three d : List ℕ) (b : ℕ) (org t : List ℕ) → byte_at old ≡ Some (b, d) → b ≢ 0 → org_name_at old ≡ Some (org, two) →
    front_and_rest 32 two ≡ Some (t, three) → endorsement_at old ≡ Some (record { org = org; tag = tag.Hmac t }, three)
unfolding endorsement_at
keyed_is old two three d b org t peek other name tail = rw (peek, ne_eqb b 0 other, name, tail) refl

pub returns-then-branch-eq0-clause-read : goal.returns-then-branch-eq0-clause-read
returns-then-branch-eq0-clause-read c =
    signed_is _ _ _ _ _ _ _ _ _ c.in_ok-peek.ensures.read c.in_ok-byte.ensures.read c.if-branch-eq0.true c.in_ok-org.ensures.read
    c.in_ok-array.ensures.read

pub returns-then-branch-eq0-clause-lasts : goal.returns-then-branch-eq0-clause-lasts
returns-then-branch-eq0-clause-lasts c = λ more.
    signed_is _ _ _ _ _ _ _ _ _ (c.in_ok-peek.ensures.lasts more) (c.in_ok-byte.ensures.lasts more) c.if-branch-eq0.true
    (c.in_ok-org.ensures.lasts more) (c.in_ok-array.ensures.lasts more)

pub returns-clause-read : goal.returns-clause-read
returns-clause-read c =
    keyed_is _ _ _ _ _ _ _ c.in_ok-peek.ensures.read c.if-branch-eq0.false c.in_ok-org-2.ensures.read c.in_ok-array-2.ensures.read

pub returns-clause-lasts : goal.returns-clause-lasts
returns-clause-lasts c = λ more.
    keyed_is _ _ _ _ _ _ _ (c.in_ok-peek.ensures.lasts more) c.if-branch-eq0.false (c.in_ok-org-2.ensures.lasts more)
    (c.in_ok-array-2.ensures.lasts more)
