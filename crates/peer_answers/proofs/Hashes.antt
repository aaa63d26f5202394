-- The block of a number, by the hash that is kept of it.
use Rattle.std.proofs.Common.{◌≡◌, ◌+◌, ℕ, zero, suc, [], ◌∷◌, Option, Some, None, option_map, slice_get, refl, ap, ◌∙◌, sym, arith}
use Rattle.std.proofs.lemmas.Option.{slice_get-map}
use Rattle.fab_types.specs.Committed.{Committed}
use Rattle.ledger_model.specs.Chain.{Bytes, Chain}
use Rattle.kept_state.specs.Asking.{hash_in}
use Rattle.kept_state.specs.Keeping.{AreNumbered}
use Rattle.log_committer.specs.Committing.{block_at, header_hash}

-- it is that of the block's header
pub own_hashed : (chain : Chain) (n : ℕ) → hash_in chain n ≡ option_map (λ (c : Committed). header_hash c.block) (block_at chain n)
own_hashed chain zero = refl
own_hashed chain (suc place) = slice_get-map (λ (c : Committed). header_hash c.block) chain place

-- a block has the number of its place
number_at : (first place : ℕ) (cs : Chain) (c : Committed) → AreNumbered first cs → slice_get cs place ≡ Some c → c.block.header.number ≡ place + first
number_at first place [] c all at = absurd (cc at)
number_at first zero (d ∷ cs) c all at = (
    let same : d ≡ c = cc at in
    let first_is : first ≡ 0 + first = omega arith in
    ap (λ (x : Committed). x.block.header.number) (sym same) ∙ all.0 ∙ first_is
    )
number_at first (suc place) (d ∷ cs) c all at =
    let next : place + suc first ≡ suc place + first = omega arith in
    number_at (suc first) place cs c all.1 at ∙ next

pub own_number : (chain : Chain) (n : ℕ) (c : Committed) → AreNumbered 1 chain → block_at chain n ≡ Some c → c.block.header.number ≡ n
own_number chain zero c all at = absurd (cc at)
own_number chain (suc place) c all at =
    let next : place + 1 ≡ suc place = omega arith in
    number_at 1 place chain c all at ∙ next

-- the chain has a block where a hash is kept, with this hash and the number
pub record HasHash (chain : Chain) (n : ℕ) (hash : Bytes) : Type 0 where
  pub block : Committed
  pub at : block_at chain n ≡ Some block
  pub hashed : header_hash block.block ≡ hash
  pub number : block.block.header.number ≡ n

pub hashed_block : (chain : Chain) (n : ℕ) (hash : Bytes) → AreNumbered 1 chain → hash_in chain n ≡ Some hash → HasHash chain n hash
hashed_block chain n hash all is =
    elim (block_at chain n) as (λ (o : Option Committed).
    block_at chain n ≡ o → option_map (λ (c : Committed). header_hash c.block) o ≡ Some hash → HasHash chain n hash) [
      | None ↦ λ at h. absurd (cc h)
      | Some c ↦ λ at h. record { block = c; at = at; hashed = cc h; number = own_number chain n c all at }
    ] refl (sym (own_hashed chain n) ∙ is)

-- and none where none is kept
pub no_block : (chain : Chain) (n : ℕ) → hash_in chain n ≡ None → block_at chain n ≡ None
no_block chain n none =
    elim (block_at chain n) as (λ (o : Option Committed). option_map (λ (c : Committed). header_hash c.block) o ≡ None → o ≡ None) [
      | None ↦ λ h. refl
      | Some c ↦ λ h. absurd (cc h)
    ] (sym (own_hashed chain n) ∙ none)
