-- What is said of a block by its hash, and which block digits ask for.
use Rattle.std.proofs.Common.{◌≡◌, ◌∙◌, ℕ, Option, Some, None, sym, ap, arith}
use Rattle.std.proofs.lemmas.Fmt.{decimal_injective}
use Rattle.fab_types.specs.Committed.{Committed}
use Rattle.ledger_model.specs.Chain.{Bytes, Chain, history}
use Rattle.ledger_model.specs.State.{state}
use Rattle.ledger_model.specs.Views.{Versioned, values_of}
use Rattle.endorsement_policy.specs.Membership.{listed_in}
use Rattle.log_committer.specs.Committing.{block_at}
use Rattle.peer_answers.specs.Answering.{IsBlockOf, seen_at, seen_words}
use Rattle.peer_answers.specs.Numbers.{IsDecimal}
use Rattle.peer_answers.specs.declared.log_genesis.LogGenesis.{LogGenesis}
use Rattle.peer_answers.proofs.Hashes.{HasHash}

pub seen_so : (log : LogGenesis) (org : Bytes) (chain : Chain) (m : Versioned) (n : ℕ) (hash : Bytes) → m ≡ state (history chain) → (h : HasHash chain n hash) →
    seen_at log org (listed_in log.genesis.rules.value (values_of m)).orgs n hash ≡ seen_words log org chain h.block
seen_so log org chain m n hash is h =
    let number = sym h.number in
    let hashed = sym h.hashed in
    λ i. seen_at log org (listed_in log.genesis.rules.value (values_of (is i))).orgs (number i) (hashed i)

-- ---- the block that digits ask for

-- digits spell one number
one_number : (digits : Bytes) (m n : ℕ) → IsDecimal digits m → IsDecimal digits n → m ≡ n
one_number digits m n a b = decimal_injective m n (omega (arith, a.small)) (omega (arith, b.small)) (sym a.spelled ∙ b.spelled)

pub block_of : (chain : Chain) (digits : Bytes) (n : ℕ) (o : Option Committed) → IsDecimal digits n → block_at chain n ≡ o → IsBlockOf chain digits o
block_of chain digits n (Some c) is found = (n, is, found)
block_of chain digits n None is none = λ m other. ap (λ (k : ℕ). block_at chain k) (one_number digits m n other is) ∙ none
