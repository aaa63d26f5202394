-- Executions that read the definition of their chaincode depend only on what they read.
use Rattle.std.proofs.Common.{◌≡◌, ℕ, true, false, cond, List, [], ◌∷◌, ◌++◌, Option, Some, None, refl, sym, ap, ◌∙◌, subst, option_map}
use Rattle.std.specs.List.{AllByRecursion}
use Rattle.std.specs.Option.{option_or}
use Rattle.std.specs.FinMap.{get}
use Rattle.fab_types.specs.declared.proposal.Proposal.{Proposal}
use Rattle.ledger_model.specs.Chain.{Bytes, Version, Placed, is_valid}
use Rattle.ledger_model.specs.Views.{Plain}
use Rattle.ledger_model.specs.State.{write_to, write_of, last_write, value_and_version, state}
use Rattle.ledger_model.specs.Flags.{version_at}
use Rattle.ledger_model.specs.Execution.{Ending, Exec, Outcome, ReadsAlone}
use Rattle.ledger_model.proofs.State.{get-state, last_write-append}
use Rattle.ledger_model.specs.Defined.{with_read, called, upgraded, IsAlone, Puts, AreOf, IsOfOther}

pub called_alone : (key : Bytes) (run : Option Bytes → Plain → Outcome) → ((value : Option Bytes) → IsAlone (run value)) → IsAlone (called key run)
called_alone key run alone = record {
  truthful = λ m. let t = (alone (get m key)).truthful m in record { reads = (refl, t.reads); ranges = t.ranges };
  only = λ m n h.
      let same : get n key ≡ get m key = h.reads.0 in
      let rest : run (get m key) n ≡ run (get m key) m = (alone (get m key)).only m n (record { reads = h.reads.1; ranges = h.ranges }) in
      ap (λ v. with_read key v (run v n)) same ∙ ap (with_read key (get m key)) rest;
}

pub upgraded_alone : (key value : Bytes) (ending : Ending) → IsAlone (upgraded key value ending)
upgraded_alone key value ending = record {
  truthful = λ m. record { reads = (refl, tt); ranges = tt };
  only = λ m n h. ap (λ v.
      with_read key v (record
      { ending = ending; seen = record { reads = []; ranges = []; result = []; writes = record { key = key; value = Some value } ∷ [] } })) h.reads.0;
}

pub all_alone : (exec : Exec) → ((p : Proposal) → IsAlone (exec p)) → ReadsAlone exec
all_alone exec each = record {
  truthful = λ p m. (each p).truthful m;
  only = λ p m n h. (each p).only m n h;
}

-- ---- what was current in a block, and was not written in it, is as it was before the block

abbrev Newer : ℕ → Option (Version × Option Bytes) → Type 0
Newer block None = Unit {0}
Newer block (Some w) = (w.0.block ≡ block) × Puts (Some w.1)

newer_or : (block : ℕ) (a b : Option (Version × Option Bytes)) → Newer block a → Newer block b → Newer block (option_or a b)
newer_or block None b h k = k
newer_or block (Some w) b h k = h

newer_map : (block : ℕ) (version : Version) (o : Option (Option Bytes)) → version.block ≡ block → Puts o → Newer block (option_map (λ w. (version, w)) o)
newer_map block version None is puts = tt
newer_map block version (Some w) is puts = (is, puts)

newer_write : (block : ℕ) (key : Bytes) (t : Placed) → AreOf block key t → Newer block (write_of t key)
newer_write block key t h =
    elim (is_valid t.flag) as (λ b. is_valid t.flag ≡ b →
    Newer block (cond b (option_map (λ w. (t.version, w)) (write_to t.envelope.payload.writes key)) None)) [
      | true ↦ λ e. newer_map block t.version (write_to t.envelope.payload.writes key) h.block (h.puts e)
      | false ↦ λ _. tt
    ] refl

newer : (block : ℕ) (key : Bytes) (ts : List Placed) → AllByRecursion (AreOf block key) ts → Newer block (last_write ts key)
newer block key [] h = tt
newer block key (t ∷ ts) h = newer_or block (last_write ts key) (write_of t key) (newer block key ts h.1) (newer_write block key t h.0)

abbrev valued : Version → Option Bytes → Option (Bytes × Version)
valued u value = option_map (λ x. (x, u)) value

written : (block : ℕ) (u : Version) (value : Option Bytes) (old : Option (Bytes × Version)) (v : Option Version) → u.block ≡ block → Puts (Some value) →
    IsOfOther block v → option_map (λ e. e.1) (valued u value) ≡ v → valued u value ≡ old
written block u None old v is puts other e = absurd puts
written block u (Some x) old v is puts other e = absurd (subst (IsOfOther block) (sym e) other is)

kept : (block : ℕ) (o old : Option (Version × Option Bytes)) (v : Option Version) → Newer block o → IsOfOther block v →
    option_map (λ e. e.1) (value_and_version (option_or o old)) ≡ v → value_and_version (option_or o old) ≡ value_and_version old
kept block None old v new other e = refl
kept block (Some w) old v new other e = written block w.0 w.1 (value_and_version old) v new.0 new.1 other e

pub kept_from_before : (block : ℕ) (key : Bytes) (before since : List Placed) (v : Option Version) → AllByRecursion (AreOf block key) since →
    IsOfOther block v → version_at (state (before ++ since)) key ≡ v → get (state (before ++ since)) key ≡ get (state before) key
kept_from_before block key before since v are other e =
    let joined : get (state (before ++ since)) key ≡ value_and_version (option_or (last_write since key) (last_write before key)) =
    get-state (before ++ since) key ∙ ap value_and_version (last_write-append before since key) in
    joined ∙ kept block (last_write since key) (last_write before key) v (newer block key since are) other (ap (option_map (λ e. e.1)) (sym joined) ∙ e) ∙
    sym (get-state before key)
