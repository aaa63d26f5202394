-- The file of a checkpoint.
use Rattle.std.proofs.Common.{◌≡◌, ◌⊎◌, ◌∙◌, ◌∷◌, ℕ, suc, Bool, true, [], Option, Some, None, IfErr, IfSome, Result, Ok, Err, OnErr, inl, inr, ap, arith, length, refl, subst, sym, take}
use Rattle.checkpoint.specs.Checkpoint.{form_bytes}
use Rattle.ledger_model.specs.Chain.{Bytes, Chain}
use Rattle.ledger_setting.specs.Rule.{table_of}
use Rattle.log_peer.specs.Storing.{IsOpened}
use Rattle.store_replay.specs.Lawful.{AreLawful}
use Rattle.cli_lines.specs.Places.{FilesHeld, IsFileOf, IsFree}
use Rattle.cli_lines.specs.Told.{IsBrokenOff}
use Rattle.cli_lines.specs.Whole.{HoldsSo, PlacesSo, StaysPlaced}
use Rattle.cli_lines.specs.declared.failure.Failure.{Failure}
use Rattle.cli_lines.specs.declared.failure.Failure.TheVariants as failure
use Rattle.cli_lines.specs.declared.files.Target.{Target}
use Rattle.cli_lines.specs.declared.files.Target.TheVariants.{File, NewFile, Device}
use Rattle.peer_answers.specs.declared.log_genesis.LogGenesis.{LogGenesis}
use Rattle.cli_peer.specs.Checkpoints.{BeginsCheckpoint, HasCheckpoint, IsWritten, SparesFile, TellsCheckpoint, TellsPlaced, WhereOther}

-- ---- where anything else stands

other_held : (held : Option Bytes) (P : Type 0) → P → IfSome held (λ bytes. ¬ (BeginsCheckpoint bytes) → P)
other_held None P is = tt
other_held (Some bytes) P is = λ other. is

pub other_all : (known : Bool) (bytes : FilesHeld) (name : Bytes) (P : Type 0) → P → WhereOther known bytes name P
other_all known bytes name P is = λ writes. other_held (bytes name) P is

other_not : (held : Option Bytes) (P : Type 0) → IfSome held BeginsCheckpoint → IfSome held (λ bytes. ¬ (BeginsCheckpoint bytes) → P)
other_not None P begins = tt
other_not (Some bytes) P begins = λ other. absurd (other begins)

-- a checkpoint begins there
pub other_none : (known : Bool) (bytes : FilesHeld) (name : Bytes) (P : Type 0) → (known ≡ true → IfSome (bytes name) BeginsCheckpoint) →
    WhereOther known bytes name P
other_none known bytes name P begins = λ writes. other_not (bytes name) P (begins writes)

-- the name leads to the place
pub checkpoint_at : (bytes : FilesHeld) (name : Bytes) (place : Target) → IsFileOf name place → IsFree bytes place → HasCheckpoint bytes place →
    IfSome (bytes name) BeginsCheckpoint
checkpoint_at bytes name (File path) leads free has = subst (λ (n : Bytes). IfSome (bytes n) BeginsCheckpoint) leads has
checkpoint_at bytes name (NewFile path) leads free has =
    let none : bytes name ≡ None = subst (λ (n : Bytes). bytes n ≡ None) leads free in
    subst (λ (o : Option Bytes). IfSome o BeginsCheckpoint) (sym none) tt
checkpoint_at bytes name (Device path) leads free has = absurd leads

none_taken : (xs : Bytes) → take 8 xs ≡ [] → xs ≡ []
none_taken [] is = refl
none_taken (x ∷ xs) is = let n : suc (length (take 7 xs)) ≡ 0 = ap length is in absurd (omega (arith, n))

front_of : (xs : Bytes) → (take 8 xs ≡ []) ⊎ (take 8 xs ≡ form_bytes) → BeginsCheckpoint xs
front_of xs (inl none) = inl (none_taken xs none)
front_of xs (inr front) = inr front

-- by the first bytes that were read
pub begins_front : (held : Option Bytes) (front : Bytes) → IfSome held (λ bytes. front ≡ take 8 bytes) → (front ≡ []) ⊎ (front ≡ form_bytes) →
    IfSome held BeginsCheckpoint
begins_front None front read is = tt
begins_front (Some bytes) front read is = front_of bytes (subst (λ (f : Bytes). (f ≡ []) ⊎ (f ≡ form_bytes)) read is)

-- ---- what a file has

pub placed_holds : (known : Bool) (bytes : FilesHeld) (name : Bytes) (place : Target) (Is : Bytes → Type 0) → (known ≡ true → IsFileOf name place) →
    PlacesSo known bytes place Is → HoldsSo known (bytes name) Is
placed_holds known bytes name place Is leads placed = (placed.0, placed.1, λ writes. placed.2 name (leads writes) writes)

-- by what is told of the place
pub placed_tells : (genesis : Bytes) (known : Bool) (bytes : FilesHeld) (name : Bytes) (place : Target) (chain : Chain) (text : Bytes) →
    (known ≡ true → IsFileOf name place) → TellsPlaced genesis known bytes place chain text → TellsCheckpoint genesis known (bytes name) chain text
placed_tells genesis known bytes name place chain text leads tells =
    (tells.0, placed_holds known bytes name place (IsWritten genesis chain tells.0) leads tells.1, tells.2)

-- ---- files that stay

pub spares_kept : (log : LogGenesis) (known : Bool) (store file : Bytes) (before after : FilesHeld) (r : Result (Unit {0}) Failure) → after ≡ before →
    SparesFile log known store file before after r
spares_kept log known store file before after (Ok done) same = tt
spares_kept log known store file before after (Err failure.Printed) same = same
spares_kept log known store file before after (Err f) same = inl (λ writes. ap (λ (h : FilesHeld). h file) same)

-- by what was written behind files that stayed
pub spares_written : (log : LogGenesis) (known : Bool) (store file : Bytes) (a b c : FilesHeld) (place : Target) (chain : Chain) (cut : ℕ)
    (r : Result (Unit {0}) Failure) → b ≡ a → (known ≡ true → IsFileOf file place) → (known ≡ true → IsFree a place) → IsOpened (a store) chain cut →
    AreLawful (table_of log.genesis.rules.value) [] chain → IfErr r IsBrokenOff →
    OnErr r (StaysPlaced known place b c ⊎ ((digest : Bytes) × PlacesSo known c place (IsWritten log.digest chain digest))) →
    SparesFile log known store file a c r
spares_written log known store file a b c place chain cut (Ok done) same leads free opened lawful lost left = tt
spares_written log known store file a b c place chain cut (Err failure.Printed) same leads free opened lawful lost left = absurd lost
spares_written log known store file a b c place chain cut (Err f) same leads free opened lawful lost left = elim left [
  | inl stays ↦ inl (λ writes.
      stays file (leads writes) (subst (λ (h : FilesHeld). IsFree h place) (sym same) (free writes)) writes ∙ ap (λ (h : FilesHeld). h file) same)
  | inr placed ↦ inr (chain, cut, opened, lawful, (placed.0, placed_holds known c file place (IsWritten log.digest chain placed.0) leads placed.1))
]
