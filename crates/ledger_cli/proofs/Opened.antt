-- What a system begins with, by its files.
use Rattle.std.proofs.Common.{◌≡◌, ◌⊎◌, ℕ, List, Option, Some, None, Result, Ok, Err, IfOk, IfErr, inl, inr, refl, sym, subst, ◌∙◌}
use Rattle.std.specs.Prelude.{MatchResult, option_map}
use Rattle.std.specs.declared.alloc.Global.{Global}
use Rattle.std.specs.declared.sync.Arc.{Arc}
use Rattle.sha2.specs.Sha256.{sha256}
use Rattle.ledger_setting.specs.declared.genesis.Genesis.{Genesis}
use Rattle.cli_lines.specs.Told.{IsBrokenOff, IsHeld}
use Rattle.cli_lines.specs.Opening.{AreNoModules}
use Rattle.cli_lines.specs.Places.{FilesHeld}
use Rattle.cli_lines.specs.Sealing.{HasSeeds, IsNoKeyFile}
use Rattle.cli_lines.specs.declared.failure.Failure.{Failure}
use Rattle.peer_answers.specs.declared.log_genesis.LogGenesis.{LogGenesis}
use Rattle.cli_words.specs.declared.task.Beginning.{Beginning}
use Rattle.ledger_cli.specs.Opening.{FileHeld, HasKeys, IsOpened, IsNotOpened, Signs, SpellsWith}

-- with no key file
pub opened_alone : (held : Option (List ℕ)) (modules keys : FileHeld) (bytes : List ℕ) (log : LogGenesis) → keys ≡ None → IsHeld held bytes →
    SpellsWith bytes modules log.genesis → log.digest ≡ sha256 bytes → IsOpened held modules keys log
opened_alone held modules keys bytes log none holds spelled digest =
    record {
      bytes = bytes;
      holds = holds;
      genesis = log.genesis;
      spelled = spelled;
      seeds = subst (λ (k : FileHeld). HasKeys k log.genesis.signers.value) (sym none) spelled.2.2.2.signers;
      same = record {
        book = refl;
        rules = refl;
        peers = refl;
        seats = refl;
        queue = refl;
        count = refl;
        preferred = refl;
        absolute = refl;
        reorder = refl;
      };
      digest = digest;
    }

-- the key file is refused
pub keys_refused : (held : Option (List ℕ)) (modules keys : FileHeld) (file : Option (List ℕ)) (bytes : List ℕ) (g : Genesis) (f : Failure) →
    keys ≡ Some file → IsHeld held bytes → SpellsWith bytes modules g → IsNoKeyFile file f → IsNotOpened held modules keys f
keys_refused held modules keys file bytes g f some holds spelled refused =
    subst (λ (k : FileHeld). IsNotOpened held modules k f) (sym some) (inr (inr ((bytes, holds, g, spelled), refused)))

-- the seeds of a key file are put into a genesis
pub signed_opens : (held : Option (List ℕ)) (modules keys : FileHeld) (file : Option (List ℕ)) (bytes : List ℕ) (log : LogGenesis)
    (signers : Result (Arc (List (List ℕ)) Global) Failure) (r : Result LogGenesis Failure) → keys ≡ Some file → IsHeld held bytes →
    SpellsWith bytes modules log.genesis → log.digest ≡ sha256 bytes → IfOk signers (λ s. HasSeeds file s.value) → Signs log signers r →
    IfOk r (IsOpened held modules keys)
signed_opens held modules keys file bytes log (Ok s) (Ok r) some holds spelled digest seeds is =
    let has : HasSeeds file r.genesis.signers.value = subst (λ (xs : List (List ℕ)). HasSeeds file xs) (sym is.1) seeds in
    record {
      bytes = bytes;
      holds = holds;
      genesis = log.genesis;
      spelled = spelled;
      seeds = subst (λ (k : FileHeld). HasKeys k r.genesis.signers.value) (sym some) has;
      same = is.0;
      digest = is.2 ∙ digest;
    }
signed_opens held modules keys file bytes log (Ok s) (Err f) some holds spelled digest seeds is = tt
signed_opens held modules keys file bytes log (Err f) r some holds spelled digest seeds is =
    subst (λ (q : Result LogGenesis Failure). IfOk q (IsOpened held modules keys)) (sym is) tt

-- or the key file is refused
pub signed_refused : (held : Option (List ℕ)) (modules keys : FileHeld) (file : Option (List ℕ)) (bytes : List ℕ) (log : LogGenesis)
    (signers : Result (Arc (List (List ℕ)) Global) Failure) (r : Result LogGenesis Failure) → keys ≡ Some file → IsHeld held bytes →
    SpellsWith bytes modules log.genesis → IfErr signers (IsNoKeyFile file) → Signs log signers r → IfErr r (IsNotOpened held modules keys)
signed_refused held modules keys file bytes log (Ok s) (Ok r) some holds spelled refused is = tt
signed_refused held modules keys file bytes log (Ok s) (Err f) some holds spelled refused is = absurd is
signed_refused held modules keys file bytes log (Err f) r some holds spelled refused is =
    subst (λ (q : Result LogGenesis Failure). IfErr q (IsNotOpened held modules keys)) (sym is)
    (keys_refused held modules keys file bytes log.genesis f some holds spelled refused)

-- the genesis of bytes that were read, by what the files held before
pub read_before : (held mid : FilesHeld) (b : Beginning) (xs bytes : List ℕ) (P : List ℕ → FileHeld → Type 0) → mid ≡ held → xs ≡ bytes →
    P xs (option_map (λ name. mid name.now) b.modules) → P bytes (option_map (λ name. held name.now) b.modules)
read_before held mid b xs bytes P files read h =
    subst (λ (m : FilesHeld). P bytes (option_map (λ name. m name.now) b.modules)) files
    (subst (λ (ys : List ℕ). P ys (option_map (λ name. mid name.now) b.modules)) read h)

-- the modules file was not read, or its bytes are refused
pub modules_refused : {V E : Type 0} (items : V → List ℕ) (held : Option (List ℕ)) (f : Failure) (read : Result V E) →
    IfOk read (λ v. IsHeld held (items v)) → MatchResult read (λ v. AreNoModules (items v) f) (λ e. IsBrokenOff f) →
    IsBrokenOff f ⊎ ((bytes : List ℕ) × IsHeld held bytes × AreNoModules bytes f)
modules_refused items held f (Ok v) holds refused = inr (items v, holds, refused)
modules_refused items held f (Err e) holds refused = inl refused
