-- What is printed of a line of the log.
use Rattle.std.proofs.Common.{◌≡◌, List, [], ◌∷◌, ◌++◌, false, true, All, None, OnErr, Result, Ok, Err, refl, sym, subst, inl, inr, ◌⊎◌}
use Rattle.std.proofs.lemmas.List.Elements.{All-cons, All-nil}
use Rattle.std.specs.List.{AllByRecursion, AllZip}
use Rattle.hex.specs.Hex.{encode_lower}
use Rattle.endorsement_policy.specs.Endorsed.{Listed}
use Rattle.ledger_model.specs.Chain.{Bytes, Chain}
use Rattle.ledger_setting.specs.Rule.{table_of}
use Rattle.log_orderer.specs.Handed.{batches_of}
use Rattle.log_orderer.specs.declared.batch.LogBatch.{LogBatch}
use Rattle.log_orderer.specs.declared.replica.LineReport.{LineReport}
use Rattle.log_orderer.specs.declared.replica.LineReport.TheVariants as line
use Rattle.log_orderer.specs.declared.skip.Skip.{Skip}
use Rattle.log_committer.specs.Peering.{Held, ReadsLine}
use Rattle.log_peer.specs.Peering.{IsBatchOf, IsJoinedIn, IsReportOf, batches_in, told_by}
use Rattle.log_peer.specs.declared.peering.PeerBatch.{PeerBatch}
use Rattle.log_peer.specs.declared.peering.PeerReport.{PeerReport}
use Rattle.log_peer.specs.declared.peering.PeerReport.TheVariants.{Skipped, Ticked}
use Rattle.log_peer.specs.declared.peering.PeerReport.TheVariants as peer
use Rattle.cli_lines.specs.Told.{Begins, Prints, PrintsNothing, PrintsPart, Told}
use Rattle.cli_lines.specs.declared.failure.Failure.{Failure}
use Rattle.cli_lines.proofs.Printing.{part_first, part_none, part_then, prints_none}
use Rattle.cli_peer.specs.Filters.{PrintsSo}
use Rattle.cli_peer.specs.Logged.{IsHandedOut, IsLogged, Reached, TellsEntry, TellsReport, TellsText}
use Rattle.cli_peer.specs.Marks.{NamesAnotherIn}
use Rattle.cli_peer.specs.Printed.{read_text, skipped_text}
use Rattle.peer_answers.specs.declared.log_genesis.LogGenesis.{LogGenesis}
use Rattle.cli_peer.proofs.Filters.{told_behind}

-- ---- the batches that a line ended

pub told_are : (report : LineReport) (told : PeerReport) → IsReportOf report told → AllZip IsBatchOf (batches_of report) (batches_in told)
told_are (line.Accepted id batches) (peer.Accepted told others) is = is.1
told_are (line.Ticked batch) (peer.Ticked told) is = is
told_are (line.Skipped skip) (peer.Skipped told) is = tt
told_are (line.Accepted id batches) (peer.Ticked told) is = absurd is
told_are (line.Accepted id batches) (peer.Skipped told) is = absurd is
told_are (line.Ticked batch) (peer.Accepted told others) is = absurd is
told_are (line.Ticked batch) (peer.Skipped told) is = absurd is
told_are (line.Skipped skip) (peer.Accepted told others) is = absurd is
told_are (line.Skipped skip) (peer.Ticked told) is = absurd is

-- what joined the chain is handed out
zip_handed : (chain : Chain) (made : List LogBatch) (told : List PeerBatch) → AllZip IsBatchOf made told → AllByRecursion (IsJoinedIn chain) told →
    All (IsHandedOut chain) told
zip_handed chain [] [] are joined = All-nil (IsHandedOut chain)
zip_handed chain [] (t ∷ told) are joined = absurd are
zip_handed chain (m ∷ made) [] are joined = absurd are
zip_handed chain (m ∷ made) (t ∷ told) are joined =
    All-cons (IsHandedOut chain) t told (are.0.3, joined.0) (zip_handed chain made told are.1 joined.1)

pub all_handed : (chain : Chain) (report : LineReport) (told : PeerReport) → IsReportOf report told → AllByRecursion (IsJoinedIn chain) (batches_in told) →
    All (IsHandedOut chain) (batches_in told)
all_handed chain report told is joined = zip_handed chain (batches_of report) (batches_in told) (told_are report told is) joined

-- ---- a line

-- a line that was read, by what is told of it
pub line_logged : (log : LogGenesis) (by : Listed) (old new : Reached) (index said : Bytes) (told : PeerReport) → by ≡ log.genesis.rules.value →
    (report : LineReport) × IsReportOf report told × ReadsLine (table_of by) old.held said report (told_by told) new.held →
    ¬ ((old.begun ≡ false) × NamesAnotherIn (encode_lower log.digest) said) → new.begun ≡ true →
    (text : Bytes) → TellsEntry log new.held index said told text → IsLogged log old index said text new
line_logged log by old new index said told same read other begun text tells =
    record {
      report = read.0;
      told = told;
      is = read.1;
      reads = subst (λ (l : Listed). ReadsLine (table_of l) old.held said read.0 (told_by told) new.held) same read.2;
      tells = tells;
      first = λ first names. other (first, names);
      begun = begun;
    }

module _ (log : LogGenesis) (held : Held) (index said : Bytes) (report : PeerReport) where
  -- what a line came to, but for its end
  pub entry_begun : {A : Type 0} (r : Result A Failure) (t u : Told) →
      PrintsNothing t u ⊎ ((whole : Bytes) × TellsReport log held index said report whole × PrintsPart t u whole) →
      Begins (TellsEntry log held index said report) t u r
  entry_begun r t u (inl none) = λ broken. inl none
  entry_begun r t u (inr part) = λ broken. inr (
    part.0 ++ read_text index held.log,
    (part.0, part.1, refl),
    part_first t u part.0 (read_text index held.log) part.2,
  )

  pub entry_ended : {A : Type 0} (r : Result A Failure) (t u v : Told) → PrintsSo (TellsReport log held index said report) t u →
      OnErr r (PrintsNothing u v) → Begins (TellsEntry log held index said report) t v r
  entry_ended (Ok a) t u v first none = λ broken. absurd broken
  entry_ended (Err e) t u v first none = λ broken. inr (
    first.0 ++ read_text index held.log,
    (first.0, first.1, refl),
    part_then t u v first.0 (read_text index held.log) first.2 (part_none u v (read_text index held.log) none),
  )

  -- a tick without a batch
  pub told_none : (t : Told) → report ≡ Ticked None → PrintsSo (TellsReport log held index said report) t t
  told_none t is = subst (λ (r : PeerReport). PrintsSo (TellsReport log held index said r) t t) (sym is) ([], refl, prints_none t)

  -- why a line is skipped, behind what it says of a block
  pub told_skipped : (skip : Skip) (t u v : Told) → report ≡ Skipped skip → PrintsSo (TellsText log held said) t u → Prints u v (skipped_text index skip) →
      PrintsSo (TellsReport log held index said report) t v
  told_skipped skip t u v is first next =
      subst (λ (r : PeerReport). PrintsSo (TellsReport log held index said r) t v) (sym is)
      (told_behind (TellsText log held said) (skipped_text index skip) t u v first next)

  -- of it, but for its end
  told_begun : {A : Type 0} (r : Result A Failure) (skip : Skip) (t u v : Told) → report ≡ Skipped skip → PrintsSo (TellsText log held said) t u →
      PrintsNothing u v → Begins (TellsReport log held index said report) t v r
  told_begun r skip t u v is first none =
      let more = skipped_text index skip in
      let told : TellsReport log held index said (Skipped skip) (first.0 ++ more) = (first.0, first.1, refl) in
      λ broken. inr (
        first.0 ++ more,
        subst (λ (r : PeerReport). TellsReport log held index said r (first.0 ++ more)) (sym is) told,
        part_then t u v first.0 more first.2 (part_none u v more none),
      )

  pub told_ended : {A : Type 0} (r : Result A Failure) (skip : Skip) (t u v : Told) → report ≡ Skipped skip → PrintsSo (TellsText log held said) t u →
      OnErr r (PrintsNothing u v) → Begins (TellsReport log held index said report) t v r
  told_ended (Ok a) skip t u v is first none = λ broken. absurd broken
  told_ended {A} (Err e) skip t u v is first none = told_begun {A = A} (Err e) skip t u v is first none
