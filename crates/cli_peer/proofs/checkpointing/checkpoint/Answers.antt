use Rattle.std.proofs.Common.{◌∙◌, Result, Err, inl, refl, subst}
use Rattle.std.proofs.lemmas.Result.{err_from_is_err_and}
use Rattle.ledger_model.specs.Chain.{Bytes}
use Rattle.kept_state.specs.Keeping.{chain_of}
use Rattle.ledger_setting.specs.Rule.{table_of}
use Rattle.log_peer.specs.Refusals.{store_text}
use Rattle.log_peer.specs.declared.refusal.StoreRefusal.{StoreRefusal}
use Rattle.log_peer.specs.Storing.{IsOpenRefused, IsOpened}
use Rattle.cli_lines.specs.Places.{FilesHeld}
use Rattle.cli_lines.specs.Told.{IsTextOf}
use Rattle.cli_lines.specs.Whole.{whole_names}
use Rattle.cli_lines.specs.declared.failure.Failure.TheVariants.{Printed}
use Rattle.cli_lines.proofs.Answering.{begins_err}
use Rattle.cli_lines.proofs.Changes.{changes_from, changes_none}
use Rattle.cli_lines.proofs.Printing.{nothing_same, printed_on_ok}
use Rattle.cli_lines.proofs.Silence.{no_less, tells_by}
use Rattle.cli_peer.specs.Checkpoints.{Checkpoints, TellsCheckpoint, TellsPlaced}
use Rattle.cli_peer.specs.Filters.{PrintsSo}
use Rattle.cli_peer.specs.declared.checkpointing.Stored.{Stored}
use Rattle.cli_peer.specs.Stored.{IsRead}
use Rattle.cli_peer.specs.Opening.{Opens, TellsUnopened}
use Rattle.cli_peer.proofs.Checkpoints.{other_all, other_none, placed_tells, spares_kept, spares_written}
use Rattle.cli_peer.proofs.Filters.{done_so, ended_by, start_ended}
use Rattle.cli_peer.proofs.checkpointing.checkpoint.Goals as goal

pub returns-in_err-place : goal.returns-in_err-place
returns-in_err-place g c =
    let p = err_from_is_err_and c.from_residual.result c.from_residual.ensures.1 in
    let t = c.args.out.now in
    let e = c.in_err-place.ensures in
    let known = g.F.Files.is_known in
    let old = g.F.Files.bytes c.args.files.now in
    let new = g.F.Files.bytes c.place_of.new.files in
    let file = c.args.asked.now.file.now in
    rw (p.1, p.2) (record {
      tells = tells_by t t _ (no_less t) e.silent;
      answers = inl e.lost;
      begins = λ broken. inl (nothing_same t);
      others = changes_none known (whole_names file) old new e.kept;
      spares = other_all known old file _ e.kept;
      stays = spares_kept c.args.log.now known c.args.asked.now.store.now file old new (Err c.in_err-place.field-0.0) e.kept;
    })

pub returns-in_err-read : goal.returns-in_err-read
returns-in_err-read g c =
    let p = err_from_is_err_and c.from_residual-in_err-read.result c.from_residual-in_err-read.ensures.1 in
    let t = c.args.out.now in
    let e = c.in_err-read.ensures in
    let known = g.F.Files.is_known in
    let old = g.F.Files.bytes c.args.files.now in
    let new = g.F.Files.bytes c.read_store.new.files in
    let file = c.args.asked.now.file.now in
    let same = e.kept ∙ c.place_of.ensures.kept in
    rw (p.1, p.2) (record {
      tells = tells_by t t _ (no_less t) e.silent;
      answers = inl e.lost;
      begins = λ broken. inl (nothing_same t);
      others = changes_none known (whole_names file) old new same;
      spares = other_all known old file _ same;
      stays = spares_kept c.args.log.now known c.args.asked.now.store.now file old new (Err c.in_err-read.field-0.0) same;
    })

-- ---- the store is refused

pub returns-clause-answers : goal.returns-clause-answers
returns-clause-answers g c =
    let log = c.args.log.now in
    let rules = log.genesis.rules.value in
    let store = c.args.asked.now.store.now in
    let held = g.F.Files.bytes c.args.files.now store in
    let after = g.F.Files.bytes c.explain_store.new.files c.args.asked.now.file.now in
    let cause = c.in-Err.refusal in
    let placed = g.F.Files.bytes c.place_of.new.files store in
    let read = subst (λ (r : Result Stored StoreRefusal). IsRead (table_of rules) placed r) c.in-Err.is c.in_ok-read.ensures.read in
    let refused = subst (λ (h : FilesHeld). IsOpenRefused (table_of rules) (h store) cause) c.place_of.ensures.kept read in
    let Does = λ (t : Bytes). Opens rules held (λ chain cut. TellsCheckpoint log.digest g.F.Files.is_known after chain t) in
    ended_by (Unit {0}) Does (TellsUnopened rules held) c.args.out.now c.end.new.out c.end.result (store_text cause) c.end.ensures.ends (cause, refused, refl)

pub returns-clause-begins : goal.returns-clause-begins
returns-clause-begins g c =
    let log = c.args.log.now in
    let rules = log.genesis.rules.value in
    let store = c.args.asked.now.store.now in
    let held = g.F.Files.bytes c.args.files.now store in
    let after = g.F.Files.bytes c.explain_store.new.files c.args.asked.now.file.now in
    let cause = c.in-Err.refusal in
    let placed = g.F.Files.bytes c.place_of.new.files store in
    let read = subst (λ (r : Result Stored StoreRefusal). IsRead (table_of rules) placed r) c.in-Err.is c.in_ok-read.ensures.read in
    let refused = subst (λ (h : FilesHeld). IsOpenRefused (table_of rules) (h store) cause) c.place_of.ensures.kept read in
    λ broken. start_ended (IsTextOf (Checkpoints log g.F.Files.is_known held after)) c.args.out.now c.end.new.out c.end.result (store_text cause)
    c.end.ensures.ends (Err Printed, (refl, (cause, refused, refl)))

pub returns-clause-others : goal.returns-clause-others
returns-clause-others g c =
    let bytes = g.F.Files.bytes in
    changes_none g.F.Files.is_known (whole_names c.args.asked.now.file.now) (bytes c.args.files.now) (bytes c.explain_store.new.files)
    (c.explain_store.ensures.kept ∙ c.read_store.ensures.kept ∙ c.place_of.ensures.kept)

pub returns-clause-spares : goal.returns-clause-spares
returns-clause-spares g c =
    other_all g.F.Files.is_known (g.F.Files.bytes c.args.files.now) c.args.asked.now.file.now _
    (c.explain_store.ensures.kept ∙ c.read_store.ensures.kept ∙ c.place_of.ensures.kept)

pub returns-clause-stays : goal.returns-clause-stays
returns-clause-stays g c =
    let bytes = g.F.Files.bytes in
    spares_kept c.args.log.now g.F.Files.is_known c.args.asked.now.store.now c.args.asked.now.file.now (bytes c.args.files.now)
    (bytes c.explain_store.new.files) (Err c.end.result) (c.explain_store.ensures.kept ∙ c.read_store.ensures.kept ∙ c.place_of.ensures.kept)

-- ---- the checkpoint is written

pub returns-in-Ok-clause-answers : goal.returns-in-Ok-clause-answers
returns-in-Ok-clause-answers g c =
    let log = c.args.log.now in
    let rules = log.genesis.rules.value in
    let known = g.F.Files.is_known in
    let store = c.args.asked.now.store.now in
    let file = c.args.asked.now.file.now in
    let held = g.F.Files.bytes c.args.files.now store in
    let r = c.write_stored in
    let new = g.F.Files.bytes r.new.files in
    let stored = c.in-Ok.stored in
    let chain = chain_of stored.chain in
    let target = c.in_ok-place.place.target in
    let placed = g.F.Files.bytes c.place_of.new.files store in
    let read = subst (λ (r : Result Stored StoreRefusal). IsRead (table_of rules) placed r) c.in-Ok.is c.in_ok-read.ensures.read in
    let opened = subst (λ (h : FilesHeld). IsOpened (h store) chain stored.held) c.place_of.ensures.kept read.2 in
    let Does = λ (t : Bytes). Opens rules held (λ chain cut. TellsCheckpoint log.digest known (new file) chain t) in
    let Placed = TellsPlaced log.digest known new target chain in
    let t = c.args.out.now in
    let u = r.new.out in
    done_so Does (TellsUnopened rules held) t u r.result
    (printed_on_ok r.result (PrintsSo Placed t u) (PrintsSo Does t u)
    (λ so. (so.0, (chain, stored.held, opened, read.1, placed_tells log.digest known new file target chain so.0 c.in_ok-place.ensures.file so.1), so.2))
    r.ensures.prints) r.ensures.lost

pub returns-in-Ok-clause-begins : goal.returns-in-Ok-clause-begins
returns-in-Ok-clause-begins g c =
    let held = g.F.Files.bytes c.args.files.now c.args.asked.now.store.now in
    let after = g.F.Files.bytes c.write_stored.new.files c.args.asked.now.file.now in
    begins_err (IsTextOf (Checkpoints c.args.log.now g.F.Files.is_known held after)) c.args.out.now c.write_stored.new.out c.write_stored.result
    c.write_stored.ensures.nothing

pub returns-in-Ok-clause-others : goal.returns-in-Ok-clause-others
returns-in-Ok-clause-others g c =
    let bytes = g.F.Files.bytes in
    let file = c.args.asked.now.file.now in
    changes_from g.F.Files.is_known (whole_names file) (bytes c.args.files.now) (bytes c.explain_torn.new.files) (bytes c.write_stored.new.files)
    (c.explain_torn.ensures.kept ∙ c.read_store.ensures.kept ∙ c.place_of.ensures.kept)
    (λ writes. c.write_stored.ensures.others file (c.in_ok-place.ensures.file writes) writes)

pub returns-in-Ok-clause-spares : goal.returns-in-Ok-clause-spares
returns-in-Ok-clause-spares g c =
    other_none g.F.Files.is_known (g.F.Files.bytes c.args.files.now) c.args.asked.now.file.now _ c.in_ok-place.ensures.held

pub returns-in-Ok-clause-stays : goal.returns-in-Ok-clause-stays
returns-in-Ok-clause-stays g c =
    let bytes = g.F.Files.bytes in
    let rules = c.args.log.now.genesis.rules.value in
    let store = c.args.asked.now.store.now in
    let stored = c.in-Ok.stored in
    let chain = chain_of stored.chain in
    let r = c.write_stored in
    let placed = g.F.Files.bytes c.place_of.new.files store in
    let read = subst (λ (r : Result Stored StoreRefusal). IsRead (table_of rules) placed r) c.in-Ok.is c.in_ok-read.ensures.read in
    let opened = subst (λ (h : FilesHeld). IsOpened (h store) chain stored.held) c.place_of.ensures.kept read.2 in
    spares_written c.args.log.now g.F.Files.is_known store c.args.asked.now.file.now (bytes c.args.files.now) (bytes c.explain_torn.new.files)
    (bytes r.new.files) c.in_ok-place.place.target chain stored.held r.result
    (c.explain_torn.ensures.kept ∙ c.read_store.ensures.kept ∙ c.place_of.ensures.kept) c.in_ok-place.ensures.file c.in_ok-place.ensures.free opened read.1
    r.ensures.lost r.ensures.stays
